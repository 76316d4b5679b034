-- The words of edges that are lent are bytes.
-- In order: bytes-lent.
-- Assumes nothing.
use Rattle.std.proofs.Common.{◌^◌, ◌≤◌}
use Rattle.laws.proofs.All.{arith, ltb-true, pow_mono}
use Rattle.table.specs.declared.lent.Edges.{Edges}
use Rattle.table.specs.Lent.{edges_in}
use Rattle.window_test.proofs.TwoEdges.{Bytes}

pub bytes-lent : (e : Edges) → Bytes (edges_in e)
bytes-lent e i h q =
    let n : 2 ^ e.q ≤ 2 ^ 8 = pow_mono e.narrow in
    let l = e.reading i h (ltb-true _ _ q) in
    omega arith

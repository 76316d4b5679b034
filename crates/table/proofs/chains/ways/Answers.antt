-- A shift of 1 by p ≤ 4 places loses nothing.
use Rattle.std.proofs.Common.{◌≡◌, ◌*◌, ◌%◌, ◌^◌, ◌≤◌}
use Rattle.laws.proofs.All.{◌∙◌, arith, one-mul, lit<, pow_mono, shl_exact}
use Rattle.table.proofs.chains.ways.Goals as goal

pub returns : goal.returns
returns c =
    let p = c.args.p in
    let e : 1 * 2 ^ p % 2 ^ 64 ≡ 2 ^ p = shl_exact {a = 1} 1 p 64 (lit< tt) (omega arith) ∙ one-mul (2 ^ p) in
    let h : 2 ^ p ≤ 2 ^ 4 = pow_mono c.requires in
    record { answer = (e, omega arith) }

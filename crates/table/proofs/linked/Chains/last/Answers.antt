-- The place at which the chain of the word starts.
use Rattle.std.proofs.Common.{rules, ◌≡◌}
use Rattle.laws.proofs.All.{arith}
use Rattle.table.specs.Edges.{last_below, places}
use Rattle.table.specs.Lent.{edges_in}
use Rattle.table.specs.Chains.{after}
use Rattle.table.proofs.Edges.{on-edge}
use Rattle.table.proofs.linked.Chains.last.Goals as goal

pub returns-clause-edge : goal.returns-clause-edge
returns-clause-edge c =
    let t = edges_in c.args.self.now.edges in
    let q : after c.checked_sub.result ≡ last_below t c.args.w (places t) = search rules in
    on-edge t c.args.w (places t) (places t) c.checked_sub.result q (omega arith)

-- The place to which the chain goes on.
use Rattle.std.proofs.Common.{rules, ◌≡◌}
use Rattle.laws.proofs.All.{arith}
use Rattle.table.specs.Edges.{last_below, word_of}
use Rattle.table.specs.Lent.{edges_in}
use Rattle.table.specs.Chains.{after}
use Rattle.table.proofs.Edges.{on-edge}
use Rattle.table.proofs.linked.Chains.before.Goals as goal

pub returns-clause-edge : goal.returns-clause-edge
returns-clause-edge c =
    let t = edges_in c.args.self.now.edges in
    let w = word_of t c.args.e in
    let q : after c.checked_sub.result ≡ last_below t w c.args.e = search rules in
    on-edge t w c.args.e c.args.e c.checked_sub.result q (omega arith)

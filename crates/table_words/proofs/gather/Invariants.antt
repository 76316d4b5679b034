-- The loop goes along the chain of the word from its last edge to its first; what is left to gather is up to `at`.
use Rattle.std.proofs.Common.{◌≡◌, ◌<◌, IfSome}
use Rattle.laws.proofs.All.{true}
use Rattle.table.specs.Edges.{places, bears}
use Rattle.table.specs.Lent.{edges_in}
use Rattle.table.specs.Chains.{after}
use Rattle.table_words.proofs.Gathers.{Partly}
use Rattle.table_words.proofs.gather.Given as goal

abbrev pub invariant-loop-at : goal.invariant-loop-at
invariant-loop-at l =
    let t = edges_in l.chains.edges in
    IfSome l.at (λ e. (e < places t) × (bears t l.w e ≡ true))
    × Partly t l.w l.k (places t) (after l.at) l.have l.targets

abbrev pub decreases-loop-at : goal.decreases-loop-at
decreases-loop-at l = after l.at

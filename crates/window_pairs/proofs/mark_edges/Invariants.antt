-- The loop goes along the chain of the word from its last edge to its first; what is left to mark is up to `at`.
use Rattle.std.proofs.Common.{◌≡◌, ◌<◌, IfSome}
use Rattle.laws.proofs.All.{true, ℕ, any}
use Rattle.table.specs.Edges.{places, bears}
use Rattle.table.specs.Lent.{edges_in}
use Rattle.table.specs.Chains.{after}
use Rattle.bitsets.specs.BitSets.{holds, members_of}
use Rattle.table_words.specs.Gathered.{holds_in}
use Rattle.window_pairs.specs.PairSets.{joins}
use Rattle.window_pairs.proofs.RowMarks.{Left}
use Rattle.window_pairs.proofs.mark_edges.Given as goal

abbrev pub invariant-loop-at : goal.invariant-loop-at
invariant-loop-at l =
    let t = edges_in l.chains.edges in
    IfSome l.at (λ e. (e < places t) × (bears t l.w e ≡ true))
    × ((u : ℕ) → holds l.joined u ≡ any (holds_in l.targets u) (members_of l.last))
    × Left l.initial.out (joins t l.pairs l.w l.k) (places t) (after l.at) l.out

abbrev pub decreases-loop-at : goal.decreases-loop-at
decreases-loop-at l = after l.at

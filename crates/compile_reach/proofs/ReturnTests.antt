-- Whether every state reachable from s can reach it back, stated over the arrays of the code.
-- In order: fails_at, fails-yes, fails-no.
-- Assumes nothing.
use Rattle.std.proofs.Common.{◌≡◌, ◌&&◌, ◌≤◌, ◌<◌}
use Rattle.laws.proofs.All.{Bool, true, false, not, List, ℕ, ltb, length, get_or, take}
use Rattle.compile_graph.specs.Component.{returning, live}
use Rattle.compile_reach.specs.ReachSets.{reach_at, rows_of}
use Rattle.compile_reach.proofs.ComponentMembers.{returning-yes, returning-no}

-- t is reached from s and does not reach back
abbrev pub fails_at : List Bool → List ℕ → ℕ → ℕ → Bool
fails_at M v s t = ltb 0 (get_or v t 0) && (reach_at M t s && not (reach_at M s t))

module _ (M : List Bool) (v : List ℕ) (k : ℕ) (few : k ≤ 16) (long : length v ≡ 16) where
  pub fails-yes : (s : ℕ) → s < k → ((t : ℕ) → t < k → fails_at M v s t ≡ false)
      → returning (rows_of M k) (live (take k v)) s ≡ true
  fails-yes s h f = returning-yes M v k few long s h f

  pub fails-no : (s t : ℕ) → s < k → t < k → fails_at M v s t ≡ true → returning (rows_of M k) (live (take k v)) s
      ≡ false
  fails-no s t h l e = returning-no M v k few long s t h l e

-- How many states of a set are below a state.
-- In order: rank-none, rank-yes, rank-no, rank-le, by the states passed; rank-small, at most t.
-- Assumes nothing.
use Rattle.std.proofs.Common.{◌≡◌, ◌∷◌, ◌+◌, ◌≤◌}
use Rattle.laws.proofs.All.{refl, ap, ◌∙◌, Bool, true, false, List, [], ℕ, zero, suc}
use Rattle.laws.proofs.All.{arith, length, length-append, member}
use Rattle.compile_table.specs.Finishing.{rank}
use Rattle.compile_graph.proofs.Values.{climbs}
use Rattle.compile_graph.proofs.UpTo.{up_to, up_to-yes, up_to-no}

module _ (S : List Bool) where
  pub rank-none : rank S 0 ≡ 0
  unfolding rank
  rank-none = refl

  pub rank-yes : (t : ℕ) → member S t ≡ true → rank S (t + 1) ≡ rank S t + 1
  unfolding rank
  rank-yes t e = ap length (up_to-yes (member S) t e) ∙ length-append (up_to (member S) t) (t ∷ [])

  pub rank-no : (t : ℕ) → member S t ≡ false → rank S (t + 1) ≡ rank S t
  unfolding rank
  rank-no t e = ap length (up_to-no (member S) t e)

  rank_step : (t : ℕ) (b : Bool) → member S t ≡ b → rank S t ≤ rank S (t + 1)
  rank_step t true e = omega (arith, rank-yes t e)
  rank_step t false e = omega (arith, rank-no t e)

  pub rank-le : (t k : ℕ) → t ≤ k → rank S t ≤ rank S k
  rank-le = climbs (rank S) (λ t. rank_step t (member S t) refl)

pub rank-small : (S : List Bool) (t : ℕ) → rank S t ≤ t
rank-small S zero = omega (arith, rank-none S)
rank-small S (suc t) = go (member S t) refl (rank-small S t)
  where
    up : suc t ≡ t + 1
    up = omega arith

    go : (b : Bool) → member S t ≡ b → rank S t ≤ t → rank S (suc t) ≤ suc t
    go true e h = rw up (omega (arith, rank-yes S t e))
    go false e h = rw up (omega (arith, rank-no S t e))

-- Parting a state: the weights of the two parts.
-- In order: weights', length', w-old, w-new, w-other, sum'.
-- Assumes nothing.
use Rattle.std.proofs.Common.{◌≡◌, ◌∷◌, ◌++◌, ◌+◌, ◌-◌, ◌≤◌, ◌<◌}
use Rattle.laws.proofs.All.{◌∙◌, List, [], ℕ, suc, arith, length, get_or, set}
use Rattle.laws.proofs.All.{length-append, length-set, get_or-append, get_or-append_seam, get_or-set_same}
use Rattle.laws.proofs.All.{get_or-set_other, sum, sum-append, sum-set}

-- ---- the new weights
module _ (v : List ℕ) (s w : ℕ) (hs : s < length v) where
  abbrev pub weights' : List ℕ
  weights' = set v s w ++ ((get_or v s 0 - w) ∷ [])

  pub length' : length weights' ≡ suc (length v)
  length' = length-append (set v s w) ((get_or v s 0 - w) ∷ []) ∙ rw (length-set v s w) (omega arith)

  pub w-old : get_or weights' s 0 ≡ w
  w-old = get_or-append (set v s w) ((get_or v s 0 - w) ∷ []) 0 s (rw (length-set v s w) hs)
      ∙ get_or-set_same v s w 0 hs

  pub w-new : get_or weights' (length v) 0 ≡ get_or v s 0 - w
  w-new = cc (length-set v s w, get_or-append_seam (set v s w) (get_or v s 0 - w) [] 0)

  pub w-other : (i : ℕ) → i < length v → (i ≡ s → ⊥) → get_or weights' i 0 ≡ get_or v i 0
  w-other i h d =
      get_or-append (set v s w) ((get_or v s 0 - w) ∷ []) 0 i (rw (length-set v s w) h) ∙ get_or-set_other v s i w 0 d

  pub sum' : w ≤ get_or v s 0 → sum weights' ≡ sum v
  sum' h = let a : sum weights' ≡ sum (set v s w) + (get_or v s 0 - w + 0) =
      sum-append (set v s w) ((get_or v s 0 - w) ∷ []) in omega (arith, sum-set v s w hs)

-- A list that grows by what it has: what `extend` puts after a list, and at which place.
-- In order: length-extend, extend-start, extend-more, extend-at.
-- Assumes nothing.
use mathlib.Core.Path.{◌≡◌, refl, sym, ap, ◌∙◌}
use mathlib.Core.List.{List, [], ◌∷◌, ◌++◌}
use Prim.Native.Nat.{ℕ, zero, suc, ◌+◌, ◌≤◌, ◌<◌}
use native.Mathlib.Nat.{add-zero, le_refl, not-suc-le-zero, le_of_suc-le-suc}
use native.Mathlib.Omega.{arith}
use lib.ListN.{length, get_or, take, length-append}
use lib.Seq.{take_all, take-take, take-append_seam, get_or-take, get_or-append_seam}
use Rattle.laws.specs.Lists.{extend}

module _ {ℓ} {A B : Type ℓ} (f : List B → A → B) where
  pub length-extend : (ys : List B) (xs : List A) → length (extend f ys xs) ≡ length ys + length xs
  length-extend ys [] = sym (add-zero (length ys))
  length-extend ys (x ∷ xs) =
      length-extend (ys ++ f ys x ∷ []) xs ∙ omega (arith, length-append ys (f ys x ∷ []))

  -- what was there stays in front
  pub extend-start : (ys : List B) (xs : List A) → take (length ys) (extend f ys xs) ≡ ys
  extend-start ys [] = take_all (length ys) ys (le_refl (length ys))
  extend-start ys (x ∷ xs) =
      let e = extend f (ys ++ f ys x ∷ []) xs in
      let h : length ys ≤ length (ys ++ f ys x ∷ []) = omega (arith, length-append ys (f ys x ∷ [])) in
      sym (take-take (length ys) (length (ys ++ f ys x ∷ [])) e h)
      ∙ ap (take (length ys)) (extend-start (ys ++ f ys x ∷ []) xs) ∙ take-append_seam ys (f ys x ∷ [])

  -- one element more
  pub extend-more : (ys : List B) (xs : List A) (x : A)
      → extend f ys (xs ++ x ∷ []) ≡ extend f ys xs ++ f (extend f ys xs) x ∷ []
  extend-more ys [] x = refl
  extend-more ys (y ∷ xs) x = extend-more (ys ++ f ys y ∷ []) xs x

  -- the element made of the k-th of xs and of all before it
  pub extend-at : (ys : List B) (xs : List A) (k : ℕ) (d : B) (d' : A) → k < length xs
      → get_or (extend f ys xs) (length ys + k) d ≡ f (take (length ys + k) (extend f ys xs)) (get_or xs k d')
  extend-at ys [] k d d' h = absurd (not-suc-le-zero h)
  extend-at ys (x ∷ xs) zero d d' h =
      let zs = ys ++ f ys x ∷ [] in
      let l : length ys < length zs = omega (arith, length-append ys (f ys x ∷ [])) in
      rw (add-zero (length ys)) (sym (get_or-take (length zs) (extend f zs xs) (length ys) d l)
      ∙ ap (λ l. get_or l (length ys) d) (extend-start zs xs) ∙ get_or-append_seam ys (f ys x) [] d
      ∙ ap (λ l. f l x) (sym (extend-start ys (x ∷ xs))))
  extend-at ys (x ∷ xs) (suc k) d d' h =
      let zs = ys ++ f ys x ∷ [] in
      let e : length zs + k ≡ length ys + suc k = omega (arith, length-append ys (f ys x ∷ [])) in
      rw (← e) (extend-at zs xs k d d' (le_of_suc-le-suc h))

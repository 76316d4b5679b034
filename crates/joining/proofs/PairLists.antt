-- Laws of a list of pairs, and of its walks.
-- In order: adjoin-old, adjoin-new; turned, suc-one, found-elem, place-index, placed, index-le; leads-small; walked_on,
-- walked_end, pairs_start, the walks of all pairs.
-- Assumes nothing.
use Rattle.std.proofs.Common.{◌≡◌, ◌∷◌, ◌++◌, ◌+◌, ◌-◌, ◌/◌, ◌%◌, ◌≤◌, ◌<◌, if◌then◌else◌}
use Rattle.laws.proofs.All.{refl, sym, ap, subst, ◌∙◌, Bool, true, false, not, List, [], ℕ}
use Rattle.laws.proofs.All.{suc, add-one, arith, ltb-false, T, eqb}
use Rattle.laws.proofs.All.{length, elem}
use Rattle.laws.proofs.All.{index_of, index-elem, index-lt}
use Rattle.constraint.specs.Walking.{Constraint, after}
use Rattle.joining.specs.Joined.{allowed, adjoin, walked, walked_from, pairs}
use Rattle.std.proofs.Common.{nat_eq, ◌||◌}
use Rattle.std.specs.List.{list_any, position, position_or_len}
use Rattle.std.proofs.lemmas.List.Recursion.{is_position_or_len}
use Rattle.laws.proofs.All.{ap₂}
use Rattle.std.proofs.lemmas.List.Sums.{prefix_len-le-length}
use Rattle.std.proofs.Common.{nat_lt, unwrap_or, cond, Some, None}
use Rattle.joining.specs.Small.{Small}
use Rattle.joining.proofs.Pairs.{allowed-both}

-- ---- a number adjoined
module _ (z : ℕ) (l : List ℕ) where
  pub adjoin-old : index_of z l < length l → adjoin z l ≡ l
  adjoin-old h = rw (index-elem z l h)

  pub adjoin-new : length l ≤ index_of z l → adjoin z l ≡ l ++ z ∷ []
  adjoin-new h = go (elem z l) refl
    where
      go : (b : Bool) → elem z l ≡ b → (if b then l else l ++ z ∷ []) ≡ l ++ z ∷ []
      go true e = absurd (omega (arith, index-lt z l (subst T (sym e) tt)))
      go false e = refl

-- ---- what is found in a list
turned : (x y : ℕ) → nat_eq x y ≡ eqb y x
turned x y = grind arith

suc-one : (n : ℕ) → suc n ≡ 1 + n
suc-one n = omega arith

module _ (z : ℕ) where
  pub found-elem : (l : List ℕ) → list_any (λ y. nat_eq y z) l ≡ elem z l
  found-elem [] = refl
  found-elem (y ∷ l) = ap₂ (λ a b. a || b) (turned y z) (found-elem l)

  pub place-index : (l : List ℕ) → index_of z l ≡ position_or_len (λ y. nat_eq y z) l
  place-index l =
      is_position_or_len (index_of z) (λ y. nat_eq y z) refl
      (λ y ys. ap₂ (λ b n. if b then 0 else n) (sym (turned y z)) (suc-one (index_of z ys))) l

  -- the place, or the length where there is none
  pub placed : (l : List ℕ) → unwrap_or (position (λ y. nat_eq y z) l) (length l) ≡ index_of z l
  placed l = go (nat_lt n (length l)) refl ∙ sym (place-index l)
    where
      n : ℕ
      n = position_or_len (λ y. nat_eq y z) l

      go : (b : Bool) → nat_lt n (length l) ≡ b → unwrap_or (cond b (Some n) None) (length l) ≡ n
      go true e = refl
      go false e =
          let h : n ≤ length l = prefix_len-le-length (λ y. not (nat_eq y z)) l in
          let k : length l ≤ n = ltb-false n (length l) e in
          omega arith

  pub index-le : (l : List ℕ) → index_of z l ≤ length l
  index-le l = rw (place-index l) (prefix_len-le-length (λ y. not (nat_eq y z)) l)

-- ---- one bit from a pair
module _ (c d : Constraint) (b z : ℕ) where
  pub leads-small : Small c → Small d → allowed c d b z ≡ true → (after c (z / 16) b < 16) × (after d (z % 16) b < 16)
  leads-small f g e =
      let (p, q) = allowed-both c d b z (subst T (sym e) tt) in (f (z / 16) b p, g (z % 16) b q)

-- ---- the list after one pair, and after more
module _ (c d : Constraint) (l : List ℕ) (i : ℕ) where
  -- the walks that are left lead to the same list
  pub walked_on : (n : ℕ) (q all : List ℕ) → i < n → q ≡ walked c d i l → walked_from c d (n - i) i l ≡ all
      → walked_from c d (n - (i + 1)) (i + 1) q ≡ all
  walked_on n q all h e f =
      let k : suc (n - (i + 1)) ≡ n - i = omega arith in
      ap (walked_from c d (n - (i + 1)) (i + 1)) e
      ∙ ap (λ j. walked_from c d (n - (i + 1)) j (walked c d i l)) (add-one i)
      ∙ ap (λ k. walked_from c d k i l) k ∙ f

  pub walked_end : (n : ℕ) → n ≤ i → walked_from c d (n - i) i l ≡ l
  walked_end n h = let k : n - i ≡ 0 = omega arith in ap (λ k. walked_from c d k i l) k

pub pairs_start : (c d : Constraint) → walked_from c d (16 - 0) 0 (0 ∷ []) ≡ pairs c d
unfolding pairs
pairs_start c d = refl

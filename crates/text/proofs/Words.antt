-- Words in binary digit by digit, and when two texts are the same.
-- In order: bit-none, bit-one; binary-more; length-binary; same_refl, same→, same-is; same_pointwise.
-- Assumes nothing.
use Rattle.std.proofs.Common.{◌≡◌, ◌∷◌, ◌++◌, ◌-◌, ◌/◌, ◌%◌, ◌^◌, ◌<◌, ◌&&◌, if◌then◌else◌}
use Rattle.laws.proofs.All.{refl, sym, ap, ap₂, subst, ◌∙◌, Bool, true, false, List, []}
use Rattle.laws.proofs.All.{append_assoc, ℕ, zero, suc, arith, eqb-true, eq-eqb, T, eqb}
use Rattle.laws.proofs.All.{length, length-map}
use Rattle.std.specs.Cmp.Lexicographic.{pointwise}
use Rattle.bits.specs.Fields.{bits}
use Rattle.bits.proofs.Fields.{length-bits}
use Rattle.text.specs.Words.{digit, binary, same}

-- ---- words in binary
pub bit-none : (b : ℕ) → b ≡ 0 → 48 ∷ [] ≡ digit b ∷ []
bit-none b e = ap (λ x. digit x ∷ []) (sym e)

pub bit-one : (x : ℕ) → (x % 2 ≡ 0 → ⊥) → 49 ∷ [] ≡ digit (x % 2) ∷ []
bit-one x h = let e : 1 ≡ x % 2 = omega arith in ap (λ y. digit y ∷ []) e

pub binary-more : (X : List ℕ) (q k w : ℕ) → 0 < k → X ++ binary k w ≡ binary q w
    → (X ++ (digit (w / 2 ^ (k - 1) % 2) ∷ [])) ++ binary (k - 1) w ≡ binary q w
binary-more X q zero w h e = absurd (omega arith)
binary-more X q (suc k) w h e =
    let z : suc k - 1 ≡ k = omega arith in
    rw z (append_assoc X (digit (w / 2 ^ k % 2) ∷ []) (binary k w) ∙ e)

pub length-binary : (q w : ℕ) → length (binary q w) ≡ q
length-binary q w = length-map (bits q w) digit ∙ length-bits q w

-- ---- the same text
pub same_refl : (xs : List ℕ) → same xs xs ≡ true
unfolding same
same_refl [] = refl
same_refl (x ∷ xs) = rw (eq-eqb x x refl) (same_refl xs)

pub same→ : (xs ys : List ℕ) → same xs ys ≡ true → xs ≡ ys
unfolding same
same→ [] [] e = refl
same→ [] (y ∷ ys) e = absurd (subst T (sym e) tt)
same→ (x ∷ xs) [] e = absurd (subst T (sym e) tt)
same→ (x ∷ xs) (y ∷ ys) e = go (eqb x y) refl e (same→ xs ys)
  where
    go : (b : Bool) → eqb x y ≡ b → (if b then same xs ys else false) ≡ true → (same xs ys ≡ true → xs ≡ ys)
        → x ∷ xs ≡ y ∷ ys
    go true q e f = ap₂ ◌∷◌ (eqb-true x y q) (f e)
    go false q e f = absurd (subst T (sym e) tt)

-- THEOREM: an answer that is true exactly of the same text
pub same-is : (r : Bool) (xs ys : List ℕ) → (r ≡ true → xs ≡ ys) → (xs ≡ ys → r ≡ true) → r ≡ same xs ys
same-is true xs ys f g = sym (ap (same xs) (sym (f refl)) ∙ same_refl xs)
same-is false xs ys f g = go (same xs ys) refl
  where
    go : (b : Bool) → same xs ys ≡ b → false ≡ b
    go true e = absurd (subst T (sym (g (same→ xs ys e))) tt)
    go false e = refl

-- a test byte by byte
pub same_pointwise : (xs ys : List ℕ) → pointwise eqb xs ys ≡ same xs ys
unfolding same
same_pointwise [] [] = refl
same_pointwise [] (y ∷ ys) = refl
same_pointwise (x ∷ xs) [] = refl
same_pointwise (x ∷ xs) (y ∷ ys) = go (eqb x y) (same_pointwise xs ys)
  where
    go : (b : Bool) → pointwise eqb xs ys ≡ same xs ys
        → (b && pointwise eqb xs ys) ≡ (if b then same xs ys else false)
    go true e = e
    go false e = refl

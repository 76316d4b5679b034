-- Laws of fronts.
-- In order: front_self, front-here, front-left, front-right, front-differs, front-whole, front-least; length_before,
-- before-all, before-whole, bad-least, below-front, bad-front, before-front.
-- Assumes nothing.
use Rattle.std.proofs.Common.{◌≡◌, ◌∷◌, ◌≤◌, ◌<◌, ◌++◌, if◌then◌else◌}
use Rattle.laws.proofs.All.{refl, sym, ap, subst, ◌∙◌, Bool, true, false, List, [], ℕ, zero, suc}
use Rattle.laws.proofs.All.{arith, T, eqb, eqb→eq, eq-eqb, eqb-false, length, get_or, take, drop, take_all}
use Rattle.laws.proofs.All.{length-take-le, ltb, lt-ltb, take-append-le, Below}
use Rattle.answer.specs.FirstBad.{first_bad}
use Rattle.answer.proofs.FirstBad.{first_bad-below, below-first_bad, bad-le}
use Rattle.codec_verify.specs.Fronts.{same_front, before_bad}

-- ---- the front that two lists have in common
pub front_self : (xs : List ℕ) → same_front xs xs ≡ xs
front_self [] = refl
front_self (x ∷ xs) = rw (eq-eqb x x refl) (ap (λ l. x ∷ l) (front_self xs))

pub front-here : (x y : ℕ) (xs ys : List ℕ) → x ≡ y → same_front (x ∷ xs) (y ∷ ys) ≡ y ∷ same_front xs ys
front-here x y xs ys e = rw (eq-eqb x y e)

-- what is said of a front holds, if it holds of none and of one more
split : (P : List ℕ → Type 0) (x y : ℕ) (xs ys : List ℕ) → (eqb x y ≡ false → P [])
    → (x ≡ y → P (y ∷ same_front xs ys)) → P (same_front (x ∷ xs) (y ∷ ys))
split P x y xs ys f g = go (eqb x y) refl
  where
    go : (b : Bool) → eqb x y ≡ b → P (if b then y ∷ same_front xs ys else [])
    go true e = g (eqb→eq x y (subst T (sym e) tt))
    go false e = f e

-- it is the front of both
pub front-left : (xs ys : List ℕ) → (length (same_front xs ys) ≤ length xs)
    × (take (length (same_front xs ys)) xs ≡ same_front xs ys)
front-left [] ys = (omega arith, refl)
front-left (x ∷ xs) [] = (omega arith, refl)
front-left (x ∷ xs) (y ∷ ys) =
    let (l, e) = front-left xs ys in
    split (λ F. (length F ≤ suc (length xs)) × (take (length F) (x ∷ xs) ≡ F)) x y xs ys (λ _. (omega arith, refl))
    (λ q. (omega arith, ap (λ z. z ∷ take (length (same_front xs ys)) xs) q ∙ ap (λ F. y ∷ F) e))

pub front-right : (xs ys : List ℕ) → (length (same_front xs ys) ≤ length ys)
    × (take (length (same_front xs ys)) ys ≡ same_front xs ys)
front-right [] ys = (omega arith, refl)
front-right (x ∷ xs) [] = (omega arith, refl)
front-right (x ∷ xs) (y ∷ ys) =
    let (l, e) = front-right xs ys in
    split (λ F. (length F ≤ suc (length ys)) × (take (length F) (y ∷ ys) ≡ F)) x y xs ys (λ _. (omega arith, refl))
    (λ q. (omega arith, ap (λ F. y ∷ F) e))

-- and the numbers after it differ, where both lists have one
pub front-differs : (xs ys : List ℕ) → let k = length (same_front xs ys) in k < length xs → k < length ys
    → get_or xs k 0 ≡ get_or ys k 0 → ⊥
front-differs [] ys = λ h l e. omega arith
front-differs (x ∷ xs) [] = λ h l e. omega arith
front-differs (x ∷ xs) (y ∷ ys) =
    let r = front-differs xs ys in
    split (λ F. length F < suc (length xs) → length F < suc (length ys)
    → get_or (x ∷ xs) (length F) 0 ≡ get_or (y ∷ ys) (length F) 0 → ⊥) x y xs ys
    (λ q h l e. eqb-false x y q e) (λ q h l e. r (omega arith) (omega arith) e)

-- a list no longer than the other, which is all their front, is the other
pub front-whole : (xs ys : List ℕ) → length xs ≤ length ys → same_front xs ys ≡ ys → xs ≡ ys
front-whole xs ys h e =
    let k = length (same_front xs ys) in
    let q : k ≡ length ys = ap length e in
    sym (take_all k xs (omega arith)) ∙ (front-left xs ys).1 ∙ e

-- lists with the first n numbers in common have a front of n or more
pub front-least : (n : ℕ) (xs ys : List ℕ) → n ≤ length xs → n ≤ length ys → take n xs ≡ take n ys
    → n ≤ length (same_front xs ys)
front-least zero xs ys h l e = omega arith
front-least (suc n) [] ys h l e = omega arith
front-least (suc n) (x ∷ xs) [] h l e = omega arith
front-least (suc n) (x ∷ xs) (y ∷ ys) h l e =
    let q : x ≡ y = ap (λ l. get_or l 0 0) e in
    let r : n ≤ length (same_front xs ys) = front-least n xs ys (omega arith) (omega arith) (ap (drop 1) e) in
    rw (front-here x y xs ys q) (omega arith)

-- ---- the numbers before the first bad one
pub length_before : (n : ℕ) (xs : List ℕ) → length (before_bad n xs) ≡ first_bad n xs
length_before n xs = length-take-le (first_bad n xs) xs (bad-le n xs)

pub before-all : (n : ℕ) (xs : List ℕ) → Below n xs → before_bad n xs ≡ xs
before-all n xs b = take_all (first_bad n xs) xs (omega (arith, first_bad-below n xs b))

pub before-whole : (n : ℕ) (xs : List ℕ) → length xs ≤ length (before_bad n xs) → Below n xs
before-whole n xs h = below-first_bad n xs (omega (arith, length_before n xs, bad-le n xs))

-- the first bad one is not among k numbers that are good
pub bad-least : (n k : ℕ) (xs : List ℕ) → k ≤ length xs → Below n (take k xs) → k ≤ first_bad n xs
bad-least n zero xs h b = omega arith
bad-least n (suc k) [] h b = omega arith
bad-least n (suc k) (x ∷ xs) h (a, b) =
    let r : k ≤ first_bad n xs = bad-least n k xs (omega arith) b in
    rw (lt-ltb x n a) (omega arith)

pub below-front : (n : ℕ) (xs ys : List ℕ) → Below n (xs ++ ys) → Below n xs
below-front n [] ys b = tt
below-front n (x ∷ xs) ys (h, b) = (h, below-front n xs ys b)

pub bad-front : (n : ℕ) (xs ys : List ℕ) → first_bad n xs < length xs → first_bad n (xs ++ ys) ≡ first_bad n xs
bad-front n [] ys = λ h. omega arith
bad-front n (x ∷ xs) ys =
    go (ltb x n) (bad-front n xs ys)
  where
    go : (b : Bool) → (first_bad n xs < length xs → first_bad n (xs ++ ys) ≡ first_bad n xs)
        → (if b then suc (first_bad n xs) else 0) < suc (length xs)
        → (if b then suc (first_bad n (xs ++ ys)) else 0) ≡ (if b then suc (first_bad n xs) else 0)
    go true r h = ap suc (r (omega arith))
    go false r h = refl

-- where the first bad one stands in the front of a list
pub before-front : (n : ℕ) (xs ys : List ℕ) (j : ℕ) → j ≡ first_bad n xs → j < length xs
    → before_bad n (xs ++ ys) ≡ take j xs
before-front n xs ys j e h =
    let q : first_bad n (xs ++ ys) ≡ j = bad-front n xs ys (omega arith) ∙ sym e in
    ap (λ k. take k (xs ++ ys)) q ∙ take-append-le j xs ys (omega arith)

-- Sums over parts of a list and over lists in a row, and what holds of each of them.
-- In order: tot-take-add, tot-take-more, tot-take-le, tot-drop-le, tot-union, length-le-sum; each-for, union-each,
-- each_set; never.
-- Assumes nothing.
use mathlib.Core.Path.{◌≡◌, refl, sym, ap, ◌∙◌}
use mathlib.Core.List.{List, [], ◌∷◌, map}
use Prim.Native.Nat.{ℕ, zero, suc, ◌+◌, ◌≤◌, ◌<◌, zero-le, suc-le-suc}
use native.Mathlib.Nat.{le_refl, zero-add, add-zero, suc-add}
use native.Mathlib.Numerals.{add-one}
use native.Mathlib.Omega.{arith}
use lib.ListN.{length, get_or, take, drop, set}
use lib.Seq.{take-suc}
use Rattle.laws.specs.Lists.{sum, concat}
use Rattle.laws.specs.Sums.{Each, tot}
use Rattle.laws.proofs.Sums.{tot-append, tot-take-drop, each-front, each_back}

pub tot-take-add : {A : Type 0} (f : A → ℕ) (i k : ℕ) (l : List A)
    → tot f (take (i + k) l) ≡ tot f (take i l) + tot f (take k (drop i l))
tot-take-add f zero k l = rw (zero-add k) (sym (zero-add _))
tot-take-add f (suc i) k [] = rw (suc-add i k) (nil k)
  where
    nil : (k : ℕ) → 0 ≡ 0 + tot f (take k [])
    nil zero = refl
    nil (suc k) = refl
tot-take-add f (suc i) k (x ∷ l) = rw (suc-add i k) (omega (arith, tot-take-add f i k l))

pub tot-take-more : {A : Type 0} (d : A) (f : A → ℕ) (l : List A) (i : ℕ) → i < length l
    → tot f (take (i + 1) l) ≡ tot f (take i l) + f (get_or l i d)
tot-take-more d f l i h =
    ap (tot f) (ap (λ n. take n l) (add-one i) ∙ take-suc l i d h) ∙ tot-append f (take i l) (get_or l i d ∷ [])
    ∙ ap (λ x. tot f (take i l) + x) (add-zero (f (get_or l i d)))

pub tot-take-le : {A : Type 0} (f : A → ℕ) (k : ℕ) (l : List A) → tot f (take k l) ≤ tot f l
tot-take-le f k l = omega (arith, tot-take-drop f k l)

pub tot-drop-le : {A : Type 0} (f : A → ℕ) (k : ℕ) (l : List A) → tot f (drop k l) ≤ tot f l
tot-drop-le f k l = omega (arith, tot-take-drop f k l)

pub tot-union : {A B : Type 0} (f : A → ℕ) (h : B → List A) (l : List B)
    → tot f (concat (map h l)) ≡ tot (λ y. tot f (h y)) l
tot-union f h [] = refl
tot-union f h (x ∷ l) = tot-append f (h x) (concat (map h l)) ∙ ap (λ k. tot f (h x) + k) (tot-union f h l)

-- numbers above 0 sum to at least their number
pub length-le-sum : (v : List ℕ) → ((i : ℕ) → i < length v → 0 < get_or v i 0) → length v ≤ sum v
length-le-sum [] h = le_refl 0
length-le-sum (x ∷ v) h = let k : 0 < x = h 0 (suc-le-suc zero-le) in
    omega (arith, length-le-sum v (λ i l. h (suc i) (suc-le-suc l)))

pub each-for {ℓ} : {A : Type ℓ} {B : Type 0} (P : B → A → Type 0) (l : List A) → ((y : B) → Each (P y) l)
    → Each (λ x. (y : B) → P y x) l
each-for P [] h = tt
each-for P (x ∷ l) h = (λ y. (h y).0, each-for P l (λ y. (h y).1))

pub union-each : {A B : Type 0} (P : A → Type 0) (h : B → List A) (l : List B) → Each P (concat (map h l))
    → Each (λ y. Each P (h y)) l
union-each P h [] e = tt
union-each P h (x ∷ l) e =
    (each-front P (h x) (concat (map h l)) e, union-each P h l (each_back P (h x) (concat (map h l)) e))

pub each_set : (P : ℕ → Type 0) (l : List ℕ) (s w : ℕ) → Each P l → P w → Each P (set l s w)
each_set P [] s w h p = tt
each_set P (x ∷ l) zero w h p = (p, h.1)
each_set P (x ∷ l) (suc s) w h p = (h.0, each_set P l s w h.1 p)

-- a case that cannot be
pub never : {A : Type 0} → (◌≡◌ {A = ℕ} 0 1) → A
never e = absurd (omega arith)

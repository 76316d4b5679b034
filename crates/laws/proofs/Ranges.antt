-- Lists made from the numbers below a bound, and tests and sums over them.
-- In order: from-append, range-more, map-from-append, length-map-from, map-range-more, length-map-range,
-- drop-map-range, map-from-same, is-map, map-range-same, map-places; concat-more, length_run; any-range-more,
-- any-range-no, any-each-same, any-range-same, all-range-true, all-range-false, first-range-none, tot-more;
-- any_false, any-true, tests over a list by its places.
-- Assumes nothing.
use mathlib.Core.Path.{◌≡◌, refl, sym, ap, ap₂, ◌∙◌}
use mathlib.Core.Bool.{Bool, true, false, ◌&&◌, ◌||◌, and-false, or-false}
use mathlib.Core.List.{List, [], ◌∷◌, ◌++◌, map, append_assoc, append-nil}
use Prim.Native.Nat.{ℕ, zero, suc, ◌+◌, ◌*◌, ◌<◌}
use native.Mathlib.Nat.{add-zero, zero-add, suc-add, zero-mul, suc-mul}
use native.Mathlib.Numerals.{add-one}
use native.Mathlib.Omega.{arith}
use lib.ListN.{length, get_or, drop, length-map, length-append}
use lib.Seq.{drop-cons, ext_get_or}
use Rattle.laws.specs.Lists.{from, range, all, any, first, concat}
use Rattle.laws.specs.Sums.{Each, tot}
use Rattle.laws.proofs.Tests.{length_from, map-range-at, get_or-map-lt, →any, T→true}
use Rattle.laws.proofs.Sums.{each_map, tot-append}
use Rattle.laws.proofs.Anys.{any_append, each-range}
use Rattle.laws.proofs.Maps.{map-append, map_each}

-- ---- the numbers below a bound
pub from-append : (i a b : ℕ) → from i (a + b) ≡ from i a ++ from (i + a) b
from-append i zero b = rw (zero-add, add-zero)
from-append i (suc a) b =
    let e : suc i + a ≡ i + suc a = omega arith in
    rw suc-add (ap (λ l. i ∷ l) (from-append (suc i) a b ∙ ap (λ k. from (suc i) a ++ from k b) e))

pub range-more : (n : ℕ) → range (n + 1) ≡ range n ++ (n ∷ [])
range-more n = from-append 0 n 1 ∙ ap (λ k. from 0 n ++ (k ∷ [])) (zero-add n)

module _ {A : Type 0} (f : ℕ → A) where
  pub map-from-append : (i a b : ℕ) → map f (from i (a + b)) ≡ map f (from i a) ++ map f (from (i + a) b)
  map-from-append i a b = ap (map f) (from-append i a b) ∙ map-append f (from i a) (from (i + a) b)

  pub length-map-from : (i n : ℕ) → length (map f (from i n)) ≡ n
  length-map-from i n = length-map (from i n) f ∙ length_from i n

  pub map-range-more : (n : ℕ) → map f (range (n + 1)) ≡ map f (range n) ++ (f n ∷ [])
  map-range-more n = ap (map f) (range-more n) ∙ map-append f (range n) (n ∷ [])

  pub length-map-range : (n : ℕ) → length (map f (range n)) ≡ n
  length-map-range n = length-map-from 0 n

  pub drop-map-range : (n i : ℕ) (d : A) → i < n → drop i (map f (range n)) ≡ f i ∷ drop (suc i) (map f (range n))
  drop-map-range n i d h =
      drop-cons (map f (range n)) i d (rw (length-map-range n) h)
      ∙ ap (λ x. x ∷ drop (suc i) (map f (range n))) (map-range-at f n i d h)

-- two functions that agree number by number, each from its own start on
pub map-from-same : {A : Type 0} (f g : ℕ → A) (i j n : ℕ) → ((x : ℕ) → x < n → f (i + x) ≡ g (j + x))
    → map f (from i n) ≡ map g (from j n)
map-from-same f g i j zero h = refl
map-from-same f g i j (suc n) h =
    ap₂ (λ a l. a ∷ l) (rw (add-zero i, add-zero j) at (h 0 (omega arith)))
    (map-from-same f g (suc i) (suc j) n (λ x l. next x (h (suc x) (omega arith))))
  where
    next : (x : ℕ) → f (i + suc x) ≡ g (j + suc x) → f (suc i + x) ≡ g (suc j + x)
    next x e = let a : suc i + x ≡ i + suc x = omega arith in let b : suc j + x ≡ j + suc x = omega arith in rw (a, b) e

-- a list is f of the numbers below n if it has n places and each is f of its number
pub is-map : {A : Type 0} (d : A) (f : ℕ → A) (n : ℕ) (R : List A) → length R ≡ n
    → ((i : ℕ) → i < n → get_or R i d ≡ f i) → R ≡ map f (range n)
is-map d f n R e h =
    ext_get_or d R (map f (range n)) (e ∙ sym (length-map-range f n))
    (λ i l. let l' : i < n = rw e at l in h i l' ∙ sym (map-range-at f n i d l'))

-- what holds of each number below n holds of each of the range
below_each : (P : ℕ → Type 0) (n : ℕ) → ((i : ℕ) → i < n → P i) → Each P (range n)
below_each P n h = each_map (λ i. i < n) P h (range n) (each-range n)

pub map-range-same : {A : Type 0} (f g : ℕ → A) (n : ℕ) → ((i : ℕ) → i < n → f i ≡ g i)
    → map f (range n) ≡ map g (range n)
map-range-same f g n h = map_each f g (range n) (below_each (λ i. f i ≡ g i) n h)

pub map-places : {A B : Type 0} (d : A) (e : B) (f : A → B) (L : List A) → map f L
    ≡ map (λ i. f (get_or L i d)) (range (length L))
map-places d e f L =
    ext_get_or e (map f L) (map (λ i. f (get_or L i d)) (range (length L)))
    (length-map L f ∙ sym (length-map-range (λ i. f (get_or L i d)) (length L)))
    (λ i h. let b : i < length L = rw (length-map L f) at h in
    get_or-map-lt f L i d e b ∙ sym (map-range-at (λ i. f (get_or L i d)) (length L) i e b))

-- ---- pieces, one a number
module _ {A : Type 0} where
  concat-from : (f : ℕ → List A) (i n : ℕ) → concat (map f (from i (suc n))) ≡ concat (map f (from i n)) ++ f (i + n)
  concat-from f i zero = append-nil (f i) ∙ ap f (sym (add-zero i))
  concat-from f i (suc n) =
      let e : suc i + n ≡ i + suc n = omega arith in
      ap (λ l. f i ++ l) (concat-from f (suc i) n)
      ∙ sym (append_assoc (f i) (concat (map f (from (suc i) n))) (f (suc i + n)))
      ∙ ap (λ k. (f i ++ concat (map f (from (suc i) n))) ++ f k) e

  -- one piece more
  pub concat-more : (f : ℕ → List A) (n : ℕ) → concat (map f (range (n + 1))) ≡ concat (map f (range n)) ++ f n
  concat-more f n =
      ap (λ m. concat (map f (range m))) (add-one n) ∙ concat-from f 0 n
      ∙ ap (λ m. concat (map f (range n)) ++ f m) (zero-add n)

  length-from-run : (f : ℕ → List A) (w i n : ℕ) → ((k : ℕ) → length (f k) ≡ w) → length (concat (map f (from i n)))
      ≡ n * w
  length-from-run f w i zero h = sym (zero-mul w)
  length-from-run f w i (suc n) h =
      length-append (f i) (concat (map f (from (suc i) n)))
      ∙ ap₂ ◌+◌ (h i) (length-from-run f w (suc i) n h) ∙ omega (arith, suc-mul n w)

  -- as long as n pieces of one length
  pub length_run : (f : ℕ → List A) (w n : ℕ) → ((k : ℕ) → length (f k) ≡ w) → length (concat (map f (range n))) ≡ n * w
  length_run f w n h = length-from-run f w 0 n h

-- ---- tests and sums over the numbers below a bound
pub any-range-more : (p : ℕ → Bool) (i : ℕ) → any p (range (i + 1)) ≡ (any p (range i) || p i)
any-range-more p i =
    ap (any p) (range-more i) ∙ any_append p (range i) (i ∷ []) ∙ ap (λ b. any p (range i) || b) (or-false (p i))

pub any-range-no : (p : ℕ → Bool) (i : ℕ) → any p (range i) ≡ false → p i ≡ false → any p (range (i + 1)) ≡ false
any-range-no p i a b = any-range-more p i ∙ ap₂ (λ x y. x || y) a b

pub any-each-same : {A : Type 0} (p q : A → Bool) (l : List A) → Each (λ x. p x ≡ q x) l → any p l ≡ any q l
any-each-same p q [] h = refl
any-each-same p q (x ∷ l) h = ap₂ (λ a b. a || b) h.0 (any-each-same p q l h.1)

pub any-range-same : (p q : ℕ → Bool) (n : ℕ) → ((i : ℕ) → i < n → p i ≡ q i) → any p (range n) ≡ any q (range n)
any-range-same p q n h = any-each-same p q (range n) (below_each (λ i. p i ≡ q i) n h)

module _ (p : ℕ → Bool) where
  all-each-true : (l : List ℕ) → Each (λ x. p x ≡ true) l → all p l ≡ true
  all-each-true [] h = refl
  all-each-true (x ∷ l) h = ap₂ (λ a b. a && b) h.0 (all-each-true l h.1)

  pub all-range-true : (n : ℕ) → ((i : ℕ) → i < n → p i ≡ true) → all p (range n) ≡ true
  all-range-true n h = all-each-true (range n) (below_each (λ i. p i ≡ true) n h)

  false-from : (i n j : ℕ) → j < n → p (i + j) ≡ false → all p (from i n) ≡ false
  false-from i zero j h e = absurd (omega arith)
  false-from i (suc n) zero h e =
      let z : i + 0 ≡ i = omega arith in ap (λ b. b && all p (from (suc i) n)) (ap p (sym z) ∙ e)
  false-from i (suc n) (suc j) h e =
      let z : suc i + j ≡ i + suc j = omega arith in
      ap (λ b. p i && b) (false-from (suc i) n j (omega arith) (ap p z ∙ e)) ∙ and-false (p i)

  pub all-range-false : (n i : ℕ) → i < n → p i ≡ false → all p (range n) ≡ false
  all-range-false n i h e = false-from 0 n i h (ap p (zero-add i) ∙ e)

  first-each-none : (d : ℕ) (l : List ℕ) → Each (λ x. p x ≡ false) l → first p d l ≡ d
  first-each-none d [] h = refl
  first-each-none d (x ∷ l) h = rw h.0 (first-each-none d l h.1)

  pub first-range-none : (d n : ℕ) → ((i : ℕ) → i < n → p i ≡ false) → first p d (range n) ≡ d
  first-range-none d n h = first-each-none d (range n) (below_each (λ i. p i ≡ false) n h)

pub tot-more : (f : ℕ → ℕ) (i : ℕ) → tot f (range (i + 1)) ≡ tot f (range i) + f i
tot-more f i = ap (tot f) (range-more i) ∙ tot-append f (range i) (i ∷ [])
    ∙ ap (λ k. tot f (range i) + k) (add-zero (f i))

-- ---- tests over a list by its places
pub any_false : {A : Type 0} (p : A → Bool) (d : A) (l : List A) → ((i : ℕ) → i < length l → p (get_or l i d) ≡ false)
    → any p l ≡ false
any_false p d [] h = refl
any_false p d (x ∷ l) h = ap₂ (λ a b. a || b) (h 0 (omega arith)) (any_false p d l (λ i k. h (suc i) (omega arith)))

pub any-true : {A : Type 0} (p : A → Bool) (d : A) (l : List A) (i : ℕ) → i < length l → p (get_or l i d) ≡ true
    → any p l ≡ true
any-true p d l i h e = T→true (any p l) (→any p d l i h (rw e tt))

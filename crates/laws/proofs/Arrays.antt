-- Arrays: their front as a list, and loops that fill them from the front.
-- In order: take-is, take_same; Filled, fill_none, fill_more, an array filled from the front; put-at, put-more,
-- map_more, elements and bytes written one by one; within_more, the same from a place on, and piece-more, which
-- puts what it gives together.
-- Assumes nothing.
use mathlib.Core.Path.{◌≡◌, sym, ap, ap₂, ◌∙◌}
use mathlib.Core.List.{List, [], ◌∷◌, ◌++◌, map, append_assoc}
use Prim.Native.Nat.{ℕ, suc, ◌+◌, ◌-◌, ◌≤◌, ◌<◌}
use native.Mathlib.Numerals.{add-one}
use native.Mathlib.Omega.{arith}
use borrow.Author.Count.{below_more}
use lib.ListN.{length, get_or, take, drop, set, length-set, length-map, length-append, replicate, length-replicate}
use lib.Seq.{drop-cons, set_at, append_snoc, length-take-le, get_or-take, ext_get_or, get_or-set_same, get_or-set_other}
use lib.Seq.{take_at, drop_at, drop-drop}
use Rattle.laws.specs.Lists.{from, range}
use Rattle.laws.proofs.Tests.{get_or-map-lt}
use Rattle.laws.proofs.Ranges.{length-map-from, length-map-range, map-from-append}

-- ---- the front of an array
pub take-is : {A : Type 0} (f : A → ℕ) (d : A) (R : List ℕ) (L : List A) (n : ℕ) → length L ≡ n → n ≤ length R
    → ((x : ℕ) → x < n → get_or R x 0 ≡ f (get_or L x d)) → take n R ≡ map f L
take-is f d R L n l r h =
    ext_get_or 0 (take n R) (map f L) (length-take-le n R r ∙ sym (length-map L f ∙ l))
    (λ i k. let b : i < n = rw (length-take-le n R r) at k in
    get_or-take n R i 0 b ∙ h i b ∙ sym (get_or-map-lt f L i d 0 (rw l b)))

pub take_same : (R L : List ℕ) (n : ℕ) → length L ≡ n → n ≤ length R
    → ((x : ℕ) → x < n → get_or R x 0 ≡ get_or L x 0) → take n R ≡ L
take_same R L n l r h =
    ext_get_or 0 (take n R) L (length-take-le n R r ∙ sym l)
    (λ i k. let b : i < n = rw (length-take-le n R r) at k in get_or-take n R i 0 b ∙ h i b)

-- places below i hold f
pub record Filled {A : Type 0} (d : A) (f : ℕ → A) (k i : ℕ) (R : List A) : Type 0 where
  pub long : length R ≡ k
  pub holds : (x : ℕ) → x < i → get_or R x d ≡ f x

pub fill_none : {A : Type 0} (d : A) (f : ℕ → A) (k : ℕ) (v : A) → Filled d f k 0 (replicate k v)
fill_none d f k v = record { long = length-replicate k v; holds = λ x l. absurd (omega arith) }

pub fill_more : {A : Type 0} (d : A) (f : ℕ → A) (k i : ℕ) (R : List A) (v : A) → i < k → v ≡ f i → Filled d f k i R
    → Filled d f k (i + 1) (set R i v)
fill_more d f k i R v h e m = record {
  long = length-set R i v ∙ m.long;
  holds = below_more (λ x. get_or (set R i v) x d ≡ f x) i
      (λ x l. get_or-set_other R i x v d (λ q. omega arith) ∙ m.holds x l)
      (get_or-set_same R i v d (let n = m.long in omega arith) ∙ e);
}

-- ---- bytes written one after the other
pub put-at : {A : Type 0} (d : A) (xs out : List A) (i : ℕ) (w : A) → length xs ≡ i → i < length out
    → set (xs ++ drop i out) i w ≡ (xs ++ w ∷ []) ++ drop (i + 1) out
put-at d xs out i w e h =
    rw (drop-cons out i d, add-one)
    (set_at xs (get_or out i d) (drop (suc i) out) w i e ∙ sym (append_snoc xs w (drop (suc i) out)))

pub put-more : (xs out : List ℕ) (i w : ℕ) → length xs ≡ i → i < length out
    → set (xs ++ drop i out) i w ≡ (xs ++ w ∷ []) ++ drop (i + 1) out
put-more = put-at 0

-- one byte more of those that a function gives, from the number `first` on
pub map_more : (f : ℕ → ℕ) (first : ℕ) (out₀ out : List ℕ) (i w : ℕ) → out ≡ map f (from first i) ++ drop i out₀
    → w ≡ f (first + i) → i < length out₀ → set out i w ≡ map f (from first (i + 1)) ++ drop (i + 1) out₀
map_more f first out₀ out i w b e h =
    ap₂ (λ o v. set o i v) b e
    ∙ put-more (map f (from first i)) out₀ i (f (first + i)) (length-map-from f first i) h
    ∙ ap (λ l. l ++ drop (i + 1) out₀) (sym (map-from-append f first i 1))

-- one byte more of those from the place `at` on, where the bytes before it stay
pub within_more : (f : ℕ → ℕ) (at : ℕ) (out₀ out : List ℕ) (i w : ℕ)
    → out ≡ (take at out₀ ++ map f (from at i)) ++ drop (at + i) out₀ → w ≡ f (at + i) → at + i < length out₀
    → set out (at + i) w ≡ (take at out₀ ++ map f (from at (i + 1))) ++ drop (at + (i + 1)) out₀
within_more f at out₀ out i w b e h =
    let xs = take at out₀ ++ map f (from at i) in
    let l : length xs ≡ at + i =
    length-append (take at out₀) (map f (from at i))
    ∙ ap₂ ◌+◌ (length-take-le at out₀ (omega arith)) (length-map-from f at i) in
    let n : at + i + 1 ≡ at + (i + 1) = omega arith in
    ap₂ (λ o v. set o (at + i) v) b e ∙ put-more xs out₀ (at + i) (f (at + i)) l h
    ∙ ap₂ (λ x k. x ++ drop k out₀)
    (append_assoc (take at out₀) (map f (from at i)) (f (at + i) ∷ [])
    ∙ ap (λ x. take at out₀ ++ x) (sym (map-from-append f at i 1))) n

-- a piece more of them, after those that were written
pub piece-more : (f : ℕ → ℕ) (i end : ℕ) (out₀ out out' : List ℕ) → i ≤ end → out ≡ map f (range i) ++ drop i out₀
    → out' ≡ (take i out ++ map f (from i (end - i))) ++ drop end out → out' ≡ map f (range end) ++ drop end out₀
piece-more f i end out₀ out out' h e g =
    let B = map f (range i) in
    let l : length B ≡ i = length-map-range f i in
    let m : i + (end - i) ≡ end = omega arith in
    let z : 0 + i ≡ i = omega arith in
    let t : take i out ≡ B = ap (take i) e ∙ take_at B (drop i out₀) i l in
    let d : drop end out ≡ drop end out₀ =
    ap (λ n. drop n out) (sym m) ∙ sym (drop-drop (end - i) i out)
    ∙ ap (drop (end - i)) (ap (drop i) e ∙ drop_at B (drop i out₀) i l)
    ∙ drop-drop (end - i) i out₀ ∙ ap (λ n. drop n out₀) m in
    g ∙ ap₂ (λ x y. (x ++ map f (from i (end - i))) ++ y) t d
    ∙ ap (λ x. x ++ drop end out₀)
    (sym (ap (λ n. map f (range n)) (sym m) ∙ map-from-append f 0 i (end - i)
    ∙ ap (λ n. B ++ map f (from n (end - i))) z))

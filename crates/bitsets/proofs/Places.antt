-- The places of the set bits of a number: how many, the lowest, those without it, tests over them, what holds of each.
-- In order: places-ones, places-le; places-first; places-rest; any-places, →any-places, any-places→, places-some; In,
-- places-each, places-below; head-cons, head-none.
-- Assumes nothing.
use Rattle.std.proofs.Common.{◌≡◌, ◌⊎◌, ◌&&◌, ◌||◌, ◌∷◌, ◌+◌, ◌-◌, ◌*◌, ◌/◌, ◌%◌, ◌^◌, ◌≤◌, ◌<◌, if◌then◌else◌}
use Rattle.laws.proofs.All.{refl, sym, ap, ap₂, ◌∙◌, inl, inr, Bool, true, false, not, List, []}
use Rattle.laws.proofs.All.{ℕ, zero, suc, add-zero, zero-add, mod-lt}
use Rattle.laws.proofs.All.{mod-one, arith, bit_and, T, eqb, lit<, length, get_or, drop, shr-shr, mod-pow-add}
use Rattle.laws.proofs.All.{from, range, filter, any, Each, any-below→, →any-below, and→, →and, each_map}
use Rattle.laws.proofs.All.{each-filter, any-filter, each-range, filter-interval}
use native.Mathlib.Nat.{div-one, lt_irrefl}
use lib.Bits.{and_step, and_self}
use lib.Count.{ones, ones_cat, count_trailing_zeros, under}
use lib.Dec.{eqb-suc-zero}
use Rattle.bitsets.specs.BitSets.{bit_at, places_of}
use Rattle.bitsets.proofs.Digits.{bit}

-- ---- bit by bit
-- the list, with i before it where the test passed
abbrev keep : Bool → ℕ → List ℕ → List ℕ
keep b i l = if b then i ∷ l else l

-- the places among the d lowest bits of n, counted from i
unfoldable places_from : ℕ → ℕ → ℕ → List ℕ
places_from zero i n = []
places_from (suc d) i n = keep (eqb (n % 2) 1) i (places_from d (suc i) (n / 2))

from-filter : (d i m n : ℕ) → m / 2 ^ i ≡ n → filter (bit_at m) (from i d) ≡ places_from d i n
unfolding places_from
from-filter zero i m n e = refl
from-filter (suc d) i m n e =
    let k : suc i ≡ i + 1 = omega arith in
    let f : m / 2 ^ suc i ≡ n / 2 = ap (λ j. m / 2 ^ j) k ∙ sym (shr-shr m i 1) ∙ ap (λ x. x / 2) e in
    ap₂ (λ b r. keep b i r) (ap (λ x. eqb (x % 2) 1) e) (from-filter d (suc i) m (n / 2) f)

places-from : (d n : ℕ) → places_of d n ≡ places_from d 0 n
unfolding places_of
places-from d n = from-filter d 0 n n (div-one n)

-- ---- how many
from-ones : (d i n : ℕ) → length (places_from d i n) ≡ ones (n % 2 ^ d)
unfolding places_from ones
from-ones zero i n = sym (ap ones (mod-one n))
from-ones (suc d) i n =
    let k : suc d ≡ d + 1 = omega arith in
    let e : ones (n % 2 ^ suc d) ≡ ones (n / 2 % 2 ^ d) + ones (n % 2) =
    ap (λ j. ones (n % 2 ^ j)) k ∙ ap ones (mod-pow-add n d 1)
    ∙ ones_cat 1 (n / 2 % 2 ^ d) (n % 2) (mod-lt n (lit< tt)) in
    go (from-ones d (suc i) (n / 2)) (bit n) ∙ sym e
  where
    go : length (places_from d (suc i) (n / 2)) ≡ ones (n / 2 % 2 ^ d) → (n % 2 ≡ 0) ⊎ (n % 2 ≡ 1)
        → length (keep (eqb (n % 2) 1) i (places_from d (suc i) (n / 2))) ≡ ones (n / 2 % 2 ^ d) + ones (n % 2)
    go ih (inl e) = rw e (omega arith)
    go ih (inr e) = rw e (omega arith)

pub places-ones : (d n : ℕ) → length (places_of d n) ≡ ones (n % 2 ^ d)
places-ones d n = ap length (places-from d n) ∙ from-ones d 0 n

-- no more places than bits
pub places-le : (d n : ℕ) → length (places_of d n) ≤ d
unfolding places_of
places-le d n =
    filter-interval (bit_at n) 0 d 0 d (λ i h o. elim o [ inl a ↦ absurd (omega arith) | inr b ↦ absurd (omega arith) ])

-- ---- the lowest
from_first : (d i n : ℕ) → get_or (places_from d i n) 0 (i + d) ≡ i + count_trailing_zeros d n
unfolding places_from count_trailing_zeros
from_first zero i n = refl
from_first (suc d) i n = go (from_first d (suc i) (n / 2)) (bit n)
  where
    go : get_or (places_from d (suc i) (n / 2)) 0 (suc i + d) ≡ suc i + count_trailing_zeros d (n / 2)
        → (n % 2 ≡ 0) ⊎ (n % 2 ≡ 1)
        → get_or (keep (eqb (n % 2) 1) i (places_from d (suc i) (n / 2))) 0 (i + suc d)
        ≡ i + under (n % 2) (count_trailing_zeros d (n / 2))
    go ih (inl e) =
        let s : i + suc d ≡ suc i + d = omega arith in
        rw (e, s) (ih ∙ omega arith)
    go ih (inr e) = rw e (sym (add-zero i))

pub places-first : (d n : ℕ) → get_or (places_of d n) 0 d ≡ count_trailing_zeros d n
places-first d n =
    let z : 0 + d ≡ d = omega arith in
    ap (λ l. get_or l 0 d) (places-from d n) ∙ ap (λ k. get_or (places_from d 0 n) 0 k) (sym z) ∙ from_first d 0 n
    ∙ zero-add _

-- ---- without the lowest: n and n - 1 bit by bit
rest-even : (n : ℕ) → 0 < n → n % 2 ≡ 0 → bit_and n (n - 1) ≡ bit_and (n / 2) (n / 2 - 1) * 2 + 0
rest-even n p e =
    let a : (n - 1) / 2 ≡ n / 2 - 1 = omega arith in
    let b : (n - 1) % 2 ≡ 1 = omega arith in
    and_step n (n - 1) ∙ rw (a, b, e)

rest-odd : (n : ℕ) → n % 2 ≡ 1 → bit_and n (n - 1) ≡ n / 2 * 2 + 0
rest-odd n e =
    let a : (n - 1) / 2 ≡ n / 2 = omega arith in
    let b : (n - 1) % 2 ≡ 0 = omega arith in
    and_step n (n - 1) ∙ rw (a, b, e, and_self (n / 2))

from-even : (d i m n : ℕ) → n ≡ m * 2 + 0 → places_from (suc d) i n ≡ places_from d (suc i) m
unfolding places_from
from-even d i m n e =
    let a : n / 2 ≡ m = omega arith in
    let b : n % 2 ≡ 0 = omega arith in
    rw (a, b)

from-odd : (d i n : ℕ) → n % 2 ≡ 1 → places_from (suc d) i n ≡ i ∷ places_from d (suc i) (n / 2)
unfolding places_from
from-odd d i n e = rw e

from-none : (i n : ℕ) → places_from 0 i n ≡ []
unfolding places_from
from-none i n = refl

from-rest : (d i n : ℕ) → 0 < n → places_from d i (bit_and n (n - 1)) ≡ drop 1 (places_from d i n)
from-rest zero i n p = from-none i (bit_and n (n - 1)) ∙ ap (drop 1) (sym (from-none i n))
from-rest (suc d) i n p = go (λ q. from-rest d (suc i) (n / 2) q) (bit n)
  where
    go : (0 < n / 2 → places_from d (suc i) (bit_and (n / 2) (n / 2 - 1)) ≡ drop 1 (places_from d (suc i) (n / 2)))
        → (n % 2 ≡ 0) ⊎ (n % 2 ≡ 1) → places_from (suc d) i (bit_and n (n - 1)) ≡ drop 1 (places_from (suc d) i n)
    go ih (inl e) =
        let f : n ≡ n / 2 * 2 + 0 = omega arith in
        from-even d i _ _ (rest-even n p e) ∙ ih (omega arith) ∙ ap (drop 1) (sym (from-even d i (n / 2) n f))
    go ih (inr e) = from-even d i _ _ (rest-odd n e) ∙ ap (drop 1) (sym (from-odd d i n e))

pub places-rest : (d n : ℕ) → 0 < n → places_of d (bit_and n (n - 1)) ≡ drop 1 (places_of d n)
places-rest d n p = places-from d (bit_and n (n - 1)) ∙ from-rest d 0 n p ∙ ap (drop 1) (sym (places-from d n))

-- ---- tests over the places
pub any-places : (p : ℕ → Bool) (d n : ℕ) → any p (places_of d n) ≡ any (λ i. bit_at n i && p i) (range d)
unfolding places_of
any-places p d n = any-filter p (bit_at n) (range d)

pub →any-places : (p : ℕ → Bool) (d n i : ℕ) → i < d → T (bit_at n i) → T (p i) → T (any p (places_of d n))
→any-places p d n i h a b =
    rw (any-places p d n) (→any-below (λ j. bit_at n j && p j) d i h (→and (bit_at n i) (p i) a b))

pub any-places→ : (p : ℕ → Bool) (d n : ℕ) → T (any p (places_of d n)) → (i : ℕ) × (i < d) × T (bit_at n i) × T (p i)
any-places→ p d n h =
    let (i, l, t) = any-below→ (λ j. bit_at n j && p j) d (rw (any-places p d n) at h) in
    let (a, b) = and→ (bit_at n i) (p i) t in
    (i, l, a, b)

any-length : (p : ℕ → Bool) (l : List ℕ) → any p l ≡ not (eqb (length (filter p l)) 0)
any-length p [] = refl
any-length p (x ∷ l) = go (p x) (any-length p l)
  where
    go : (b : Bool) → any p l ≡ not (eqb (length (filter p l)) 0)
        → (b || any p l) ≡ not (eqb (length (keep b x (filter p l))) 0)
    go true e = ap not (sym (eqb-suc-zero (length (filter p l))))
    go false e = e

-- some bit is set where there are places
pub places-some : (d n : ℕ) → any (bit_at n) (range d) ≡ not (eqb (length (places_of d n)) 0)
unfolding places_of
places-some d n = any-length (bit_at n) (range d)

-- ---- what holds of each place
-- the bit i is among the d lowest, and set
abbrev pub In : ℕ → ℕ → ℕ → Type 0
In d n i = (i < d) × T (bit_at n i)

pub places-each : (d n : ℕ) → Each (In d n) (places_of d n)
unfolding places_of
places-each d n =
    each-filter (In d n) (bit_at n) (range d)
    (each_map (λ i. i < d) (λ i. T (bit_at n i) → In d n i) (λ i h t. (h, t)) (range d) (each-range d))

pub places-below : (d n : ℕ) → Each (λ i. i < d) (places_of d n)
places-below d n = each_map (In d n) (λ i. i < d) (λ i h. h.0) (places_of d n) (places-each d n)

-- ---- the first of a list and the others
pub head-cons : (d : ℕ) (l : List ℕ) → get_or l 0 d < d → l ≡ get_or l 0 d ∷ drop 1 l
head-cons d [] h = absurd (lt_irrefl d h)
head-cons d (x ∷ l) h = refl

pub head-none : (d : ℕ) (Q : ℕ → Type 0) (l : List ℕ) → Each (λ i. (i < d) × Q i) l → d ≤ get_or l 0 d → l ≡ []
head-none d Q [] e h = refl
head-none d Q (x ∷ l) ((a, q), e) h = absurd (omega arith)

-- Sets of two words: laws of the number that the words make.
-- In order: words_count, words-empty; first-low, first-high; pop-low, pop-high, pop-none; with-low, with-high.
-- Assumes nothing.
use Rattle.std.proofs.Common.{◌≡◌, ◌⊎◌, ◌&&◌, ◌∷◌, ◌+◌, ◌-◌, ◌*◌, ◌/◌, ◌%◌, ◌^◌, ◌<◌}
use Rattle.laws.proofs.All.{refl, sym, ap, ap₂, ◌∙◌, subst, inl, inr, List, [], ℕ, zero, suc, Each}
use Rattle.laws.proofs.All.{add-zero, zero-add, suc-add, add_comm, mul_comm, one-mul, mod-eq_of_lt}
use Rattle.laws.proofs.All.{arith, eq-eqb, ne_eqb, digits_lt, bit_and, bit_or, T, eqb, eqb→eq, lit<, length, get_or}
use Rattle.laws.proofs.All.{drop}
use Rattle.laws.proofs.All.{pow-add, pow_pos, shl_exact, shr_lt, bool_eq}
use native.Mathlib.Nat.{eq-zero-or-pos, mul-one}
use lib.Arith.{lt-one}
use lib.Bits.{and_block, and_self, and_zero_l, or_block, or_zero_r, block_odd, block_half, shifted_even, shifted_half}
use lib.Count.{ones, ones_step, ones_cat, count_trailing_zeros, under, trailing_le}
use lib.Pow.{pow-lt, ones_lt}
use Rattle.bitsets.specs.BitSets.{places_of}
use Rattle.bitsets.proofs.Digits.{bit}
use Rattle.bitsets.proofs.Places.{places-ones, places-first, places-rest, places-below, head-cons}

half : (d n : ℕ) → n < 2 ^ suc d → n / 2 < 2 ^ d
half d n h = let e : suc d ≡ d + 1 = omega arith in shr_lt d 1 (subst (λ (x : ℕ). n < 2 ^ x) e h)

-- ---- a number with no bit set
ones-zero : (d n : ℕ) → n < 2 ^ d → ones n ≡ 0 → n ≡ 0
ones-zero zero n h e = lt-one h
ones-zero (suc d) n h e =
    let a : ones n ≡ n % 2 + ones (n / 2) = ones_step n in
    let b : n / 2 ≡ 0 = ones-zero d (n / 2) (half d n h) (omega arith) in
    omega arith

ones_none : ones 0 ≡ 0
unfolding ones
ones_none = refl

ones-eqb : (n : ℕ) → n < 2 ^ 64 → eqb (ones n) 0 ≡ eqb n 0
ones-eqb n p =
    bool_eq (eqb (ones n) 0) (eqb n 0)
    (λ t. subst (λ x. T (eqb x 0)) (sym (ones-zero 64 n p (eqb→eq (ones n) 0 t))) tt)
    (λ t. subst (λ x. T (eqb x 0)) (sym (ap ones (eqb→eq n 0 t) ∙ ones_none)) tt)

ones_pos : (n : ℕ) → n < 2 ^ 64 → 0 < n → 0 < ones n
ones_pos n p h = go (eq-zero-or-pos (ones n))
  where
    go : (ones n ≡ 0) ⊎ (0 < ones n) → 0 < ones n
    go (inl e) = absurd (let z : n ≡ 0 = ones-zero 64 n p e in omega arith)
    go (inr q) = q

-- ---- how many
pub words_count : (h l : ℕ) → h < 2 ^ 64 → l < 2 ^ 64 → length (places_of 128 (h * 2 ^ 64 + l)) ≡ ones l + ones h
words_count h l p q =
    places-ones 128 (h * 2 ^ 64 + l) ∙ ap ones (mod-eq_of_lt (digits_lt p q)) ∙ ones_cat 64 h l q ∙ add_comm _ _

-- ---- none
pub words-empty : (h l : ℕ) → h < 2 ^ 64 → l < 2 ^ 64
    → (eqb l 0 && eqb h 0) ≡ eqb (length (places_of 128 (h * 2 ^ 64 + l))) 0
words-empty h l p q = go (eq-zero-or-pos l)
  where
    go : (l ≡ 0) ⊎ (0 < l) → (eqb l 0 && eqb h 0) ≡ eqb (length (places_of 128 (h * 2 ^ 64 + l))) 0
    go (inl z) =
        let n : ones l + ones h ≡ ones h = omega (arith, ap ones z, ones_none) in
        ap (λ b. b && eqb h 0) (eq-eqb l 0 z) ∙ sym (ap (λ x. eqb x 0) (words_count h l p q ∙ n) ∙ ones-eqb h p)
    go (inr k) =
        let n : 0 < length (places_of 128 (h * 2 ^ 64 + l)) = omega (arith, words_count h l p q, ones_pos l q k) in
        ap (λ b. b && eqb h 0) (ne_eqb l 0 (λ e. omega arith))
        ∙ sym (ne_eqb (length (places_of 128 (h * 2 ^ 64 + l))) 0 (λ e. omega arith))

-- ---- the lowest
-- the zeros below a number that is shifted
tz-shifted : (j k a : ℕ) → count_trailing_zeros (j + k) (a * 2 ^ j) ≡ j + count_trailing_zeros k a
unfolding count_trailing_zeros
tz-shifted zero k a = ap₂ count_trailing_zeros (zero-add k) (mul-one a) ∙ sym (zero-add (count_trailing_zeros k a))
tz-shifted (suc j) k a = rw (suc-add j k, shifted_even a j, shifted_half a j, tz-shifted j k a) (omega arith)

-- the zeros below a number whose low part is not 0
tz-low : (j k a r : ℕ) → 0 < r → r < 2 ^ j → count_trailing_zeros (j + k) (a * 2 ^ j + r) ≡ count_trailing_zeros j r
unfolding count_trailing_zeros
tz-low zero k a r p h = absurd (omega arith)
tz-low (suc j) k a r p h =
    rw (suc-add j k, block_odd a j r, block_half a j r) (go (λ p. tz-low j k a (r / 2) p (half j r h)) (bit r))
  where
    go : (0 < r / 2 → count_trailing_zeros (j + k) (a * 2 ^ j + r / 2) ≡ count_trailing_zeros j (r / 2)) → (r % 2 ≡ 0)
        ⊎ (r % 2 ≡ 1)
        → under (r % 2) (count_trailing_zeros (j + k) (a * 2 ^ j + r / 2))
        ≡ under (r % 2) (count_trailing_zeros j (r / 2))
    go ih (inl e) = ap (under (r % 2)) (ih (omega arith))
    go ih (inr e) = rw e

pub first-low : (h l : ℕ) → 0 < l → l < 2 ^ 64 → get_or (places_of 128 (h * 2 ^ 64 + l)) 0 128
    ≡ count_trailing_zeros 64 l
first-low h l p q = places-first 128 (h * 2 ^ 64 + l) ∙ tz-low 64 64 h l p q

pub first-high : (h l : ℕ) → l ≡ 0 → get_or (places_of 128 (h * 2 ^ 64 + l)) 0 128 ≡ 64 + count_trailing_zeros 64 h
first-high h l z =
    places-first 128 (h * 2 ^ 64 + l) ∙ ap (count_trailing_zeros 128) (ap (λ x. h * 2 ^ 64 + x) z ∙ add-zero _)
    ∙ tz-shifted 64 64 h

-- ---- the ends of a list
get_or-in : (d : ℕ) (l : List ℕ) → Each (λ i. i < d) l → 0 < length l → get_or l 0 d < d
get_or-in d [] e h = absurd (omega arith)
get_or-in d (x ∷ l) (a, e) h = a

none-of : (l : List ℕ) → length l ≡ 0 → l ≡ []
none-of [] e = refl
none-of (x ∷ l) e = absurd (omega arith)

-- a word that is not 0 has a bit
trailing_lt : (n : ℕ) → 0 < n → n < 2 ^ 64 → count_trailing_zeros 64 n < 64
trailing_lt n p q =
    let k : 0 < length (places_of 64 n) = omega (arith, places-ones 64 n ∙ ap ones (mod-eq_of_lt q), ones_pos n q p) in
    subst (λ (x : ℕ). x < 64) (places-first 64 n) (get_or-in 64 (places_of 64 n) (places-below 64 n) k)

-- ---- without the lowest
module _ (d : ℕ) where
  pub rest-low : (h l : ℕ) → 0 < l → l < 2 ^ 64
      → places_of d (h * 2 ^ 64 + bit_and l (l - 1)) ≡ drop 1 (places_of d (h * 2 ^ 64 + l))
  rest-low h l p q =
      let n = h * 2 ^ 64 + l in
      let m : n - 1 ≡ h * 2 ^ 64 + (l - 1) = omega arith in
      let k : l - 1 < 2 ^ 64 = omega arith in
      ap (places_of d) (ap (λ x. x * 2 ^ 64 + bit_and l (l - 1)) (sym (and_self h))
      ∙ sym (and_block 64 h h l (l - 1) q k) ∙ ap (bit_and n) (sym m))
      ∙ places-rest d n (omega arith)

  pub rest-high : (h l : ℕ) → 0 < h → l ≡ 0
      → places_of d (bit_and h (h - 1) * 2 ^ 64 + 0) ≡ drop 1 (places_of d (h * 2 ^ 64 + l))
  rest-high h l p z =
      let n = h * 2 ^ 64 + 0 in
      let m : n - 1 ≡ (h - 1) * 2 ^ 64 + (2 ^ 64 - 1) = omega arith in
      ap (places_of d) (ap (λ x. bit_and h (h - 1) * 2 ^ 64 + x) (sym (and_zero_l (2 ^ 64 - 1)))
      ∙ sym (and_block 64 h (h - 1) 0 (2 ^ 64 - 1) (pow_pos 64) (ones_lt 64)) ∙ ap (bit_and n) (sym m))
      ∙ places-rest d n (omega arith) ∙ ap (λ x. drop 1 (places_of d (h * 2 ^ 64 + x))) (sym z)

-- ---- the lowest and the others
pub pop-low : (h l : ℕ) → 0 < l → l < 2 ^ 64
    → places_of 128 (h * 2 ^ 64 + l)
    ≡ count_trailing_zeros 64 l ∷ places_of 128 (h * 2 ^ 64 + bit_and l (l - 1))
pop-low h l p q =
    let xs = places_of 128 (h * 2 ^ 64 + l) in
    head-cons 128 xs (omega (arith, first-low h l p q, trailing_le 64 l))
    ∙ ap₂ (λ x ys. x ∷ ys) (first-low h l p q) (sym (rest-low 128 h l p q))

pub pop-high : (h l : ℕ) → 0 < h → h < 2 ^ 64 → l ≡ 0
    → places_of 128 (h * 2 ^ 64 + l)
    ≡ (64 + count_trailing_zeros 64 h) ∷ places_of 128 (bit_and h (h - 1) * 2 ^ 64 + l)
pop-high h l p q z =
    let xs = places_of 128 (h * 2 ^ 64 + l) in
    head-cons 128 xs (omega (arith, first-high h l z, trailing_lt h p q))
    ∙ ap₂ (λ x ys. x ∷ ys) (first-high h l z)
    (sym (ap (λ x. places_of 128 (bit_and h (h - 1) * 2 ^ 64 + x)) z ∙ rest-high 128 h l p z))

pub pop-none : (h l : ℕ) → h ≡ 0 → l ≡ 0 → places_of 128 (h * 2 ^ 64 + l) ≡ []
pop-none h l y z =
    none-of _ (ap₂ (λ a b. length (places_of 128 (a * 2 ^ 64 + b))) y z ∙ places-ones 128 0 ∙ ones_none)

-- ---- one bit put in, in either word
pub with-low : (hi lo i : ℕ) → i < 64 → lo < 2 ^ 64
    → hi * 2 ^ 64 + bit_or lo (1 * 2 ^ i % 2 ^ 64) ≡ bit_or (hi * 2 ^ 64 + lo) (2 ^ i)
with-low hi lo i h l =
    let b : 2 ^ i < 2 ^ 64 = pow-lt h in
    ap (λ x. hi * 2 ^ 64 + bit_or lo x) (shl_exact {a = 1} 1 i 64 (lit< tt) (omega arith) ∙ one-mul (2 ^ i))
    ∙ ap (λ x. x * 2 ^ 64 + bit_or lo (2 ^ i)) (sym (or_zero_r hi))
    ∙ sym (or_block 64 hi 0 lo (2 ^ i) l b) ∙ ap (bit_or (hi * 2 ^ 64 + lo)) (zero-add (2 ^ i))

pub with-high : (hi lo i : ℕ) → i < 64 → lo < 2 ^ 64
    → bit_or hi (1 * 2 ^ i % 2 ^ 64) * 2 ^ 64 + lo ≡ bit_or (hi * 2 ^ 64 + lo) (2 ^ (64 + i))
with-high hi lo i h l =
    ap (λ x. bit_or hi x * 2 ^ 64 + lo) (shl_exact {a = 1} 1 i 64 (lit< tt) (omega arith) ∙ one-mul (2 ^ i))
    ∙ ap (λ x. bit_or hi (2 ^ i) * 2 ^ 64 + x) (sym (or_zero_r lo))
    ∙ sym (or_block 64 hi (2 ^ i) lo 0 l (pow_pos 64))
    ∙ ap (bit_or (hi * 2 ^ 64 + lo)) (add-zero _ ∙ mul_comm _ _ ∙ sym (pow-add 2 64 i))

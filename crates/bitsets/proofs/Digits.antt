-- Single bits: of a number of two words, of a union, of a meeting, of one bit and of a row of ones.
-- In order: bit; bit-low, bit_high; or-bit, and-bit; zero_bit, pow-bit, ones_bit.
-- Assumes nothing.
use Rattle.std.proofs.Common.{◌≡◌, ◌⊎◌, ◌||◌, ◌&&◌, ◌+◌, ◌-◌, ◌*◌, ◌/◌, ◌%◌, ◌^◌, ◌<◌}
use Rattle.laws.proofs.All.{refl, sym, ap, ◌∙◌, inl, inr, false, ℕ, zero, suc}
use Rattle.laws.proofs.All.{add_comm, mul_assoc, mod-lt, add-mul-div_right, mul-add-mod_self_right}
use Rattle.laws.proofs.All.{div-eq_of_lt, pow-suc, arith, digits_div, digits_mod, bit_and, bit_or, eqb, ltb, lit<}
use Rattle.laws.proofs.All.{pow-add, pow_pos, high, shr-shr}
use native.Mathlib.Nat.{zero-lt-suc, div-one, mul-mod_left, mul-div_cancel, zero-div}
use lib.Bits.{or_shr, or_mod, and_shr, and_mod}
use lib.Dec.{eqb-zero-suc, eqb-suc-zero, eqb-suc-suc, leb-suc-suc, leb-zero, leb-suc-zero}
use lib.Pow.{pow-lt, ones_split}
use Rattle.bitsets.specs.BitSets.{bit_at}

-- a bit is 0 or 1
pub bit : (n : ℕ) → (n % 2 ≡ 0) ⊎ (n % 2 ≡ 1)
bit n = go (n % 2) (mod-lt n (lit< tt))
  where
    go : (r : ℕ) → r < 2 → (r ≡ 0) ⊎ (r ≡ 1)
    go zero h = inl refl
    go (suc zero) h = inr refl
    go (suc (suc r)) h = absurd (omega arith)

-- ---- a number of two words
pub bit-low : (hi lo i : ℕ) → i < 64 → bit_at (hi * 2 ^ 64 + lo) i ≡ bit_at lo i
bit-low hi lo i h =
    let e : 64 ≡ 63 - i + (1 + i) = omega arith in
    let P = 2 ^ (63 - i) in
    let big : hi * 2 ^ 64 ≡ hi * P * 2 * 2 ^ i =
    ap (λ n. hi * 2 ^ n) e
    ∙ ap (λ x. hi * x) (pow-add 2 (63 - i) (1 + i) ∙ ap (λ x. P * x) (pow-add 2 1 i))
    ∙ sym (mul_assoc hi P (2 * 2 ^ i)) ∙ sym (mul_assoc (hi * P) 2 (2 ^ i)) in
    ap (λ x. eqb x 1)
    (ap (λ x. (x + lo) / 2 ^ i % 2) big ∙ ap (λ x. x / 2 ^ i % 2) (add_comm _ lo)
    ∙ ap (λ x. x % 2) (add-mul-div_right lo (hi * P * 2) (pow_pos i) ∙ add_comm _ _)
    ∙ mul-add-mod_self_right (hi * P) 2 (lo / 2 ^ i))

pub bit_high : (hi lo i : ℕ) → lo < 2 ^ 64 → bit_at (hi * 2 ^ 64 + lo) (64 + i) ≡ bit_at hi i
bit_high hi lo i h =
    ap (λ x. eqb (x % 2) 1) (sym (shr-shr (hi * 2 ^ 64 + lo) 64 i) ∙ ap (λ x. x / 2 ^ i) (high hi 64 h))

-- ---- union and meeting
pub or-bit : (a b j : ℕ) → bit_at (bit_or a b) j ≡ (bit_at a j || bit_at b j)
or-bit a b j =
    ap (λ x. eqb (x % 2) 1) (or_shr a b j) ∙ ap (λ x. eqb x 1) (or_mod (a / 2 ^ j) (b / 2 ^ j) 1)
    ∙ go (bit (a / 2 ^ j)) (bit (b / 2 ^ j))
  where
    go : (a / 2 ^ j % 2 ≡ 0) ⊎ (a / 2 ^ j % 2 ≡ 1) → (b / 2 ^ j % 2 ≡ 0) ⊎ (b / 2 ^ j % 2 ≡ 1)
        → eqb (bit_or (a / 2 ^ j % 2) (b / 2 ^ j % 2)) 1 ≡ (eqb (a / 2 ^ j % 2) 1 || eqb (b / 2 ^ j % 2) 1)
    go (inl e) (inl f) = rw (e, f)
    go (inl e) (inr f) = rw (e, f)
    go (inr e) (inl f) = rw (e, f)
    go (inr e) (inr f) = rw (e, f)

pub and-bit : (a b j : ℕ) → bit_at (bit_and a b) j ≡ (bit_at a j && bit_at b j)
and-bit a b j =
    ap (λ x. eqb (x % 2) 1) (and_shr a b j) ∙ ap (λ x. eqb x 1) (and_mod (a / 2 ^ j) (b / 2 ^ j) 1)
    ∙ go (bit (a / 2 ^ j)) (bit (b / 2 ^ j))
  where
    go : (a / 2 ^ j % 2 ≡ 0) ⊎ (a / 2 ^ j % 2 ≡ 1) → (b / 2 ^ j % 2 ≡ 0) ⊎ (b / 2 ^ j % 2 ≡ 1)
        → eqb (bit_and (a / 2 ^ j % 2) (b / 2 ^ j % 2)) 1 ≡ (eqb (a / 2 ^ j % 2) 1 && eqb (b / 2 ^ j % 2) 1)
    go (inl e) (inl f) = rw e
    go (inl e) (inr f) = rw e
    go (inr e) (inl f) = rw (e, f)
    go (inr e) (inr f) = rw (e, f)

-- ---- no bit, one bit, a row of ones
pub zero_bit : (j : ℕ) → bit_at 0 j ≡ false
zero_bit j = ap (λ x. eqb (x % 2) 1) (zero-div (2 ^ j))

-- the bits above the lowest
bit-suc : (n j : ℕ) → bit_at n (suc j) ≡ bit_at (n / 2) j
bit-suc n j =
    let e : suc j ≡ 1 + j = omega arith in
    ap (λ x. eqb (x % 2) 1) (ap (λ k. n / 2 ^ k) e ∙ sym (shr-shr n 1 j))

pub pow-bit : (i j : ℕ) → bit_at (2 ^ i) j ≡ eqb i j
pow-bit zero zero = refl
pow-bit zero (suc j) = rw (div-eq_of_lt (pow-lt {i = 0} {j = suc j} (zero-lt-suc j))) (sym (eqb-zero-suc j))
pow-bit (suc i) zero = rw (div-one (2 ^ suc i), pow-suc 2 i, mul-mod_left (2 ^ i) 2) (sym (eqb-suc-zero i))
pow-bit (suc i) (suc j) =
    bit-suc (2 ^ suc i) j
    ∙ ap (λ x. bit_at x j) (ap (λ x. x / 2) (pow-suc 2 i) ∙ mul-div_cancel (2 ^ i) (zero-lt-suc 1))
    ∙ pow-bit i j ∙ sym (eqb-suc-suc i j)

-- a row of ones by its lowest
ones-more : (n : ℕ) → 2 ^ suc n - 1 ≡ (2 ^ n - 1) * 2 + 1
ones-more n = let e : suc n ≡ n + 1 = omega arith in ap (λ k. 2 ^ k - 1) e ∙ ones_split n 1

pub ones_bit : (n j : ℕ) → bit_at (2 ^ n - 1) j ≡ ltb j n
ones_bit zero j = zero_bit j ∙ sym (leb-suc-zero j)
ones_bit (suc n) zero =
    rw (div-one (2 ^ suc n - 1), ones-more n, digits_mod (2 ^ n - 1) {m = 2} {r = 1} (lit< tt))
    (sym (leb-suc-suc 0 n ∙ leb-zero n))
ones_bit (suc n) (suc j) =
    bit-suc (2 ^ suc n - 1) j
    ∙ ap (λ x. bit_at x j) (ap (λ x. x / 2) (ones-more n) ∙ digits_div (2 ^ n - 1) {m = 2} {r = 1} (lit< tt))
    ∙ ones_bit n j ∙ sym (leb-suc-suc (suc j) n)

-- A product modulo 2^64 from the products of its halves.
-- In order: three-terms; product; sum_more, sum-append.
-- Assumes nothing.
use Rattle.std.proofs.Common.{◌≡◌, ℕ, ◌+◌, ◌*◌, ◌/◌, ◌%◌, ◌^◌, ◌<◌, List, [], ◌∷◌, ◌++◌, length, get_or, drop, sym}
use Rattle.std.proofs.Common.{refl, ap, ◌∙◌, div-add-mod', add-one, arith, drop-cons}
use native.Mathlib.Nat.{mod-add-mod, add-mod-mod}
use Rattle.checksum.specs.Fnv.{step, sum}

three-terms : (m a b c : ℕ) → ((a + b % m) % m + c % m) % m ≡ (a + b + c) % m
three-terms m a b c =
    ap (λ k. (k + c % m) % m) (add-mod-mod a b m) ∙ mod-add-mod (a + b) m (c % m) ∙ add-mod-mod (a + b) c m

-- THEOREM: x times 2^40 + 435
pub product : (x p r : ℕ) → p ≡ (x % 4294967296 * 435 + (x / 4294967296 * 435 * 2 ^ 32) % 2 ^ 64) % 2 ^ 64
    → r ≡ (p + (x * 2 ^ 40) % 2 ^ 64) % 2 ^ 64 → r ≡ (x * 1099511628211) % 2 ^ 64
product x p r e f =
    let low = x % 4294967296 in
    let high = x / 4294967296 in
    let halves : high * 4294967296 + low ≡ x = div-add-mod' x 4294967296 in
    let all : low * 435 + high * 435 * 4294967296 + x * 1099511627776 ≡ x * 1099511628211 = omega arith in
    f ∙ ap (λ k. (k + (x * 2 ^ 40) % 2 ^ 64) % 2 ^ 64) e
    ∙ three-terms (2 ^ 64) (low * 435) (high * 435 * 2 ^ 32) (x * 2 ^ 40) ∙ ap (λ k. k % 2 ^ 64) all

-- one byte more is taken in
pub sum_more : (x : ℕ) (bytes : List ℕ) (i : ℕ) → i < length bytes
    → sum x (drop i bytes) ≡ sum (step x (get_or bytes i 0)) (drop (i + 1) bytes)
sum_more x bytes i h =
    ap (sum x) (drop-cons bytes i 0 h) ∙ ap (λ k. sum (step x (get_or bytes i 0)) (drop k bytes)) (sym (add-one i))

-- the checksum of two lists in a row
pub sum-append : (x : ℕ) (a b : List ℕ) → sum x (a ++ b) ≡ sum (sum x a) b
sum-append x [] b = refl
sum-append x (y ∷ a) b = sum-append (step x y) a b

-- Places s * n + d of a table with n places a row: their row, their place in it, and their bound; equal remainders.
-- In order: quotient-of, remainder_of, place-lt; mod-diff.
-- Assumes nothing.
use mathlib.Core.Path.{◌≡◌, ap, ◌∙◌}
use Prim.Native.Nat.{ℕ, ◌+◌, ◌-◌, ◌*◌, ◌/◌, ◌%◌, ◌<◌}
use native.Mathlib.Nat.{mul-le-mul_right, mod-eq_of_lt, add-mul-div_right, mul-add-mod_self_right, div-eq_of_lt}
use native.Mathlib.Nat.{add_comm, mod-add-div, mod-eq-zero_of_dvd, dvd-sub, dvd-mul_right}
use native.Mathlib.Omega.{arith}

pub quotient-of : (n s d : ℕ) → d < n → (s * n + d) / n ≡ s
quotient-of n s d h =
    let z : d / n + s ≡ s = rw (div-eq_of_lt h) (omega arith) in
    ap (λ m. m / n) (add_comm (s * n) d) ∙ add-mul-div_right d s {z = n} (omega arith) ∙ z

pub remainder_of : (n s d : ℕ) → d < n → (s * n + d) % n ≡ d
remainder_of n s d h = mul-add-mod_self_right s n d ∙ mod-eq_of_lt h

pub place-lt : (S n s d : ℕ) → s < S → d < n → s * n + d < S * n
place-lt S n s d h g = omega (arith, mul-le-mul_right {m = s + 1} {n = S} n (omega arith))

-- ---- equal remainders
pub mod-diff : (n a b : ℕ) → a % n ≡ (a + b) % n → b % n ≡ 0
mod-diff n a b h =
    let q = (a + b) / n in
    let r = a / n in
    let e : b ≡ n * q - n * r = omega (arith, mod-add-div (a + b) n, mod-add-div a n) in
    rw e (mod-eq-zero_of_dvd n (dvd-sub n (dvd-mul_right n q) (dvd-mul_right n r)))

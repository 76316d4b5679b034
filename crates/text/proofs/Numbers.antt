-- The fewest digits that hold a number are as many as it has; and how many that can be.
-- In order: Sized, size-sized; fewest-size; decimal-is, hex-is; decimal-long, decimal-short.
-- Assumes nothing.
use Rattle.std.proofs.Common.{◌≡◌, ◌∷◌, ◌*◌, ◌-◌, ◌/◌, ◌%◌, ◌^◌, ◌≤◌, ◌<◌, if◌then◌else◌}
use Rattle.laws.proofs.All.{refl, sym, ap, subst, ◌∙◌, Bool, true, false, [], ℕ, zero, suc}
use Rattle.laws.proofs.All.{min, max, pow-suc, pow-zero, pow-le-pow_right, le-div_iff_mul-le}
use Rattle.laws.proofs.All.{div-lt_iff_lt-mul, max-eq_left, max-eq_right, one-mul, le-max_right, min-eq_left}
use Rattle.laws.proofs.All.{min-eq_right, arith, dec_lt, dec_le, ltb-true, ltb-false, ltb, length, length-append}
use Rattle.io.specs.Digits.{hex_digit_ascii, last_digits, IsDigitCount}
use Rattle.text.specs.Texts.{size, decimal, hex}

-- s digits hold n, and no fewer do
pub record Sized (b n s : ℕ) : Type 0 where
  pub some : 1 ≤ s
  pub holds : n < b ^ s
  pub least : 1 < s → b ^ (s - 1) ≤ n

module _ (b : ℕ) (two : 1 < b) where
  pow-one : b ^ 1 ≡ b
  pow-one = pow-suc b 0 ∙ ap (λ m. m * b) (pow-zero b) ∙ one-mul b

  one-digit : (n : ℕ) → n < b → Sized b n 1
  one-digit n h = record {
    some = omega arith;
    holds = let e = pow-one in omega arith;
    least = λ l. absurd (omega arith);
  }

  more-digits : (n s : ℕ) → b ≤ n → Sized b (n / b) s → Sized b n (suc s)
  more-digits n s h z = record {
    some = omega arith;
    holds =
        subst (λ m. n < m) (sym (pow-suc b s))
        ((div-lt_iff_lt-mul {k = b} {x = n} {y = b ^ s} (omega arith)).0 z.holds);
    least = λ l. subst (λ m. b ^ m ≤ n) (let e : s ≡ suc s - 1 = omega arith in e) (go (dec_lt 1 s));
  }
    where
      go : Dec (1 < s) → b ^ s ≤ n
      go (yes l) =
          let e : suc (s - 1) ≡ s = omega arith in
          subst (λ m. b ^ m ≤ n) e (subst (λ m. m ≤ n) (sym (pow-suc b (s - 1)))
          ((le-div_iff_mul-le {k = b} {x = b ^ (s - 1)} {y = n} (omega arith)).0 (z.least l)))
      go (no l) = let e : 1 ≡ s = let o = z.some in omega arith in
          subst (λ m. b ^ m ≤ n) e (let p = pow-one in omega arith)

  pub size-sized : (k n : ℕ) → n < b ^ suc k → Sized b n (size b (suc k) n)
  size-sized zero n h = go (ltb n b) refl
    where
      go : (t : Bool) → ltb n b ≡ t → Sized b n (if t then 1 else 1)
      go true e = one-digit n (ltb-true n b e)
      go false e = one-digit n (let p = pow-one in omega arith)
  size-sized (suc k) n h = go (size-sized k (n / b)) (ltb n b) refl
    where
      less : n / b < b ^ suc k
      less =
          (div-lt_iff_lt-mul {k = b} {x = n} {y = b ^ suc k} (omega arith)).1
          (subst (λ m. n < m) (pow-suc b (suc k)) h)

      go : (n / b < b ^ suc k → Sized b (n / b) (size b (suc k) (n / b))) → (t : Bool) → ltb n b ≡ t
          → Sized b n (if t then 1 else suc (size b (suc k) (n / b)))
      go f true e = one-digit n (ltb-true n b e)
      go f false e = more-digits n _ (ltb-false n b e) (f less)

  pub pow-less : (x y : ℕ) → b ^ x < b ^ y → x < y
  pow-less x y h = go (dec_lt x y)
    where
      go : Dec (x < y) → x < y
      go (yes l) = l
      go (no l) =
          absurd (let g : b ^ y ≤ b ^ x = pow-le-pow_right {n = b} (omega arith) {i = y} {j = x} (omega arith) in
          omega arith)

  pub fewest-size : (least n r s : ℕ) → 1 ≤ least → IsDigitCount b least n r → Sized b n s → r ≡ max least s
  fewest-size least n r s one (above, holds, no-fewer) z = go (dec_le least s)
    where
      enough : s ≤ r
      enough = case (dec_le s r)
        where
          case : Dec (s ≤ r) → s ≤ r
          case (yes l) = l
          case (no l) =
              let g = z.least (omega arith) in
              let k = pow-less (s - 1) r (omega arith) in
              absurd (omega arith)

      none_over : least < r → r ≤ s
      none_over l = let g = no-fewer l in let h = z.holds in let k = pow-less (r - 1) s (omega arith) in omega arith

      go : Dec (least ≤ s) → r ≡ max least s
      go (yes l) = case (dec_lt least r) ∙ sym (max-eq_right l)
        where
          case : Dec (least < r) → r ≡ s
          case (yes k) = let u = none_over k in let e = enough in omega arith
          case (no k) = let e = enough in omega arith
      go (no l) = case (dec_lt least r) ∙ sym (max-eq_left (let k : s ≤ least = omega arith in k))
        where
          case : Dec (least < r) → r ≡ least
          case (yes k) = let u = none_over k in absurd (omega arith)
          case (no k) = omega arith

-- ---- as the calls of `io` give them
pub decimal-is : (n r : ℕ) → n < 2 ^ 64 → IsDigitCount 10 1 n r → last_digits 10 r n ≡ decimal n
unfolding decimal
decimal-is n r h f =
    let z = size-sized 10 (omega arith) 19 n (omega arith) in
    ap (λ k. last_digits 10 k n) (fewest-size 10 (omega arith) 1 n r (size 10 20 n) (omega arith) f z ∙ max-eq_right
    z.some)

pub hex-is : (w n r : ℕ) → n < 2 ^ 64 → IsDigitCount 16 (min (max w 1) 16) n r → last_digits 16 r n ≡ hex w n
unfolding hex
hex-is w n r h f =
    ap (λ k. last_digits 16 k n) (fewest-size 16 (omega arith) (min (max w 1) 16) n r (size 16 16 n) (width (max w 1)
    (le-max_right w 1)) f (size-sized 16 (omega arith) 15 n (omega arith)))
  where
    width : (m : ℕ) → 1 ≤ m → 1 ≤ min m 16
    width m h = go (dec_le m 16)
      where
        go : Dec (m ≤ 16) → 1 ≤ min m 16
        go (yes l) = subst (λ k. 1 ≤ k) (sym (min-eq_left l)) h
        go (no l) = let e : min m 16 ≡ 16 = min-eq_right (let k : 16 ≤ m = omega arith in k) in omega arith

-- ---- how many digits there can be
length_digits : (b k n : ℕ) → length (last_digits b k n) ≡ k
length_digits b zero n = refl
length_digits b (suc k) n =
    let l = length-append (last_digits b k (n / b)) (hex_digit_ascii (n % b) ∷ []) in
    let e = length_digits b k (n / b) in
    omega arith

size-most : (b k n : ℕ) → size b k n ≤ k
size-most b zero n = omega arith
size-most b (suc k) n = go (ltb n b) (size-most b k (n / b))
  where
    go : (t : Bool) → size b k (n / b) ≤ k → (if t then 1 else suc (size b k (n / b))) ≤ suc k
    go true h = omega arith
    go false h = omega arith

pub decimal-long : (n : ℕ) → length (decimal n) ≤ 20
unfolding decimal
decimal-long n = omega (arith, length_digits 10 (size 10 20 n) n, size-most 10 20 n)

pub decimal-short : (n : ℕ) → n < 1000 → length (decimal n) ≤ 3
unfolding decimal
decimal-short n h =
    let l = few (size 10 20 n) (size-sized 10 (omega arith) 19 n (omega arith)) in
    omega (arith, length_digits 10 (size 10 20 n) n)
  where
    few : (s : ℕ) → Sized 10 n s → s ≤ 3
    few s z = go (dec_le s 3)
      where
        go : Dec (s ≤ 3) → s ≤ 3
        go (yes l) = l
        go (no l) =
            let g = z.least (omega arith) in
            let k = pow-less 10 (omega arith) (s - 1) 3 (omega arith) in
            absurd (omega arith)

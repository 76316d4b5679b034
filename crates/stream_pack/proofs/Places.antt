-- Bit by bit: where each bit of the words stands in a stream, the highest bit of a byte and of a word first.
-- In order: none-of-0, bits_at, zeros-at, uniform-bit, bit-of; value-more, field-bits; below-packed; packed-bits.
-- Assumes nothing.
use Rattle.std.proofs.Common.{◌≡◌, ◌∷◌, ◌++◌, ◌+◌, ◌*◌, ◌-◌, ◌/◌, ◌%◌, ◌^◌, ◌≤◌, ◌<◌}
use Rattle.laws.proofs.All.{refl, sym, ap, ap₂, subst, ◌∙◌, List, [], ℕ, zero, suc}
use Rattle.laws.proofs.All.{arith, dec_lt, pow_pos, div-eq_of_lt, div-add-mod', div-lt_iff_lt-mul}
use Rattle.laws.proofs.All.{mod-lt, pow-suc, length, length-append, length-take-le, length-drop, take, drop, get_or}
use Rattle.laws.proofs.All.{get_or-drop, get_or-append, get_or-append-add, get_or-eq_default, Below}
use Rattle.bits.specs.Fields.{bits, value, write, uniform, bits_of, field}
use Rattle.bits.proofs.Fields.{length-bits, below-read, below-write}
use Rattle.bits.proofs.Puts.{length-uniform, length-bits_of}
use Rattle.stream_pack.specs.Streams.{stream_size, stream_fill, stream_widths, packed}
use Rattle.stream_pack.proofs.Streams.{packed-size, uniform-packed}

-- 0 has no bit that is 1
none-of-0 : (k : ℕ) → 0 / 2 ^ k % 2 ≡ 0
none-of-0 k = ap (λ n. n % 2) (div-eq_of_lt (pow_pos k))

-- bit i of the n bits of a number, the highest first
bits_at : (n x i : ℕ) → i < n → get_or (bits n x) i 0 ≡ x / 2 ^ (n - 1 - i) % 2
bits_at zero x i h = absurd (omega arith)
bits_at (suc n) x zero h = ap (λ k. x / 2 ^ k % 2) {x = n} {y = suc n - 1 - 0} (omega arith)
bits_at (suc n) x (suc i) h =
    bits_at n x i (omega arith) ∙ ap (λ k. x / 2 ^ k % 2) {x = n - 1 - i} {y = suc n - 1 - suc i} (omega arith)

zeros-at : (f i : ℕ) → get_or (bits f 0) i 0 ≡ 0
zeros-at zero i = refl
zeros-at (suc f) zero = none-of-0 f
zeros-at (suc f) (suc i) = zeros-at f i

-- bit b of number j, of numbers in fields of n bits
uniform-bit : (n : ℕ) (xs : List ℕ) (j b : ℕ) → j < length xs → b < n
    → get_or (uniform n xs) (j * n + b) 0 ≡ get_or xs j 0 / 2 ^ (n - 1 - b) % 2
uniform-bit n [] j b h l = absurd (omega arith)
uniform-bit n (x ∷ xs) zero b h l =
    ap (λ k. get_or (bits n x ++ uniform n xs) k 0) {x = 0 * n + b} {y = b} (omega arith)
    ∙ get_or-append (bits n x) (uniform n xs) 0 b (subst (λ k. b < k) (sym (length-bits n x)) l) ∙ bits_at n x b l
uniform-bit n (x ∷ xs) (suc j) b h l =
    ap (λ k. get_or (bits n x ++ uniform n xs) k 0) (place ∙ ap (λ k. k + (j * n + b)) (sym (length-bits n x)))
    ∙ get_or-append-add (bits n x) (uniform n xs) (j * n + b) 0 ∙ uniform-bit n xs j b (omega arith) l
  where
    place : suc j * n + b ≡ n + (j * n + b)
    place = omega arith

-- bit i, in fields of n bits
bit-of : (n : ℕ) (xs : List ℕ) (i : ℕ) → 0 < n → i < length xs * n
    → get_or (uniform n xs) i 0 ≡ get_or xs (i / n) 0 / 2 ^ (n - 1 - i % n) % 2
bit-of n xs i z h =
    ap (λ k. get_or (uniform n xs) k 0) (sym (div-add-mod' i n))
    ∙ uniform-bit n xs (i / n) (i % n) ((div-lt_iff_lt-mul {k = n} {x = i} {y = length xs} z).1 h) (mod-lt i z)

-- ---- fields
-- one bit more
value-more : (w : ℕ) (bs : List ℕ) → w < length bs → value (take (w + 1) bs) ≡ 2 * value (take w bs) + get_or bs w 0
value-more w [] h = absurd (omega arith)
value-more zero (b ∷ bs) h = omega arith
value-more (suc w) (b ∷ bs) h =
    let e : suc w + 1 ≡ suc (w + 1) = omega arith in
    let l : w < length bs = omega arith in
    let m : length (take (w + 1) bs) ≡ suc w = length-take-le (w + 1) bs (omega arith) ∙ omega arith in
    let n : length (take w bs) ≡ w = length-take-le w bs (omega arith) in
    ap (λ k. value (take k (b ∷ bs))) e
    ∙ ap₂ (λ k x. b * 2 ^ k + x) m (value-more w bs l)
    ∙ grown b (2 ^ w) (2 ^ suc w) (value (take w bs)) (get_or bs w 0) (pow-suc 2 w)
    ∙ ap (λ k. 2 * (b * 2 ^ k + value (take w bs)) + get_or bs w 0) (sym n)
  where
    grown : (b p q v x : ℕ) → q ≡ p * 2 → b * q + (2 * v + x) ≡ 2 * (b * p + v) + x
    grown b p q v x e = rw e (omega arith)

-- THEOREM: "most significant bit first with no gaps": what a field is, by the bits of the bytes
pub field-bits : (xs : List ℕ) (o : ℕ) → (field (bits_of xs) o 0 ≡ 0) × ((w : ℕ) → o + w < 8 * length xs
    → let i = o + w in
    field (bits_of xs) o (w + 1) ≡ 2 * field (bits_of xs) o w + get_or xs (i / 8) 0 / 2 ^ (7 - i % 8) % 2)
field-bits xs o = (refl, more)
  where
    more : (w : ℕ) → o + w < 8 * length xs → let i = o + w in
        field (bits_of xs) o (w + 1) ≡ 2 * field (bits_of xs) o w + get_or xs (i / 8) 0 / 2 ^ (7 - i % 8) % 2
    more w h =
        let B = bits_of xs in
        let l : length (drop o B) ≡ length B - o = length-drop o B in
        let b : length B ≡ length xs * 8 = length-bits_of xs in
        value-more w (drop o B) (omega arith)
        ∙ ap (λ x. 2 * field B o w + x) (get_or-drop o B w 0 ∙ bit-of 8 xs (o + w) (omega arith) (omega arith))

below-packed : (q : ℕ) (ws : List ℕ) → Below 256 (packed q ws)
unfolding packed
below-packed q ws =
    let W = stream_widths q (length ws) in
    below-read 8 (stream_size q (length ws)) (write W (ws ++ 0 ∷ [])) (below-write W (ws ++ 0 ∷ []))

-- "a bit stream, eight to the byte, first bit highest, last byte filled with 0"
pub packed-bits : (q : ℕ) (ws : List ℕ) → 0 < q → let xs = packed q ws in let n = length ws * q in
    (length xs ≡ (n + 7) / 8) × Below 256 xs
    × ((i : ℕ) → i < n → get_or xs (i / 8) 0 / 2 ^ (7 - i % 8) % 2 ≡ get_or ws (i / q) 0 / 2 ^ (q - 1 - i % q) % 2)
    × ((i : ℕ) → n ≤ i → get_or xs (i / 8) 0 / 2 ^ (7 - i % 8) % 2 ≡ 0)
packed-bits q ws z = (packed-size q ws, below-packed q ws, among, past)
  where
    f : ℕ
    f = stream_fill q (length ws)

    n : ℕ
    n = length ws * q

    long : length (packed q ws) * 8 ≡ n + f
    long =
        sym (length-bits_of (packed q ws)) ∙ ap length (uniform-packed q ws)
        ∙ length-append (uniform q ws) (bits f 0) ∙ ap₂ ◌+◌ (length-uniform q ws) (length-bits f 0)

    among : (i : ℕ) → i < n
        → get_or (packed q ws) (i / 8) 0 / 2 ^ (7 - i % 8) % 2 ≡ get_or ws (i / q) 0 / 2 ^ (q - 1 - i % q) % 2
    among i h =
        sym (bit-of 8 (packed q ws) i (omega arith) (omega (arith, long)))
        ∙ ap (λ l. get_or l i 0) (uniform-packed q ws)
        ∙ get_or-append (uniform q ws) (bits f 0) 0 i (subst (λ k. i < k) (sym (length-uniform q ws)) h)
        ∙ bit-of q ws i z h

    past : (i : ℕ) → n ≤ i → get_or (packed q ws) (i / 8) 0 / 2 ^ (7 - i % 8) % 2 ≡ 0
    past i h = elim (dec_lt i (length (packed q ws) * 8)) [
      | yes l ↦ sym (bit-of 8 (packed q ws) i (omega arith) l) ∙ ap (λ l. get_or l i 0) (uniform-packed q ws)
          ∙ ap (λ k. get_or (uniform q ws ++ bits f 0) k 0)
          {y = length (uniform q ws) + (i - n)} (omega (arith, length-uniform q ws))
          ∙ get_or-append-add (uniform q ws) (bits f 0) (i - n) 0 ∙ zeros-at f (i - n)
      | no l ↦ ap (λ x. x / 2 ^ (7 - i % 8) % 2)
          (get_or-eq_default (packed q ws) 0 (omega arith)) ∙ none-of-0 (7 - i % 8)
    ]

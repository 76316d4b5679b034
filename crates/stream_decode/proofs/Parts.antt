-- Decoding part by part: where the words of a part stand in the stream, the blocks that they give, and the places of
-- these in the output.
-- In order: skip-in, part-holds, part-reach; part-read; part_end.
-- Assumes nothing.
use Rattle.std.proofs.Common.{◌≡◌, ◌⊎◌, ◌++◌, ◌+◌, ◌-◌, ◌*◌, ◌/◌, ◌%◌, ◌≤◌, ◌<◌}
use Rattle.laws.proofs.All.{sym, ap, ap₂, ◌∙◌, inl, inr, List, [], map, append_assoc, append-nil, ℕ}
use Rattle.laws.proofs.All.{min, min-le_left, min-le_right, le-min}
use Rattle.laws.proofs.All.{mul-le-mul_right, arith, dec_le, length, take, drop, drop_of_length-le, length-drop}
use Rattle.laws.proofs.All.{length-take-le, take_at, drop-drop, from, map-from-same, take_rest}
use Rattle.table.specs.Rows.{Code}
use Rattle.codec_steps.specs.Reading.{block}
use Rattle.codec.proofs.Local.{block-part}
use Rattle.stream_pack.specs.Streams.{unpacked}
use Rattle.stream_pack.proofs.Streams.{length-unpacked, unpacked-part}

-- the bytes before the word `base`, which starts a byte, are bytes of the stream
pub skip-in : (q count base n : ℕ) → base ≤ count → count * q ≤ 8 * n → base / 8 * q ≤ n
skip-in q count base n h l =
    let d = base / 8 in
    let b : d * 8 ≤ count = omega arith in
    let m : d * 8 * q ≤ count * q = mul-le-mul_right q b in
    let e : d * 8 * q ≡ 8 * (d * q) = omega arith in
    omega arith

-- and those from there on hold k words
pub part-holds : (q count base k n : ℕ) → base % 8 ≡ 0 → base + k ≤ count → count * q ≤ 8 * n
    → k * q ≤ 8 * (n - base / 8 * q)
part-holds q count base k n z h l =
    let d = base / 8 in
    let b : d * 8 + k ≤ count = omega arith in
    let m : (d * 8 + k) * q ≤ count * q = mul-le-mul_right q b in
    let e : (d * 8 + k) * q ≡ 8 * (d * q) + k * q = omega arith in
    omega arith

-- 1,055 words, or all that are left, are those of 1,024 blocks
pub part-reach : (count base k i end a : ℕ) → base ≡ i - 16 → k ≡ min (count - base) 1055 → i ≤ end → end ≤ i + 1024
    → end + a ≤ count → a ≤ 15 → end + a ≤ base + k
part-reach count base k i end a b e h l w s =
    let m : end + a - base ≤ min (count - base) 1055 = le-min (omega arith) (omega arith) in omega arith

module _ (c : Code) (q count base k i end : ℕ) (xs M P rest : List ℕ) (b : base ≡ i - 16) (z : i % 8 ≡ 0)
    (s : c.window.memory ≤ 15) (h : base + k ≤ count) (w : i ≤ end) (r : end + c.window.lookahead ≤ base + k)
    (p : P ≡ drop (base / 8 * q) xs) (e : M ≡ unpacked q k P ++ rest) where
  -- the words of the part are k of those of the stream
  held : take k M ≡ take k (drop base (unpacked q count xs))
  held =
      let U = drop base (unpacked q count xs) in
      let l : length (take k U) ≡ k =
      length-take-le k U (rw (length-drop base (unpacked q count xs), length-unpacked q count xs) (omega arith)) in
      ap (take k) (e ∙ ap (λ y. unpacked q k y ++ rest) p
      ∙ ap (λ y. y ++ rest) (unpacked-part q base k count xs (omega arith) h))
      ∙ take_at (take k U) rest k l

  -- the part begins with the first word of all, or before the window of each of its blocks
  before : (x : ℕ) → (base ≡ 0) ⊎ (base + c.window.memory ≤ i + x)
  before x = elim (dec_le 16 i) [ yes y ↦ inr (omega arith) | no n ↦ inl (omega arith) ]

  part-blocks : map (block c M) (from (i - base) (end - i))
      ≡ map (block c (unpacked q count xs)) (from i (end - i))
  part-blocks =
      map-from-same (block c M) (block c (unpacked q count xs)) (i - base) i (end - i)
      (λ x l. let y : i + x - base ≡ i - base + x = omega arith in
      sym (block-part c (unpacked q count xs) M base k (i + x) (omega arith) held (before x) (omega arith)
      ∙ ap (block c M) y))

  -- the output with the part's blocks in it
  pub part-read : (out ys : List ℕ) → i ≤ length out
      → ys ≡ map (block c M) (from (i - base) (end - i)) ++ drop (end - i) (take (length out - i) (drop i out))
      → take i out ++ (ys ++ drop (length out - i) (drop i out))
      ≡ (take i out ++ map (block c (unpacked q count xs)) (from i (end - i))) ++ drop end out
  part-read out ys l f =
      let B = map (block c (unpacked q count xs)) (from i (end - i)) in
      let m : i + (end - i) ≡ end = omega arith in
      let g : ys ≡ B ++ drop end out =
      f ∙ ap₂ (λ x y. x ++ drop (end - i) y) part-blocks (take_rest i out)
      ∙ ap (λ y. B ++ y) (drop-drop (end - i) i out ∙ ap (λ n. drop n out) m) in
      let none : drop (length out - i) (drop i out) ≡ [] =
      drop_of_length-le (drop i out) {i = length out - i} (rw (length-drop i out) (omega arith)) in
      ap₂ (λ x y. take i out ++ (x ++ y)) g none ∙ ap (λ x. take i out ++ x) (append-nil (B ++ drop end out))
      ∙ sym (append_assoc (take i out) B (drop end out))

-- where a part ends
pub part_end : (i blocks end : ℕ) → i < blocks → end ≡ min (i + 1024) blocks
    → (i ≤ end) × (end ≤ i + 1024) × (end ≤ blocks)
part_end i blocks end h e =
    let m : i ≤ min (i + 1024) blocks = le-min (omega arith) (omega arith) in
    (omega arith, omega (arith, min-le_left (i + 1024) blocks), omega (arith, min-le_right (i + 1024) blocks))

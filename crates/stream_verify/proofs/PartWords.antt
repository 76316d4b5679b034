-- The words of a part of a stream, unpacked, hold its words and the windows of its blocks.
-- In order: part_held.
-- Assumes nothing.
use Rattle.std.proofs.Common.{◌≡◌, ◌⊎◌, ◌++◌, ◌+◌, ◌-◌, ◌*◌, ◌/◌, ◌%◌, ◌≤◌, ◌<◌}
use Rattle.laws.proofs.All.{sym, ap, ◌∙◌, inl, inr, List, ℕ, min}
use Rattle.laws.proofs.All.{le-min, min-le_left, arith, dec_le, length, get_or, take, drop, length-drop, length-append}
use Rattle.laws.proofs.All.{length-take-le, take_at, get_or-take, get_or-drop}
use Rattle.table.specs.Rows.{Code}
use Rattle.codec.proofs.Local.{block-part}
use Rattle.stream_pack.specs.Streams.{unpacked}
use Rattle.stream_pack.proofs.Streams.{length-unpacked, unpacked-part}
use Rattle.stream_verify.specs.declared.part.Part.{Part}
use Rattle.stream_verify.specs.Parts.{Held}

module _ (c : Code) (q k : ℕ) (part : Part) (xs M P rest : List ℕ) (b : part.base ≡ part.from - 16)
    (z : part.from % 8 ≡ 0) (s : c.window.memory ≤ 15) (v : c.window.lookahead ≤ 15)
    (kk : k ≡ min (part.count - part.base) 1055) (w : part.from ≤ part.end)
    (f : part.end ≤ part.from + 1024) (r : part.end ≤ part.count) (p : P ≡ drop (part.base / 8 * q) xs)
    (e : M ≡ unpacked q k P ++ rest) where
  abbrev base : ℕ
  base = part.base

  abbrev count : ℕ
  count = part.count

  abbrev i : ℕ
  i = part.from

  abbrev end : ℕ
  end = part.end

  abbrev U : List ℕ
  U = unpacked q count xs

  long : length U ≡ count
  long = length-unpacked q count xs

  inside : base + k ≤ count
  inside = omega (arith, min-le_left (count - base) 1055)

  -- a place of the part, or of the words ahead of it, is among the words unpacked
  among : (x : ℕ) → x ≤ end + 15 → x ≤ count → x ≤ base + k
  among x h l = let m : x - base ≤ min (count - base) 1055 = le-min (omega arith) (omega arith) in omega arith

  room : k ≤ length M
  room = omega (arith, ap length e, length-append (unpacked q k P) rest, length-unpacked q k P)

  held : take k M ≡ take k (drop base U)
  held =
      let l : length (take k (drop base U)) ≡ k =
      length-take-le k (drop base U) (omega (arith, length-drop base U, long, inside)) in
      ap (take k) (e ∙ ap (λ y. unpacked q k y ++ rest) p
      ∙ ap (λ y. y ++ rest) (unpacked-part q base k count xs (omega arith) inside))
      ∙ take_at (take k (drop base U)) rest k l

  before : (x : ℕ) → i ≤ x → (base ≡ 0) ⊎ (base + c.window.memory ≤ x)
  before x h = elim (dec_le 16 i) [ yes y ↦ inr (omega arith) | no n ↦ inl (omega arith) ]

  word_at : (j : ℕ) → i ≤ j → j < end → get_or M (j - base) 0 ≡ get_or U j 0
  word_at j h l =
      let a : j + 1 ≤ base + k = among (j + 1) (omega arith) (omega arith) in
      let y : base + (j - base) ≡ j = omega arith in
      sym (get_or-take k M (j - base) 0 (omega arith)) ∙ ap (λ W. get_or W (j - base) 0) held
      ∙ get_or-take k (drop base U) (j - base) 0 (omega arith) ∙ get_or-drop base U (j - base) 0
      ∙ ap (λ n. get_or U n 0) y

  ahead : (j : ℕ) → i ≤ j → j < end → j + c.window.lookahead < length U → j + c.window.lookahead < base + k
  ahead j h l t =
      let x : j + c.window.lookahead + 1 ≤ base + k =
      among (j + c.window.lookahead + 1) (omega arith) (omega (arith, long)) in omega arith

  pub part_held : Held c U M part
  part_held = record {
    long = long;
    before = omega arith;
    room = λ j h l. let a : j + 1 ≤ base + k = among (j + 1) (omega arith) (omega arith) in omega (arith, room);
    words = word_at;
    reach = λ j h l t. omega (arith, room, ahead j h l t);
    blocks = λ j h l t. sym (block-part c U M base k j (ahead j h l t) held (before j h) (omega arith));
  }

-- The part's words are unpacked, and counted from them.
use Rattle.std.proofs.Common.{◌≡◌, ◌+◌, ◌-◌, ◌*◌, ◌/◌, ◌≤◌, ◌++◌}
use Rattle.laws.proofs.All.{ap, List, ℕ, min-le_left, min-le_right, arith, length}
use Rattle.laws.proofs.All.{drop, length-drop, take_rest}
use Rattle.stream_pack.specs.Streams.{unpacked}
use Rattle.stream_decode.proofs.Parts.{skip-in, part-holds}
use Rattle.codec_groups.specs.Lent.{lent_edges}
use Rattle.stream_verify.specs.Parts.{read_by, Held}
use Rattle.stream_verify.proofs.PartWords.{part_held}
use Rattle.stream_verify.proofs.parts.count_part.Goals.{After-smaller, Start}
use Rattle.stream_verify.proofs.parts.count_part.Goals as goal

in_words : (s : Start) → s.args.part.base ≤ s.args.part.count
in_words s = omega (arith, s.requires.11, s.requires.7, s.requires.9)

skip : (s : Start) → s.args.part.base / 8 * s.args.k.q ≤ length (s.args.stream.now)
skip s = skip-in s.args.k.q s.args.part.count s.args.part.base (length (s.args.stream.now)) (in_words s) s.requires.2

pub overflow_mul-skip : goal.overflow_mul-skip
overflow_mul-skip c = omega (arith, skip (goal.at.overflow_mul-skip c).Start)

pub slice_bounds-get_words-count : goal.slice_bounds-get_words-count
slice_bounds-get_words-count c = skip (goal.at.slice_bounds-get_words-count c).Start

pub slice_bounds-get_words-start : goal.slice_bounds-get_words-start
slice_bounds-get_words-start c = skip (goal.at.slice_bounds-get_words-start c).Start

pub overflow_sub-part : goal.overflow_sub-part
overflow_sub-part c = in_words (goal.at.overflow_sub-part c).Start

-- the part's words are words of the stream
words-in : (c : After-smaller) → c.args.part.base + c.smaller.result ≤ c.args.part.count
words-in c =
    omega (
      arith,
      c.smaller.ensures.answer,
      c.requires.11,
      c.requires.7,
      c.requires.9,
      min-le_left (c.args.part.count - c.args.part.base) 1055,
    )

pub get_words-requires : goal.get_words-requires
get_words-requires c =
    let q = c.args.k.q in
    let part = c.args.part in
    let few : c.smaller.result ≤ 1055 =
    omega (arith, c.smaller.ensures.answer, min-le_right (part.count - part.base) 1055) in (
      c.requires.0,
      omega (arith, words-in (goal.at.get_words-requires c).After-smaller, c.requires.1),
      omega (
        arith,
        ap length (take_rest (part.base / 8 * q) (c.args.stream.now)),
        length-drop (part.base / 8 * q) (c.args.stream.now),
        part-holds q part.count part.base c.smaller.result (length (c.args.stream.now))
            (omega (arith, c.requires.6, c.requires.11)) (words-in (goal.at.get_words-requires c).After-smaller)
            c.requires.2,
      ),
      few,
    )

-- the words unpacked hold those of the part
held : (c : After-smaller) → (M P rest : List ℕ)
    → P ≡ drop (c.args.part.base / 8 * c.args.k.q) (c.args.stream.now)
    → M ≡ unpacked c.args.k.q c.smaller.result P ++ rest
    → Held (read_by (lent_edges c.args.grouped.now) c.args.k)
    (unpacked c.args.k.q c.args.part.count (c.args.stream.now)) M c.args.part
held c M P rest p e =
    part_held (read_by (lent_edges c.args.grouped.now) c.args.k) c.args.k.q c.smaller.result
    c.args.part (c.args.stream.now) M P rest c.requires.11 c.requires.6 c.requires.3 c.requires.4
    c.smaller.ensures.answer c.requires.7
    c.requires.8 c.requires.9 p e

pub count_in-requires : goal.count_in-requires
count_in-requires c = (
  (
    unpacked c.args.k.q c.args.part.count (c.args.stream.now),
    held (goal.at.count_in-requires c).After-smaller _ _ _
        (take_rest (c.args.part.base / 8 * c.args.k.q) (c.args.stream.now)) c.get_words.ensures.written,
  ),
  c.requires.5,
  c.requires.7,
  c.requires.9,
  c.requires.10,
)

pub returns : goal.returns
returns c =
    record {
      answer = c.count_in.ensures.answer (unpacked c.args.k.q c.args.part.count (c.args.stream.now))
          (held (goal.at.returns c).After-smaller _ _ _
          (take_rest (c.args.part.base / 8 * c.args.k.q) (c.args.stream.now)) c.get_words.ensures.written);
    }

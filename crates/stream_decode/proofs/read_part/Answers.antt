-- `stream_decode::read_part` meets its contract: the part's words are unpacked, and its blocks are read from them.
use Rattle.std.proofs.Common.{◌≡◌, ◌+◌, ◌-◌, ◌*◌, ◌/◌, ◌≤◌}
use Rattle.laws.proofs.All.{ap, min-le_left, min-le_right, arith, length}
use Rattle.laws.proofs.All.{length-drop, length-take-le, take, drop, take_rest}
use Rattle.table.specs.Edges.{rows_of}
use Rattle.codec_groups.specs.Lent.{lent_edges}
use Rattle.codec_steps.specs.BlockParts.{under}
use Rattle.stream_decode.proofs.Parts.{skip-in, part-holds, part-reach, part-read}
use Rattle.stream_decode.proofs.read_part.Goals.{After-saturating_sub-base, After-smaller}
use Rattle.stream_decode.proofs.read_part.Goals as goal

skip : (c : After-saturating_sub-base) → let a = c.args in
    c.saturating_sub-base.result / 8 * a.grouped.now.edges.q ≤ length a.stream.now
skip c =
    let a = c.args in
    skip-in a.grouped.now.edges.q a.count c.saturating_sub-base.result (length a.stream.now) (omega (arith, c.saturating_sub-base.ensures))
    c.requires.1

pub overflow_mul-skip : goal.overflow_mul-skip
overflow_mul-skip c = omega (arith, skip c)

pub slice_bounds-get_words-start : goal.slice_bounds-get_words-start
slice_bounds-get_words-start c = skip c

-- the part's words are words of the stream
words-in : (c : After-smaller) → c.saturating_sub-base.result + c.smaller.result ≤ c.args.count
words-in c =
    omega (
      arith,
      c.saturating_sub-base.ensures,
      c.smaller.ensures.answer,
      min-le_left
          (c.args.count - c.saturating_sub-base.result) 1055,
    )

pub get_words-requires : goal.get_words-requires
get_words-requires c =
    let a = c.args in
    let xs = a.stream.now in
    let base = c.saturating_sub-base.result in
    let b : base ≡ a.i - 16 = c.saturating_sub-base.ensures in
    let few : c.smaller.result ≤ 1055 =
    omega (arith, c.smaller.ensures.answer, min-le_right (a.count - base) 1055) in (
      c.args.grouped.now.edges.narrow,
      omega arith,
      omega (
        arith,
        ap length (take_rest (base / 8 * a.grouped.now.edges.q) xs),
        length-drop (base / 8 * a.grouped.now.edges.q) xs,
        part-holds a.grouped.now.edges.q a.count base c.smaller.result (length xs) (omega arith)
            (words-in (goal.at.get_words-requires c).After-smaller) c.requires.1,
      ),
      few,
    )

pub read_blocks-requires : goal.read_blocks-requires
read_blocks-requires c =
    let a = c.args in
    let b : c.saturating_sub-base.result ≡ a.i - 16 = c.saturating_sub-base.ensures in (
      omega (arith, c.words-2-1.given),
      omega (arith, ap length (take_rest a.i a.out.now), length-drop a.i a.out.now),
    )

pub returns : goal.returns
returns c =
    let a = c.args in
    let xs = a.stream.now in
    let base = c.saturating_sub-base.result in
    let b : base ≡ a.i - 16 = c.saturating_sub-base.ensures in
    record {
      written = part-read (under (rows_of (lent_edges a.grouped.now)) a.m a.a) a.grouped.now.edges.q
          a.count base c.smaller.result a.i a.end xs _ _ _ b c.requires.4 c.requires.2
          (words-in (goal.at.returns c).After-smaller) c.requires.5
          (part-reach a.count base c.smaller.result a.i a.end a.a b c.smaller.ensures.answer c.requires.5
          c.requires.6 c.requires.7 c.requires.3)
          (take_rest (base / 8 * a.grouped.now.edges.q) xs) c.get_words.ensures.written a.out.now _ (omega arith)
          c.read_blocks.ensures.written;
    }

pub slice_bounds-get_words-count : goal.slice_bounds-get_words-count
slice_bounds-get_words-count c = skip c

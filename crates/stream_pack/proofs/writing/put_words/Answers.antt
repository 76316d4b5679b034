use Rattle.std.proofs.Common.{◌+◌}
use Rattle.laws.proofs.All.{ap, ◌∙◌, add-one, arith, length, take, get_or, take-suc}
use Rattle.laws.proofs.All.{length-take-le, below_at}
use Rattle.bits.specs.Fields.{uniform}
use Rattle.stream_pack.proofs.Waiting.{waits-word, waits-room}
use Rattle.stream_pack.proofs.writing.put_words.Goals as goal

pub put_word-waiting-requires : goal.put_word-waiting-requires
put_word-waiting-requires c =
    let a = c.args in
    let l = c.loop-word in
    let i = l.word-index in (
      c.requires.0,
      below_at _ a.words.now i c.requires.2 (omega arith),
      omega (
        arith,
        waits-room a.q (take i a.words.now) a.out.now l.out l.waiting 1 (length a.words.now) l.invariant
            (omega (arith, length-take-le i a.words.now (omega arith))) c.requires.3,
      ),
    )

pub loop-word-preserved : goal.loop-word-preserved
loop-word-preserved c =
    let a = c.args in
    let l = c.loop-word in
    let i = l.word-index in
    let ws = a.words.now in
    waits-word a.q (take i ws) a.out.now _ c.put_word-waiting.result (get_or ws i 0) (take (i + 1) ws)
    (ap (λ n. take n ws) (add-one i) ∙ take-suc ws i 0 (omega arith))
    (c.put_word-waiting.ensures.written (uniform a.q (take i ws)) a.out.now l.invariant)

pub put_fill-requires : goal.put_fill-requires
put_fill-requires c =
    let a = c.args in
    let l = c.loop-word in
    let i = l.word-index in
    omega (
      arith,
      waits-room a.q (take i a.words.now) a.out.now l.out l.waiting 0 (length a.words.now) l.invariant
          (omega (arith, length-take-le i a.words.now (omega arith))) c.requires.3,
    )

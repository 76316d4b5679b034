-- `check_words` meets its contract: each return follows the check that it comes from, 12 before 13 before 11.
use Rattle.std.proofs.Common.{◌^◌}
use Rattle.laws.proofs.All.{sym, ap, ◌∙◌, arith}
use Rattle.answer.specs.FirstBad.{all_below}
use Rattle.codec_steps.specs.Reading.{decode}
use Rattle.codec.proofs.Tabled.{decode-12, decode-13, decode-last}
use Rattle.codec_decode.proofs.check_words.Goals as goal

pub returns-then-words-a : goal.returns-then-words-a
returns-then-words-a c = record { answer = λ k e f. decode-12 k _ _ (omega (arith, f, c.if-words-a.true)) }

pub returns-then-room-count : goal.returns-then-room-count
returns-then-room-count c = record {
  answer = λ k e f. decode-13 k _ _ (omega (arith, f, c.if-words-a.false))
      (omega (arith, f, c.if-room-count.true));
}

pub returns : goal.returns
returns c =
    let ws = c.args.words.now in
    record {
      answer = λ k e f.
          decode-last k _ _ (omega (arith, f, c.if-words-a.false)) (omega (arith, f, c.if-room-count.false))
          ∙ ap (λ n. all_below n ws (decode k ws)) (ap (λ q. 2 ^ q) e ∙ sym c.power.ensures.answer)
          ∙ sym (c.check_below.ensures.answer (decode k ws));
    }

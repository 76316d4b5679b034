-- The words of the number, and for 11 the place after them.
use Rattle.text.proofs.Adding.{added-same, added_more}
use Rattle.view_refusals.proofs.Phrases.{with-place, alone}
use Rattle.view_refusals.proofs.write_phrase.Goals as goal

pub returns-then-number-eq11-clause-written : goal.returns-then-number-eq11-clause-written
returns-then-number-eq11-clause-written c =
    let n = c.number-number in
    added-same
    (with-place c.args.r n.result n.ensures.answer c.place.result c.if-number-eq11.true
    c.place.ensures.answer)
    (added_more c.write_words.ensures.written c.decimal.ensures.written)

pub returns-else-number-eq11-clause-written : goal.returns-else-number-eq11-clause-written
returns-else-number-eq11-clause-written c =
    let n = c.number-number in
    added-same (alone c.args.r n.result n.ensures.answer c.if-number-eq11.false) c.write_words.ensures.written

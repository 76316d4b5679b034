-- Nothing for a bad record, the line of a good one.
use Rattle.laws.proofs.All.{length}
use Rattle.record_check.specs.Parse.{parse}
use Rattle.text.proofs.Adding.{added-same}
use Rattle.set_lines.proofs.SetText.{line-good}
use Rattle.set_lines.proofs.write_record_at.Goals as goal

pub returns-in-Ok-clause-written : goal.returns-in-Ok-clause-written
returns-in-Ok-clause-written c =
    let a = c.args in
    added-same (line-good a.i a.start (length a.bytes.now) _ (parse a.bytes.now) c.in-Ok.ensures.answer)
    c.write_sentence.ensures.written

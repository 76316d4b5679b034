-- The line of the number, and nothing for a number that is no refusal.
use Rattle.laws.proofs.All.{◌∙◌}
use Rattle.text.proofs.Adding.{added-same}
use Rattle.view_refusals.proofs.Rows.{row, line-is, no_words}
use Rattle.view_refusals.proofs.write_words.Goals as goal

pub returns-then-number-gt17-clause-written : goal.returns-then-number-gt17-clause-written
returns-then-number-gt17-clause-written c = added-same (no_words _ c.if-number-gt17.true) c.put.ensures.written

pub returns-clause-written : goal.returns-clause-written
unfolding row
returns-clause-written c =
    added-same (c.line.ensures.answer ∙ line-is _ c.if-number-gt17.false) c.put-2.ensures.written

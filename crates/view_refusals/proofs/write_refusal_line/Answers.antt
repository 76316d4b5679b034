-- A newline is put after the number and the condition.
use Rattle.text.proofs.Adding.{added_more}
use Rattle.view_refusals.specs.Phrases.{refusal_line}
use Rattle.view_refusals.proofs.write_refusal_line.Goals as goal

pub returns-clause-written : goal.returns-clause-written
unfolding refusal_line
returns-clause-written c = added_more c.write_refusal.ensures.written c.put.ensures.written

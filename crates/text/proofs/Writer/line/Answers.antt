-- Name, number and newline are put in a row.
use Rattle.text.proofs.Adding.{added_more}
use Rattle.text.proofs.Writer.line.Goals as goal

pub returns-clause-written : goal.returns-clause-written
returns-clause-written c = added_more c.number.ensures.written c.put.ensures.written

-- Name and number are put in a row.
use Rattle.text.proofs.Adding.{added_more}
use Rattle.text.proofs.Writer.number.Goals as goal

pub returns-clause-written : goal.returns-clause-written
returns-clause-written c = added_more c.put.ensures.written c.decimal.ensures.written

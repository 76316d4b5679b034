-- The list, and after it the end of the line.
use Rattle.text.proofs.Adding.{added_more}
use Rattle.trace_stages.specs.StageText.{weights_line}
use Rattle.trace_stages.proofs.write_weights.Goals as goal

pub returns-clause-written : goal.returns-clause-written
unfolding weights_line
returns-clause-written c = search added_more

-- The word, and after it the target.
use Rattle.text.proofs.Adding.{added_more}
use Rattle.trace_splits.specs.SplitText.{edge_text}
use Rattle.trace_splits.proofs.write_edge.Goals as goal

pub returns-clause-written : goal.returns-clause-written
unfolding edge_text
returns-clause-written c = search added_more

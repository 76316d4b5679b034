-- The list, and after it the start, which is its first state, and the weight.
use Rattle.trace_stages.proofs.Listed.{component-told}
use Rattle.trace_stages.proofs.write_component.Goals as goal

pub returns-clause-written : goal.returns-clause-written
returns-clause-written c =
    component-told _ _ _ c.requires.1 c.write_list.ensures.written c.write_sentence.ensures.written

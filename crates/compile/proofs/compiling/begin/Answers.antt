-- `begin` meets its contract: the component of the job, by its number of ways.
use Rattle.compile.proofs.compiling.begin.Goals as goal

pub ways-requires : goal.ways-requires
ways-requires c = c.requires.allowed.p₂

pub component_of-requires : goal.component_of-requires
component_of-requires c = (c.requires, c.ways.ensures.answer.0)

pub returns : goal.returns
returns c = record { answer = c.component_of.ensures.answer }

-- The bytes of the power table.
use Rattle.laws.proofs.All.{ap, ◌∙◌, map}
use Rattle.constraint.specs.PowerTable.{code_of}
use Rattle.constraint.proofs.Constraint.power_codes.Goals as goal

pub returns : goal.returns
returns c = record { answer = c.codes.ensures.answer ∙ ap (map code_of) c.power_table.ensures.answer }

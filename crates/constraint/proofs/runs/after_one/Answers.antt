-- Each arm is one side of the definition's test.
use Rattle.laws.proofs.All.{le-leb, lt-leb}
use Rattle.constraint.proofs.runs.after_one.Goals as goal

pub returns-then-d-i : goal.returns-then-d-i
returns-then-d-i c = record { answer = simp (le-leb _ _ c.if-d-i.true) }

pub returns-else-d-i : goal.returns-else-d-i
returns-else-d-i c = record { answer = simp (lt-leb _ _ c.if-d-i.false) }

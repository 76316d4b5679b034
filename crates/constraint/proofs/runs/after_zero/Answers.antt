-- Each arm is one side of the definition's test.
use Rattle.laws.proofs.All.{lt-ltb, le-ltb}
use Rattle.constraint.proofs.runs.after_zero.Goals as goal

pub returns-then-i-k : goal.returns-then-i-k
returns-then-i-k c = record { answer = simp (lt-ltb _ _ c.if-i-k.true) }

pub returns-else-i-k : goal.returns-else-i-k
returns-else-i-k c = record { answer = simp (le-ltb _ _ c.if-i-k.false) }

-- Each arm is one side of the definition's test.
use Rattle.laws.proofs.All.{eq-eqb, ne_eqb}
use Rattle.constraint.proofs.power.next_of.Goals as goal

pub returns-then-s-eq255 : goal.returns-then-s-eq255
returns-then-s-eq255 c = record { answer = simp (eq-eqb _ _ c.if-s-eq255.true) }

pub returns-else-s-eq255 : goal.returns-else-s-eq255
returns-else-s-eq255 c = record { answer = simp (ne_eqb _ _ c.if-s-eq255.false) }

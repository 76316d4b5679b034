-- The bits not yet walked, those below i, lead from the state reached to where the whole word leads from s.
use Rattle.std.proofs.Common.{◌≡◌}
use Rattle.constraint.specs.Walking.{walk}
use Rattle.constraint.specs.Value.{constraint_of}
use Rattle.constraint.proofs.Constraint.walk.Given as goal

abbrev pub invariant-loop-i : goal.invariant-loop-i
invariant-loop-i l = walk (constraint_of l.self) l.q l.w l.s ≡ walk (constraint_of l.self) l.i l.w l.at

-- Where the rows are the same, nothing is copied.
use Rattle.std.proofs.Common.{true, false, refl}
use Rattle.bitsets.proofs.Sets.{same-sets}
use Rattle.window_pairs.proofs.SetLaws.{copied}
use Rattle.window_pairs.proofs.sets.replace.Goals as goal

pub returns-then-eq-clause-answer : goal.returns-then-eq-clause-answer
returns-then-eq-clause-answer c = same-sets _ _ true c.if-eq.ensures

pub returns-then-eq-clause-written : goal.returns-then-eq-clause-written
returns-then-eq-clause-written c =
    (c.requires.1, copied c.args.states c.args.out.now c.args.set.now ((same-sets _ _ true c.if-eq.ensures).0 refl))

pub returns-clause-answer : goal.returns-clause-answer
returns-clause-answer c = same-sets _ _ false c.if-eq.ensures

pub returns-clause-written : goal.returns-clause-written
returns-clause-written c =
    (c.copy.ensures.written.0, copied c.args.states _ c.args.set.now c.copy.ensures.written.1)

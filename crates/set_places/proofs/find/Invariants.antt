-- `find` meets its contract: the loop goes from the offset of one record to that of the next.
use Rattle.std.proofs.Common.{◌≡◌}
use Rattle.set_places.specs.Offsets.{offset_of}
use Rattle.set_places.proofs.find.Given as goal

abbrev pub invariant-loop-passed : goal.invariant-loop-passed
invariant-loop-passed l = (l.reader.set.now ≡ l.set) × (l.reader.at ≡ offset_of l.set l.passed)

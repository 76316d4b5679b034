-- The choice is the rule's, and its parts are put in a row.
use Rattle.std.proofs.Common.{◌≡◌, ◌+◌, ◌-◌}
use Rattle.laws.proofs.All.{arith}
use Rattle.text.proofs.Adding.{◌then◌}
use Rattle.trace_splits.specs.SplitText.{part_line}
use Rattle.trace_splits.proofs.Chosen.{chosen-line}
use Rattle.trace_splits.proofs.write_split.Goals as goal

pub returns-clause-written : goal.returns-clause-written
unfolding part_line
returns-clause-written c =
    let r = c.next_choice-c.result.run in
    let z : r.from + r.count - r.from ≡ r.count = omega arith in
    let kept = rw (c.as_slice.ensures.answer, z) at c.write_kept.ensures.written in
    chosen-line _ c.next_choice-c.ensures.answer (kept then c.write_sentence.ensures.written)

-- `read_joined` meets its contract: a refusal of the front ends the call, otherwise both constraints after it decide.
use Rattle.std.proofs.Common.{◌≡◌, ◌+◌, ◌*◌, ◌≤◌}
use Rattle.laws.proofs.All.{sym, ap, ◌∙◌, arith, leb, eqb, length, drop}
use borrow.Author.Rules.{part_to_end}
use Rattle.answer.specs.Outcomes.{done}
use Rattle.answer.proofs.Outcomes.{handed_on}
use Rattle.constraint.specs.Value.{constraint_of}
use Rattle.compile_job.specs.Jobs.{constraint_from, read_joined}
use Rattle.compile_job.proofs.Fronts.{front-bad, front_long}
use Rattle.compile_job.proofs.Joining.{first-within, first-on, second-on}
use Rattle.compile_job.proofs.Jobs.{read_joined-allowed}
use Rattle.compile_job.proofs.JobSteps.{ready-kept}
use Rattle.compile_job.proofs.reading.read_joined.Goals.{In_ok-c}
use Rattle.compile_job.proofs.reading.read_joined.Goals as goal

-- the first constraint is that after the front
first : (c : In_ok-c) → done (constraint_of c.in_ok-c.c) ≡ constraint_from leb (drop 3 c.args.bytes.now)
first c = c.in_ok-c.ensures.answer ∙ ap (constraint_from leb) (part_to_end c.args.bytes.now 3)

-- and ends within the bytes
within : (c : In_ok-c) → let k = c.in_ok-c.c in (k.states ≤ 16) × (4 + 2 * k.states ≤ length c.args.bytes.now)
within c =
    let xs = c.args.bytes.now in
    first-within xs (front_long xs c.in_ok-front_verdict.ensures.answer) c.in_ok-c.c (first c)

pub returns-in_err-front_verdict-clause-answer : goal.returns-in_err-front_verdict-clause-answer
unfolding read_joined
returns-in_err-front_verdict-clause-answer c =
    rw (handed_on _ _ c.from_residual.ensures.1)
    (sym (front-bad c.args.bytes.now _ _ c.in_err-front_verdict.ensures.answer))

pub returns-in_err-c-clause-answer : goal.returns-in_err-c-clause-answer
returns-in_err-c-clause-answer c =
    let xs = c.args.bytes.now in
    rw (handed_on _ _ c.from_residual-in_err-c.ensures.1)
    (first-on xs c.in_ok-front_verdict.ensures.answer _
    (c.in_err-c.ensures.answer ∙ ap (constraint_from leb) (part_to_end xs 3)))

pub overflow_mul-start : goal.overflow_mul-start
overflow_mul-start c = omega (arith, (within (goal.at.overflow_mul-start c).In_ok-c).0)

pub overflow_add-start : goal.overflow_add-start
overflow_add-start c = omega (arith, (within (goal.at.overflow_add-start c).In_ok-c).0)

pub slice_bounds-read_constraint-count-2 : goal.slice_bounds-read_constraint-count-2
slice_bounds-read_constraint-count-2 c = omega (arith, (within (goal.at.slice_bounds-read_constraint-count-2 c).In_ok-c).1)

pub slice_bounds-read_constraint-start-2 : goal.slice_bounds-read_constraint-start-2
slice_bounds-read_constraint-start-2 c = omega (arith, (within (goal.at.slice_bounds-read_constraint-start-2 c).In_ok-c).1)

pub returns-in_err-d-clause-answer : goal.returns-in_err-d-clause-answer
returns-in_err-d-clause-answer c =
    let xs = c.args.bytes.now in
    rw (handed_on _ _ c.from_residual-in_err-d.ensures.1)
    (second-on xs c.in_ok-front_verdict.ensures.answer c.in_ok-c.c
    (first (goal.at.returns-in_err-d-clause-answer c).In_ok-c) _
    (c.in_err-d.ensures.answer ∙ ap (constraint_from eqb) (part_to_end xs (4 + 2 * c.in_ok-c.c.states))))

pub returns : goal.returns
returns c =
    let xs = c.args.bytes.now in
    let w = ready-kept c.join_job.result (read_joined xs)
    (c.join_job.ensures.answer
    ∙ second-on xs c.in_ok-front_verdict.ensures.answer c.in_ok-c.c (first (goal.at.returns c).In_ok-c) _
    (c.in_ok-d.ensures.answer ∙ ap (constraint_from eqb) (part_to_end xs (4 + 2 * c.in_ok-c.c.states))))
    (read_joined-allowed xs) in
    record { answer = w.0; kept = w.1 }

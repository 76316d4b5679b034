-- `hold_job` meets its contract: a refusal of the front ends the call, otherwise the constraint after it decides.
use Rattle.std.proofs.Common.{◌≡◌, ◌+◌, ◌*◌, ◌≤◌}
use Rattle.laws.proofs.All.{sym, ap, ◌∙◌, List, ℕ, arith, length, get_or, drop}
use borrow.Author.Rules.{part_to_end}
use Rattle.answer.specs.Outcomes.{Outcome, done, onward}
use Rattle.answer.proofs.Outcomes.{handed_on}
use Rattle.constraint.specs.Walking.{Constraint}
use Rattle.constraint.specs.Value.{constraint_of}
use Rattle.constraint.proofs.Values.{length-constraint_of}
use Rattle.compile_job.specs.Jobs.{bringing, constraint_from, fronted, held_job, held_with, job_bringing}
use Rattle.compile_job.specs.JobValues.{job_in, Sized, spare}
use Rattle.compile_job.proofs.Jobs.{held_job-from, held-sized, held_job-held}
use Rattle.compile_job.proofs.Fronts.{front-bad, front-good, front_long}
use Rattle.compile_job.proofs.holding.hold_job.Goals.{In_ok-c}
use Rattle.compile_job.proofs.holding.hold_job.Goals as goal

-- what the constraint after the front comes to decides
after_front : (xs : List ℕ) → done xs ≡ fronted xs (done xs) → (o : Outcome Constraint)
    → o ≡ constraint_from spare (drop 3 xs) → onward o (λ c. done (job_bringing xs c)) ≡ held_job xs
after_front xs e o p =
    ap (λ o. onward o (λ c. done (job_bringing xs c))) p ∙ sym (held_job-from xs ∙ front-good xs _ e)

-- the bytes fit the constraint
fits : (c : In_ok-c) → let k = c.in_ok-c.c in let n = length c.args.bytes.now in
    (k.states ≤ 16) × Sized (4 + 2 * k.states) k.states n
fits c =
    let xs = c.args.bytes.now in
    held-sized xs (front_long xs c.in_ok-front_verdict.ensures.answer) c.in_ok-c.c
    (c.in_ok-c.ensures.answer ∙ ap (constraint_from spare) (part_to_end xs 3))

pub returns-in_err-front_verdict-clause-answer : goal.returns-in_err-front_verdict-clause-answer
returns-in_err-front_verdict-clause-answer c =
    let xs = c.args.bytes.now in
    rw (handed_on _ _ c.from_residual.ensures.1)
    (sym (held_job-from xs ∙ front-bad xs _ _ c.in_err-front_verdict.ensures.answer))

pub returns-in_err-c-clause-answer : goal.returns-in_err-c-clause-answer
returns-in_err-c-clause-answer c =
    let xs = c.args.bytes.now in
    rw (handed_on _ _ c.from_residual-in_err-c.ensures.1)
    (after_front xs c.in_ok-front_verdict.ensures.answer _
    (c.in_err-c.ensures.answer ∙ ap (constraint_from spare) (part_to_end xs 3)))

pub overflow_mul-size : goal.overflow_mul-size
overflow_mul-size c = omega (arith, (fits (goal.at.overflow_mul-size c).In_ok-c).0)

pub overflow_add-size : goal.overflow_add-size
overflow_add-size c = omega (arith, (fits (goal.at.overflow_add-size c).In_ok-c).0)

pub bring-requires : goal.bring-requires
bring-requires c = ((fits (goal.at.bring-requires c).In_ok-c).0, omega (arith, (fits (goal.at.bring-requires c).In_ok-c).0), (fits (goal.at.bring-requires c).In_ok-c).1)

pub returns : goal.returns
returns c =
    let xs = c.args.bytes.now in
    let k = c.in_ok-c.c in
    let e = ap done (c.bring.ensures.answer
    ∙ ap (λ n. held_with (get_or xs 0 0) (get_or xs 1 0) (get_or xs 2 0) (constraint_of k) (bringing (4 + 2 * n) xs))
    (sym (length-constraint_of k)))
    ∙ after_front xs c.in_ok-front_verdict.ensures.answer _
    (c.in_ok-c.ensures.answer ∙ ap (constraint_from spare) (part_to_end xs 3)) in
    record { answer = e; kept = held_job-held xs (job_in c.bring.result) (sym e) }

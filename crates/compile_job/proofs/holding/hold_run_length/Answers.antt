-- `hold_run_length` meets its contract: each return follows the checks before it, in the documents' order.
use Rattle.std.proofs.Common.{◌≡◌, ◌&&◌, ◌||◌, ◌+◌, ◌≤◌}
use Rattle.laws.proofs.All.{sym, ap, subst, ◌∙◌, true, arith, le-leb, lt-leb, T}
use Rattle.laws.proofs.All.{or→, inl, inr, eqb→eq, not-true, not-false, leb, eqb, length, get_or}
use Rattle.constraint.specs.Value.{constraint_of}
use Rattle.constraint.proofs.Values.{length-constraint_of}
use Rattle.constraint.proofs.Walking.{length-run_length}
use Rattle.compile_job.specs.Jobs.{good_parameters}
use Rattle.compile_job.specs.JobValues.{job_in, Sized}
use Rattle.compile_job.proofs.Jobs.{held_run_length-held}
use Rattle.compile_job.proofs.JobSteps.{in-range, run-length-size, run-length-parameters, run-length-range}
use Rattle.compile_job.proofs.JobSteps.{run-length-count, run-length-good}
use Rattle.laws.proofs.All.{not}
use Rattle.compile_job.proofs.holding.hold_run_length.Goals.{Else-bytes-lt5, Else-not-between, Else-not-good_parameters}
use Rattle.compile_job.proofs.holding.hold_run_length.Goals.{Else-not-is_counted}
use Rattle.compile_job.proofs.holding.hold_run_length.Goals as goal

five : (c : Else-bytes-lt5) → leb 5 (length c.args.bytes.now) ≡ true
five c = let h : 5 ≤ length c.args.bytes.now = omega (arith, c.if-bytes-lt5.false) in le-leb 5 _ h

good : (c : Else-not-good_parameters) → good_parameters (get_or c.args.bytes.now 2 0)
    (get_or c.args.bytes.now 3 0) (get_or c.args.bytes.now 4 0) ≡ true
good c = sym c.good_parameters.ensures.answer ∙ not-false c.good_parameters.result
    (ap not c.if-not-good_parameters.false)

ranged : (c : Else-not-between) → (leb (get_or c.args.bytes.now 0 0) (get_or c.args.bytes.now 1 0)
    && leb (get_or c.args.bytes.now 1 0) 15) ≡ true
ranged c = sym c.between.ensures.answer ∙ not-false c.between.result (ap not c.if-not-between.false)

small : (c : Else-not-between) → get_or c.args.bytes.now 1 0 ≤ 15
small c = (in-range _ _ 15 (ranged c)).1

-- the length fits
counted : (c : Else-not-is_counted) → let xs = c.args.bytes.now in
    (eqb (length xs) 5 || eqb (length xs) (5 + (get_or xs 1 0 + 1))) ≡ true
counted c = sym c.is_counted.ensures.answer ∙ not-false c.is_counted.result (ap not c.if-not-is_counted.false)

pub returns-then-bytes-lt5-clause-answer : goal.returns-then-bytes-lt5-clause-answer
returns-then-bytes-lt5-clause-answer c =
    sym (run-length-size c.args.bytes.now (lt-leb 5 _ c.if-bytes-lt5.true))

pub returns-then-not-good_parameters-clause-answer : goal.returns-then-not-good_parameters-clause-answer
returns-then-not-good_parameters-clause-answer c =
    sym (run-length-parameters c.args.bytes.now
    (five (goal.at.returns-then-not-good_parameters-clause-answer c).Else-bytes-lt5)
    (sym c.good_parameters.ensures.answer ∙ not-true c.good_parameters.result (ap not c.if-not-good_parameters.true)))

pub returns-then-not-between-clause-answer : goal.returns-then-not-between-clause-answer
returns-then-not-between-clause-answer c =
    let at = goal.at.returns-then-not-between-clause-answer c in
    sym (run-length-range c.args.bytes.now (five at.Else-bytes-lt5) (good at.Else-not-good_parameters)
    (sym c.between.ensures.answer ∙ not-true c.between.result (ap not c.if-not-between.true)))

pub returns-then-not-is_counted-clause-answer : goal.returns-then-not-is_counted-clause-answer
returns-then-not-is_counted-clause-answer c =
    let at = goal.at.returns-then-not-is_counted-clause-answer c in
    sym (run-length-count c.args.bytes.now (five at.Else-bytes-lt5) (good at.Else-not-good_parameters)
    (ranged at.Else-not-between)
    (sym c.is_counted.ensures.answer ∙ not-true c.is_counted.result (ap not c.if-not-is_counted.true)))

pub bring-requires : goal.bring-requires
bring-requires c =
    let xs = c.args.bytes.now in
    let l = length-constraint_of c.run_length.result in
    let q : length (constraint_of c.run_length.result) ≡ get_or xs 1 0 + 1 =
    ap length c.run_length.ensures.answer ∙ length-run_length (get_or xs 0 0) (get_or xs 1 0) in
    let e : get_or xs 1 0 + 1 ≡ c.run_length.result.states = sym q ∙ l in (
      omega (arith, small (goal.at.bring-requires c).Else-not-between),
      omega arith,
      subst (λ k. Sized 5 k (length xs)) e
          (elim (or→ (eqb (length xs) 5) (eqb (length xs) (5 + (get_or xs 1 0 + 1)))
          (subst T (sym (counted (goal.at.bring-requires c).Else-not-is_counted)) tt)) [
            | inl u ↦ inl (eqb→eq (length xs) 5 u)
            | inr u ↦ inr (eqb→eq (length xs) (5 + (get_or xs 1 0 + 1)) u)
          ]),
    )

pub returns : goal.returns
returns c =
    let e = run-length-good c.args.bytes.now (five (goal.at.returns c).Else-bytes-lt5)
    (good (goal.at.returns c).Else-not-good_parameters) (ranged (goal.at.returns c).Else-not-between)
    (counted (goal.at.returns c).Else-not-is_counted)
    c.bring.result c.run_length.result c.run_length.ensures.answer c.bring.ensures.answer in
    record { answer = sym e; kept = held_run_length-held c.args.bytes.now (job_in c.bring.result) e }

pub overflow_cast-p : goal.overflow_cast-p
overflow_cast-p c = omega (arith, c.type_inv.bytes 2)

pub overflow_cast-q : goal.overflow_cast-q
overflow_cast-q c = omega (arith, c.type_inv.bytes 3)

pub overflow_cast-cap : goal.overflow_cast-cap
overflow_cast-cap c = omega (arith, c.type_inv.bytes 4)

pub overflow_cast-d : goal.overflow_cast-d
overflow_cast-d c = omega (arith, c.type_inv.bytes 0)

pub overflow_cast-k : goal.overflow_cast-k
overflow_cast-k c = omega (arith, c.type_inv.bytes 1)

pub overflow_add-k : goal.overflow_add-k
overflow_add-k c = omega (arith, small c)

pub is_counted-requires : goal.is_counted-requires
is_counted-requires c = (omega arith, omega (arith, small c))

pub run_length-requires : goal.run_length-requires
run_length-requires c = small (goal.at.run_length-requires c).Else-not-between

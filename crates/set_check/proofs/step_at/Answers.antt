-- `step_at` meets its contract: 8 for a record that is cut off, otherwise the checker's answer on its bytes.
use Rattle.std.proofs.Common.{◌+◌, ◌≤◌}
use Rattle.laws.proofs.All.{sym, ◌∙◌, arith, length}
use Rattle.answer.proofs.Outcomes.{handed_on}
use Rattle.set_places.proofs.Offsets.{place→, nowhere→}
use Rattle.set_check.proofs.Walks.{step_cut, step-stop, step-on}
use Rattle.set_check.proofs.step_at.Goals.{In-Some}
use Rattle.set_check.proofs.step_at.Goals as goal

-- the record that was found lies within the set
within : (c : In-Some) → c.in-Some.place.start + c.in-Some.place.len ≤ length c.args.set.now
within c =
    let a = c.args in
    let (p, q, h) = place→ a.set.now a.at _ _ (sym c.place_at.ensures.answer ∙ c.in-Some.is) in
    omega arith

pub overflow_add-end : goal.overflow_add-end
overflow_add-end c = omega (arith, within (goal.at.overflow_add-end c).In-Some)

pub slice_bounds-check-end : goal.slice_bounds-check-end
slice_bounds-check-end c = within (goal.at.slice_bounds-check-end c).In-Some

pub returns-in-None : goal.returns-in-None
returns-in-None c =
    let a = c.args in
    let e = sym c.place_at.ensures.answer ∙ c.in-None.is in
    record { answer = sym (step_cut a.set.now a.at (nowhere→ a.set.now a.at e)) }

pub returns-in_err-check-in-Some : goal.returns-in_err-check-in-Some
returns-in_err-check-in-Some c =
    let a = c.args in
    rw (handed_on _ _ c.from_residual.ensures.1)
    (record {
      answer = step-stop a.set.now a.at _ _ _ (sym c.place_at.ensures.answer ∙ c.in-Some.is)
          (sym c.in_err-check-in-Some.ensures.answer);
    })

pub returns-in_ok-check-in-Some : goal.returns-in_ok-check-in-Some
returns-in_ok-check-in-Some c =
    let a = c.args in
    record {
      answer = step-on a.set.now a.at _ _ _ (sym c.place_at.ensures.answer ∙ c.in-Some.is)
          (sym c.in_ok-check-in-Some.ensures.answer);
    }

-- `read_constraint` meets its contract: each return follows the checks before it, in the documents' order.
use Rattle.std.proofs.Common.{Ok, Err, ◌≡◌, ◌&&◌, ◌+◌, ◌*◌, ◌≤◌}
use Rattle.laws.proofs.All.{sym, ◌∙◌, true, arith, not-true, not-false}
use Rattle.laws.proofs.All.{le-leb, lt-leb, leb, length, get_or}
use Rattle.answer.specs.declared.Refusal.TheVariants.{Length, States}
use Rattle.compile_job.specs.JobValues.{sized}
use Rattle.compile_job.proofs.JobSteps.{in-range, sized-fits, missing-count, bad-count, bad-size, bad-states}
use Rattle.compile_job.proofs.JobSteps.{good-constraint, lawful-kept}
use Rattle.laws.proofs.All.{ap, not}
use Rattle.compile_job.proofs.rules.read_constraint.Goals.{Else-bytes-lt1, Else-not-between, Else-not-is_sized}
use Rattle.compile_job.proofs.rules.read_constraint.Goals as goal

found : (c : Else-bytes-lt1) → leb 1 (length c.args.bytes.now) ≡ true
found c = let h : 1 ≤ length c.args.bytes.now = omega (arith, c.if-bytes-lt1.false) in le-leb 1 _ h

counted : (c : Else-not-between) → (leb 1 (get_or c.args.bytes.now 0 0) && leb (get_or c.args.bytes.now 0 0)
    16) ≡ true
counted c = sym c.between.ensures.answer ∙ not-false c.between.result (ap not c.if-not-between.false)

count : (c : Else-not-between) → get_or c.args.bytes.now 0 0 ≤ 16
count c = (in-range 1 (get_or c.args.bytes.now 0 0) 16 (counted c)).1

fitted : (c : Else-not-is_sized) → let ys = c.args.bytes.now in
    (let a = c.args in sized a.whole a.weights) (1 + 2 * get_or ys 0 0) (length ys) ≡ true
fitted c = sym c.is_sized.ensures.answer ∙ not-false c.is_sized.result (ap not c.if-not-is_sized.false)

room : (c : Else-not-is_sized) → let ys = c.args.bytes.now in 1 + get_or ys 0 0 * 2 ≤ length ys
room c =
    let ys = c.args.bytes.now in
    let a = c.args in
    omega (arith, sized-fits a.whole a.weights (1 + 2 * get_or ys 0 0) (length ys) (fitted c))

pub returns-then-bytes-lt1 : goal.returns-then-bytes-lt1
returns-then-bytes-lt1 c =
    let a = c.args in
    let ys = a.bytes.now in
    let w = lawful-kept (sized a.whole a.weights) ys (Err Length)
    (sym (missing-count (sized a.whole a.weights) ys (lt-leb 1 _ c.if-bytes-lt1.true))) in
    record { answer = w.0; kept = w.1 }

pub overflow_cast-count : goal.overflow_cast-count
overflow_cast-count c = omega (arith, c.type_inv.bytes 0)

pub returns-then-not-between : goal.returns-then-not-between
returns-then-not-between c =
    let f = sized c.args.whole c.args.weights in
    let w = lawful-kept f c.args.bytes.now (Err States)
    (sym (bad-count f c.args.bytes.now (found (goal.at.returns-then-not-between c).Else-bytes-lt1)
    (sym c.between.ensures.answer ∙ not-true c.between.result (ap not c.if-not-between.true)))) in
    record { answer = w.0; kept = w.1 }

pub returns-then-not-is_sized : goal.returns-then-not-is_sized
returns-then-not-is_sized c =
    let w = lawful-kept (let a = c.args in sized a.whole a.weights) c.args.bytes.now
    (Err Length)
    (sym (bad-size (let a = c.args in sized a.whole a.weights) c.args.bytes.now
    (found (goal.at.returns-then-not-is_sized c).Else-bytes-lt1)
    (counted (goal.at.returns-then-not-is_sized c).Else-not-between)
    (sym c.is_sized.ensures.answer ∙ not-true c.is_sized.result (ap not c.if-not-is_sized.true)))) in
    record { answer = w.0; kept = w.1 }

pub returns-then-not-good_states : goal.returns-then-not-good_states
returns-then-not-good_states c =
    let w = lawful-kept (let a = c.args in sized a.whole a.weights) c.args.bytes.now
    (Err States)
    (sym (bad-states (let a = c.args in sized a.whole a.weights) c.args.bytes.now
    (found (goal.at.returns-then-not-good_states c).Else-bytes-lt1)
    (counted (goal.at.returns-then-not-good_states c).Else-not-between)
    (fitted (goal.at.returns-then-not-good_states c).Else-not-is_sized)
    (sym c.good_states.ensures.answer ∙ not-true c.good_states.result (ap not c.if-not-good_states.true)))) in
    record { answer = w.0; kept = w.1 }

pub returns : goal.returns
returns c =
    let w = lawful-kept (let a = c.args in sized a.whole a.weights) c.args.bytes.now
    (Ok c.states_of.result)
    (sym (good-constraint (let a = c.args in sized a.whole a.weights) c.args.bytes.now
    (found (goal.at.returns c).Else-bytes-lt1) (counted (goal.at.returns c).Else-not-between)
    (fitted (goal.at.returns c).Else-not-is_sized)
    (sym c.good_states.ensures.answer ∙ not-false c.good_states.result (ap not c.if-not-good_states.false))
    c.states_of.result
    c.states_of.ensures.answer)) in
    record { answer = w.0; kept = w.1 }

pub overflow_mul-count : goal.overflow_mul-count
overflow_mul-count c = omega (arith, count c)

pub overflow_add-count : goal.overflow_add-count
overflow_add-count c = omega (arith, count c)

pub is_sized-requires : goal.is_sized-requires
is_sized-requires c = omega (arith, count c)

pub good_states-requires : goal.good_states-requires
good_states-requires c = (count (goal.at.good_states-requires c).Else-not-between, room c)

pub states_of-requires : goal.states_of-requires
states_of-requires c = (
  count (goal.at.states_of-requires c).Else-not-between,
  room
      (goal.at.states_of-requires c).Else-not-is_sized,
)

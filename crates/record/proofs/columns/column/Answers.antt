use Rattle.std.proofs.Common.{◌≡◌, ◌*◌, ◌≤◌, ◌<◌}
use Rattle.laws.proofs.All.{subst, ℕ, arith, length, length-replicate}
use Rattle.bits.specs.Fields.{bits_of}
use Rattle.record.proofs.Fills.{reach-spot, reach_step, reach-end, column-more}
use Rattle.record.specs.Places.{spot, Column}
use Rattle.record.proofs.columns.column.Goals.{In-loop-e}
use Rattle.record.proofs.columns.column.Goals as goal

pub loop-e-init : goal.loop-e-init
loop-e-init c = record { whole = length-replicate {A = ℕ} 2048 0; filled = λ k h. absurd (omega arith) }

-- the edge's place in the array
within : (c : In-loop-e) → spot c.args.n c.loop-e.e < 2048
within c =
    let a = c.args in
    reach-spot (8 * length a.bytes.now) a.n a.edges a.first a.step a.width c.loop-e.e
    c.requires c.loop-e-test.true

-- its field's place is small
small : (c : In-loop-e) → c.loop-e.e * c.args.step ≤ 30720
small c =
    let a = c.args in
    reach_step (8 * length a.bytes.now) a.n a.edges a.first a.step a.width c.loop-e.e
    c.requires c.loop-e-test.true

pub overflow_add-first : goal.overflow_add-first
overflow_add-first c = record { fits = omega (arith, small c, c.requires.first) }

pub get-requires : goal.get-requires
get-requires c =
    let a = c.args in (
      c.requires.width,
      reach-end (8 * length a.bytes.now) a.n a.edges a.first a.step a.width c.loop-e.e
          c.requires c.loop-e-test.true,
    )

pub loop-e-preserved : goal.loop-e-preserved
loop-e-preserved c =
    let a = c.args in
    column-more (8 * length a.bytes.now) a.n a.edges a.first a.step a.width c.loop-e.e
    c.requires c.loop-e-test.true (bits_of a.bytes.now) c.loop-e.a c.get.result
    c.get.ensures.answer c.loop-e.invariant

pub returns : goal.returns
returns c =
    let a = c.args in
    let e : c.loop-e.e ≡ a.edges = omega arith in
    record {
      answer = subst (λ k. Column (bits_of a.bytes.now) a.n k a.first a.step a.width c.loop-e.a) e
          c.loop-e.invariant;
    }

pub overflow_mul-e : goal.overflow_mul-e
overflow_mul-e c = record { fits = omega (arith, small c) }

pub nonzero_div-a : goal.nonzero_div-a
nonzero_div-a c = c.requires.some

pub overflow_mul-a : goal.overflow_mul-a
overflow_mul-a c = record { fits = omega (arith, within (goal.at.overflow_mul-a c).In-loop-e) }

pub nonzero_rem-a : goal.nonzero_rem-a
nonzero_rem-a c = c.requires.some

pub overflow_add-a : goal.overflow_add-a
overflow_add-a c = record { fits = omega (arith, within (goal.at.overflow_add-a c).In-loop-e) }

pub bounds-a-e : goal.bounds-a-e
bounds-a-e c = within (goal.at.bounds-a-e c).In-loop-e

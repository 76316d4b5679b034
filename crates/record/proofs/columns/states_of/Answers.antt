use Rattle.std.proofs.Common.{◌+◌, ◌*◌}
use Rattle.laws.proofs.All.{ap₂, refl, arith, length-set}
use Rattle.laws.proofs.All.{map-range-same}
use Rattle.bits.specs.Fields.{bits_of}
use Rattle.record.specs.Layout.{header_bits, state_size}
use Rattle.record.specs.Places.{next_in}
use Rattle.record.proofs.Fills.{fill_more}
use Rattle.record.proofs.columns.states_of.Goals as goal

pub loop-s-init : goal.loop-s-init
loop-s-init c = (refl, refl, λ k h. absurd (omega arith), λ k h. absurd (omega arith))

pub loop-s-preserved : goal.loop-s-preserved
loop-s-preserved c =
    let bs = bits_of c.args.bytes.now in
    let s = c.loop-s.s in (
      simp length-set c.loop-s.invariant.0,
      simp length-set c.loop-s.invariant.1,
      fill_more (λ k. k) (λ k. next_in bs (header_bits + k * state_size)) c.loop-s.zero s
          c.next_of.result (λ k h q. q)
          (omega arith) c.next_of.ensures.answer c.loop-s.invariant.2,
      fill_more (λ k. k) (λ k. next_in bs (header_bits + 5 + k * state_size)) c.loop-s.one s
          c.next_of-in-loop-s.result (λ k h q. q)
          (omega arith) c.next_of-in-loop-s.ensures.answer c.loop-s.invariant.3,
    )

pub returns : goal.returns
returns c =
    let a = c.args in
    record {
      answer = map-range-same _ _ a.count
          (λ k h. ap₂ (λ x y. record { zero = x; one = y }) (c.loop-s.invariant.2 k (omega arith))
          (c.loop-s.invariant.3 k (omega arith)));
      kept = refl;
    }

pub next_of-requires : goal.next_of-requires
next_of-requires c = (omega arith, omega arith)

pub next_of-requires-in-loop-s : goal.next_of-requires-in-loop-s
next_of-requires-in-loop-s c = (omega arith, omega arith)

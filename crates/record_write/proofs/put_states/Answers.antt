use Rattle.std.proofs.Common.{◌≡◌}
use Rattle.laws.proofs.All.{refl, ap, ◌∙◌, map, arith, range}
use Rattle.bits.specs.Bytes.{spliced}
use Rattle.bits.specs.Fields.{bits_of}
use Rattle.bits.proofs.Puts.{length-bits_of}
use Rattle.constraint.specs.Value.{next_states_at}
use Rattle.record.specs.Layout.{header_bits}
use Rattle.record.specs.Parts.{states_bits}
use Rattle.record.proofs.RecordRuns.{states-begin, states-next}
use Rattle.record_write.proofs.put_states.Goals as goal

pub loop-s-init : goal.loop-s-init
loop-s-init c =
    let a = c.args in
    (refl, states-begin a.constraint (bits_of a.out.now) header_bits)

pub loop-s-preserved : goal.loop-s-preserved
loop-s-preserved c =
    let o = c.args.out.now in (
      c.put_next-in-loop-s.ensures.kept ∙ c.put_next.ensures.kept ∙ c.loop-s.invariant.0,
      states-next c.args.constraint c.loop-s.s (bits_of o) (bits_of c.loop-s.out) _ _
          (omega (arith, length-bits_of o))
          (omega (arith, length-bits_of o, length-bits_of c.loop-s.out, c.loop-s.invariant.0))
          c.loop-s.invariant.1 c.put_next.ensures.written c.put_next-in-loop-s.ensures.written,
    )

pub returns : goal.returns
returns c =
    let a = c.args in
    let e : c.loop-s.s ≡ a.constraint.states = omega arith in
    record {
      written = c.loop-s.invariant.1
          ∙ ap (λ k. spliced header_bits (states_bits (map (next_states_at a.constraint) (range k)))
          (bits_of a.out.now)) e;
      kept = c.loop-s.invariant.0;
    }

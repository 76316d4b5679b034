-- The three checks, one after the other.
use Rattle.laws.proofs.All.{arith, length, sym, ◌∙◌}
use Rattle.bits.specs.Fields.{bits_of}
use Rattle.record.proofs.Sizes.{edge-count-le, reach-nexts}
use Rattle.record.proofs.RecordChecks.{states-fail, targets-fail, targets-pass}
use Rattle.record_read.proofs.ranges.good_rest.Goals.{then-good_states, else-good_states}
use Rattle.record_read.proofs.ranges.good_rest.Goals as goal

pub overflow_mul-edges : goal.overflow_mul-edges
overflow_mul-edges c =
    record {
      fits = omega (
        arith,
        edge-count-le c.args.f c.power.result c.requires.0
            c.power.ensures.answer,
      );
    }

pub good_targets-requires : goal.good_targets-requires
good_targets-requires c =
    let h = c.args.f in
    let r = reach-nexts h c.power.result (length c.args.bytes.now) c.requires.0 c.power.ensures.answer
    c.requires.1 in
    (edge-count-le h c.power.result c.requires.0 c.power.ensures.answer, r.first, r.apart, r.last)

pub returns-then-good_targets : goal.returns-then-good_targets
returns-then-good_targets c =
    let a = c.args in
    let q = c.if-good_targets.true in
    elim c.if-good_states.branch [
      | then-good_states w ↦ record {
        answer = targets-pass a.f (bits_of a.bytes.now) c.power.result c.good_states.result w.good_targets.result
            c.power.ensures.answer c.good_states.ensures.answer w.good_targets.ensures.answer c.good_fill.result
            w.if-good_states.true (sym w.value-is ∙ q) c.good_fill.ensures.answer;
      }
      | else-good_states w ↦ let f = w.if-good_states.false in let v = w.value-is in (cc)
    ]

pub returns-else-good_targets : goal.returns-else-good_targets
returns-else-good_targets c =
    let a = c.args in
    let q = c.if-good_targets.false in
    elim c.if-good_states.branch [
      | then-good_states w ↦ record {
        answer = q ∙ targets-fail a.f (bits_of a.bytes.now) c.power.result c.good_states.result w.good_targets.result
            c.power.ensures.answer c.good_states.ensures.answer w.good_targets.ensures.answer w.if-good_states.true
            (sym w.value-is ∙ q);
      }
      | else-good_states w ↦ record {
        answer = q ∙ states-fail a.f (bits_of a.bytes.now) c.good_states.result c.good_states.ensures.answer
            w.if-good_states.false;
      }
    ]

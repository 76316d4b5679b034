-- `good_fill` meets its contract: the fill stands after the last field and ends with the last byte.
use Rattle.std.proofs.Common.{◌-◌, ◌*◌}
use Rattle.laws.proofs.All.{ap, ap₂, ◌∙◌, arith, eqb}
use Rattle.bits.specs.Fields.{bits_of, field}
use Rattle.record.proofs.Sizes.{bit_count-le}
use Rattle.record_read.proofs.ranges.good_fill.Goals as goal

pub overflow_mul-bytes : goal.overflow_mul-bytes
overflow_mul-bytes c =
    record { fits = omega (arith, bit_count-le c.args.f c.requires.0, c.requires.1) }

pub returns : goal.returns
returns c =
    let h = c.args.f in
    record {
      answer = ap (λ x. eqb x 0) (c.get.ensures.answer ∙ ap₂ (λ o l. field (bits_of c.args.bytes.now) o (8 * l - o))
          c.bit_count-at.ensures.answer c.requires.1);
    }

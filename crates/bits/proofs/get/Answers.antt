-- `bits::get` meets its contract: the field is shifted and masked out of the byte that holds it, or out of two bytes.
use Rattle.std.proofs.Common.{◌+◌, ◌/◌}
use Rattle.laws.proofs.All.{◌∙◌, arith}
use Rattle.bits.proofs.Gets.{get-one, get-two}
use Rattle.bits.proofs.get.Goals as goal

pub overflow_cast-first : goal.overflow_cast-first
overflow_cast-first c =
    let i = c.args.at / 8 in
    record { fits = omega (arith, c.type_inv.bytes i) }

pub returns-then-end-le8 : goal.returns-then-end-le8
returns-then-end-le8 c =
    let a = c.args in
    record {
      answer = c.low_bits-then-end-le8.ensures.answer
          ∙ get-one a.bytes.now a.at a.width _ c.low_bits.ensures.answer (omega arith)
          (omega arith);
    }

pub overflow_cast-both : goal.overflow_cast-both
overflow_cast-both c =
    let i = c.args.at / 8 in
    record { fits = omega (arith, c.type_inv.bytes (i + 1)) }

pub returns : goal.returns
returns c =
    let a = c.args in
    record {
      answer = c.low_bits-2.ensures.answer
          ∙ get-two a.bytes.now a.at a.width _ c.low_bits.ensures.answer
          (omega arith)
          (c.shared_slice_known-2-1.given (a.at / 8)).fits
          (c.type_inv.bytes (a.at / 8 + 1)).fits (omega arith);
    }

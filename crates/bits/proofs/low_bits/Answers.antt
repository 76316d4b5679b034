-- `bits::low_bits` meets its contract: an and with 2 to the width less one is the remainder.
use Rattle.laws.proofs.All.{arith, pow_pos}
use Rattle.bits.proofs.Bytes.{masked, masked-lt}
use Rattle.bits.proofs.low_bits.Goals as goal

pub overflow_sub-mask : goal.overflow_sub-mask
overflow_sub-mask c = omega (arith, c.power-mask.ensures.answer, pow_pos c.args.width)

pub overflow_cast-result : goal.overflow_cast-result
overflow_cast-result c =
    let a = c.args in
    record { fits = masked-lt a.x a.width _ c.power-mask.ensures.answer c.requires }

pub returns : goal.returns
returns c = record { answer = masked c.args.x c.args.width _ c.power-mask.ensures.answer }

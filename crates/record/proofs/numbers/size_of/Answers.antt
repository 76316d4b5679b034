-- `size_of` meets its contract: the bits, rounded up to bytes.
use Rattle.laws.proofs.All.{arith}
use Rattle.record.proofs.Sizes.{bit_count-le}
use Rattle.record.proofs.numbers.size_of.Goals as goal

pub overflow_add-result : goal.overflow_add-result
overflow_add-result c = record {
  fits = omega
      (arith, c.bit_count.ensures.answer, bit_count-le c.args.f c.requires);
}

-- `meet` meets its contract.
use Rattle.std.proofs.Common.{◌^◌, ◌<◌}
use Rattle.laws.proofs.All.{sym, ap, ◌∙◌, arith}
use lib.Bits.{and_block}
use Rattle.bitsets.specs.BitSets.{bit_at, value_of}
use Rattle.bitsets.proofs.Digits.{and-bit}
use Rattle.bitsets.proofs.BitSet.meet.Goals as goal

pub returns : goal.returns
returns c =
    record {
      answer = λ j.
          let a = c.args.self in
          let b = c.args.other in
          let p : a.low < 2 ^ 64 = omega arith in
          let q : b.low < 2 ^ 64 = omega arith in
          ap (λ x. bit_at x j) (sym (and_block 64 a.high b.high a.low b.low p q))
          ∙ and-bit (value_of a) (value_of b) j;
    }

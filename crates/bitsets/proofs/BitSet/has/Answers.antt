-- `has` meets its contract.
use Rattle.std.proofs.Common.{◌≡◌, ◌+◌, ◌-◌, ◌/◌, ◌^◌, ◌<◌}
use Rattle.laws.proofs.All.{sym, ap, ◌∙◌, arith, and_mask, eqb}
use Rattle.bitsets.specs.BitSets.{bit_at, value_of}
use Rattle.bitsets.proofs.Digits.{bit-low, bit_high}
use Rattle.bitsets.proofs.BitSet.has.Goals as goal

pub returns-then-i-lt64 : goal.returns-then-i-lt64
returns-then-i-lt64 c =
    let s = c.args.self in
    let i = c.args.i in
    record { answer = ap (λ x. eqb x 1) (and_mask (s.low / 2 ^ i) 1) ∙ sym (bit-low s.high s.low i (omega arith)) }

pub returns-else-i-lt64 : goal.returns-else-i-lt64
returns-else-i-lt64 c =
    let s = c.args.self in
    let i = c.args.i in
    let e : 64 + (i - 64) ≡ i = omega arith in
    let l : s.low < 2 ^ 64 = omega arith in
    record {
      answer = ap (λ x. eqb x 1) (and_mask (s.high / 2 ^ (i - 64)) 1) ∙ sym (bit_high s.high s.low (i - 64) l)
          ∙ ap (bit_at (value_of s)) e;
    }

-- `every` meets its contract: the words make the number 2 ^ n - 1.
use Rattle.std.proofs.Common.{◌≡◌, ◌+◌, ◌-◌, ◌*◌, ◌^◌}
use Rattle.laws.proofs.All.{sym, ap, ◌∙◌, zero-add, arith, ltb}
use lib.Pow.{ones_split}
use Rattle.bitsets.specs.BitSets.{bit_at}
use Rattle.bitsets.proofs.Digits.{ones_bit}
use Rattle.bitsets.proofs.BitSet.every.Goals as goal

pub returns-then-n-lt64 : goal.returns-then-n-lt64
returns-then-n-lt64 c =
    record {
      answer = λ i.
          let n = c.args.n in
          ap (λ x. bit_at (0 * 2 ^ 64 + x) i) c.lowest_bits.ensures.answer ∙ ap (λ x. bit_at x i) (zero-add (2 ^ n - 1))
          ∙ ones_bit n i;
    }

pub returns-then-n-lt128 : goal.returns-then-n-lt128
returns-then-n-lt128 c =
    record {
      answer = λ i.
          let n = c.args.n in
          let e : n - 64 + 64 ≡ n = omega arith in
          ap (λ x. bit_at (x * 2 ^ 64 + (2 ^ 64 - 1)) i) c.lowest_bits-then-n-lt128.ensures.answer
          ∙ ap (λ x. bit_at x i) (sym (ones_split (n - 64) 64) ∙ ap (λ k. 2 ^ k - 1) e) ∙ ones_bit n i;
    }

pub returns : goal.returns
returns c =
    record {
      answer = λ i.
          let n = c.args.n in
          let e : 128 ≡ n = omega (arith, c.requires) in
          ones_bit 128 i ∙ ap (ltb i) e;
    }

-- `with` meets its contract: the bit of the state is put into its word.
use Rattle.std.proofs.Common.{◌≡◌, ◌||◌, ◌+◌, ◌-◌, ◌^◌, ◌<◌}
use Rattle.laws.proofs.All.{ap, ◌∙◌, arith, bit_or}
use Rattle.bitsets.specs.BitSets.{bit_at, value_of}
use Rattle.bitsets.proofs.Digits.{or-bit, pow-bit}
use Rattle.bitsets.proofs.Words.{with-low, with-high}
use Rattle.bitsets.proofs.BitSet.with.Goals as goal

pub returns-then-i-lt64 : goal.returns-then-i-lt64
returns-then-i-lt64 c =
    record {
      answer = λ j.
          let s = c.args.self in
          let i = c.args.i in
          let l : s.low < 2 ^ 64 = omega arith in
          ap (λ x. bit_at x j) (with-low s.high s.low i (omega arith) l) ∙ or-bit (value_of s) (2 ^ i) j
          ∙ ap (λ x. bit_at (value_of s) j || x) (pow-bit i j);
    }

pub returns-else-i-lt64 : goal.returns-else-i-lt64
returns-else-i-lt64 c =
    record {
      answer = λ j.
          let s = c.args.self in
          let i = c.args.i in
          let l : s.low < 2 ^ 64 = omega arith in
          let e : 64 + (i - 64) ≡ i = omega arith in
          ap (λ x. bit_at x j) (with-high s.high s.low (i - 64) (omega arith) l
          ∙ ap (λ n. bit_or (value_of s) (2 ^ n)) e)
          ∙ or-bit (value_of s) (2 ^ i) j ∙ ap (λ x. bit_at (value_of s) j || x) (pow-bit i j);
    }

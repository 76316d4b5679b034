-- The word's bits are joined after those that wait; with eight of them or more, the first eight are the next byte.
use Rattle.std.proofs.Common.{◌+◌, ◌-◌}
use Rattle.laws.proofs.All.{refl, arith}
use Rattle.bits.proofs.Bytes.{digits-pow}
use Rattle.stream_pack.proofs.Waiting.{waits-more, waits-full}
use Rattle.stream_pack.proofs.writing.Waiting.put_word.Goals as goal

pub invariant_of-result-clause-small : goal.invariant_of-result-clause-small
invariant_of-result-clause-small c =
    let a = c.args in
    rw c.joined-both.ensures.answer (digits-pow a.self.count a.q a.self.held a.word a.self.small c.requires.1)

pub returns-then-count-lt8 : goal.returns-then-count-lt8
returns-then-count-lt8 c =
    let a = c.args in
    record {
      written = λ B lent w. waits-more B lent a.out.now a.self w a.q a.word c.requires.1 _ refl refl
          c.joined-both.ensures.answer;
    }

pub returns : goal.returns
returns c =
    let a = c.args in
    record {
      written = λ B lent w. waits-full B lent a.out.now a.self w a.q a.word c.requires.1 _ (a.self.count + a.q - 8) _ _
          (omega arith) c.joined-both.ensures.answer c.low_bits.ensures.answer refl refl
          c.low_bits-2.ensures.answer (omega arith);
    }

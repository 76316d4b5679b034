use Rattle.laws.proofs.All.{sym, ◌∙◌, arith, below_more, length}
use Rattle.compile_reach.proofs.ComponentMembers.{lowest-at, lowest-none, some-returns, none-returns}
use Rattle.std.proofs.Common.{◌≡◌, rules}
use Rattle.compile_reach.proofs.reaching.first_returning.Goals as goal

pub loop-s-init : goal.loop-s-init
loop-s-init c = λ j h. absurd (omega arith)

pub is_returning-requires : goal.is_returning-requires
is_returning-requires c = (c.requires.0, c.requires.1, c.loop-s-test.true)

pub returns-then-is_returning : goal.returns-then-is_returning
returns-then-is_returning c =
    let p = c.args in
    let a : length p.v ≡ 16 = search rules in
    let e = sym c.is_returning.ensures.answer ∙ c.if-is_returning.true in
    record {
      told = sym (some-returns p.m.now p.v p.k c.requires.1 a c.loop-s.s c.loop-s-test.true e);
      answer = lowest-at p.m.now p.v p.k c.requires.1 a c.loop-s.s c.loop-s-test.true c.loop-s.invariant e;
      there = c.loop-s-test.true;
    }

pub loop-s-preserved : goal.loop-s-preserved
loop-s-preserved c =
    below_more _ _ c.loop-s.invariant (sym c.is_returning.ensures.answer ∙ c.if-is_returning.false)

pub returns-clause-answer : goal.returns-clause-answer
returns-clause-answer c =
    let p = c.args in
    let a : length p.v ≡ 16 = search rules in
    lowest-none p.m.now p.v p.k c.requires.1 a (λ j h. c.loop-s.invariant j (omega arith))

pub returns-clause-told : goal.returns-clause-told
returns-clause-told c =
    let p = c.args in
    let a : length p.v ≡ 16 = search rules in
    sym (none-returns p.m.now p.v p.k c.requires.1 a (λ j h. c.loop-s.invariant j (omega arith)))

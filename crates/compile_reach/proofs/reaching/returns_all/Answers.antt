use Rattle.laws.proofs.All.{sym, ◌∙◌, arith, below_more, length}
use Rattle.compile_reach.proofs.ReturnTests.{fails-yes, fails-no}
use Rattle.std.proofs.Common.{◌≡◌, rules}
use Rattle.compile_reach.proofs.reaching.returns_all.Goals as goal

pub returns-then-no_return : goal.returns-then-no_return
returns-then-no_return c =
    let p = c.args in
    let a : length p.v ≡ 16 = search rules in
    record {
      answer = sym (fails-no p.m.now p.v p.k c.requires.1 a p.s
          c.loop-t.t
          c.requires.2
          c.loop-t-test.true
          (sym c.no_return.ensures.answer ∙ c.if-no_return.true));
    }

pub loop-t-preserved : goal.loop-t-preserved
loop-t-preserved c = below_more _ _ c.loop-t.invariant (sym c.no_return.ensures.answer ∙ c.if-no_return.false)

pub returns : goal.returns
returns c =
    let p = c.args in
    let a : length p.v ≡ 16 = search rules in
    record {
      answer = sym (fails-yes p.m.now p.v p.k c.requires.1 a p.s c.requires.2
          (λ t h. c.loop-t.invariant t (omega arith)));
    }

pub loop-t-init : goal.loop-t-init
loop-t-init c = λ j h. absurd (omega arith)

use Rattle.laws.proofs.All.{subst, arith}
use Rattle.std.proofs.Common.{◌≡◌}
use Rattle.weaving.proofs.Spread.{Lists, lists-more, lists-all}
use Rattle.weaving.proofs.put_lists.Goals as goal

pub loop-r-preserved : goal.loop-r-preserved
loop-r-preserved c =
    let a = c.args in
    lists-more a.a a.b c.loop-r.r a.words.now a.out.now c.loop-r.out _ (omega arith) c.loop-r.invariant
    c.put_list.ensures.written

pub returns : goal.returns
returns c =
    let l = c.loop-r in
    let a = c.args in
    let e : l.r ≡ a.a = omega arith in
    record {
      written = lists-all a.a a.b a.words.now a.out.now l.out c.requires.1
          (subst (λ n. Lists a.a a.b n a.words.now a.out.now l.out) e l.invariant);
    }

use Rattle.std.proofs.Common.{◌≡◌}
use Rattle.laws.proofs.All.{sym, ap, ◌∙◌, not, arith}
use Rattle.table.specs.Marks.{some}
use Rattle.table.proofs.Marks.{none-start, none_more, some-stop}
use Rattle.window_pairs.specs.PairSets.{row_has}
use Rattle.window_pairs.proofs.SetLaws.{row-meets}
use Rattle.window_pairs.proofs.sets.is_empty.Goals.{After-meets}
use Rattle.window_pairs.proofs.sets.is_empty.Goals as goal

-- what the test of a row says
row : (c : After-meets) → c.meets.result ≡ row_has c.args.states c.args.pairs.now c.loop-x.x
row c =
    c.meets.ensures.answer
    ∙ row-meets c.args.states c.args.pairs.now c.loop-x.x c.every-all.result c.requires c.every-all.ensures.answer

pub returns-then-meets : goal.returns-then-meets
returns-then-meets c =
    let a = c.args in
    record {
      answer = sym (ap not (some-stop (row_has a.states a.pairs.now) a.states c.loop-x.x
          c.loop-x-test.true (sym (row (goal.at.returns-then-meets c).After-meets) ∙ c.if-meets.true)));
    }

pub loop-x-preserved : goal.loop-x-preserved
loop-x-preserved c =
    let a = c.args in
    none_more (row_has a.states a.pairs.now) c.loop-x.x c.loop-x.invariant
    (sym (row (goal.at.loop-x-preserved c).After-meets) ∙ c.if-meets.false)

pub returns : goal.returns
returns c =
    let l = c.loop-x in
    let a = c.args in
    let k : l.x ≡ a.states = omega arith in
    record { answer = sym (ap not (sym (ap (some (row_has a.states a.pairs.now)) k) ∙ l.invariant)) }

pub loop-x-init : goal.loop-x-init
loop-x-init c = none-start _

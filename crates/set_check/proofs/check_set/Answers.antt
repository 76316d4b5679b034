use Rattle.laws.proofs.All.{sym, ◌∙◌, arith}
use Rattle.set_check.proofs.Walks.{set-empty, walking_start, walking-stop, walking_on}
use Rattle.set_check.proofs.Walks.{walking-left, walking-end}
use Rattle.set_check.proofs.check_set.Goals as goal

pub returns-then-set-eq0 : goal.returns-then-set-eq0
returns-then-set-eq0 c = record { answer = set-empty c.args.set.now c.if-set-eq0.true }

pub loop-number-init : goal.loop-number-init
loop-number-init c = walking_start c.args.set.now (omega arith)

pub returns-in-Err : goal.returns-in-Err
returns-in-Err c =
    let s = c.args.set.now in
    let l = c.loop-number in
    record {
      answer = walking-stop s _ l.number l.at _ (omega arith) l.invariant (sym c.step_at.ensures.answer ∙ c.in-Err.is);
    }

pub loop-number-preserved : goal.loop-number-preserved
loop-number-preserved c =
    let s = c.args.set.now in
    let l = c.loop-number in
    (walking_on s _ l.number l.at _ (omega arith) l.invariant (sym c.step_at.ensures.answer ∙ c.in-Ok.is)).1

pub returns-then-at-set : goal.returns-then-at-set
returns-then-at-set c =
    let s = c.args.set.now in
    let l = c.loop-number in
    record {
      answer = walking-left s _ l.number l.at (omega arith) (omega arith) l.invariant c.if-at-set.true;
    }

pub returns : goal.returns
returns c =
    let s = c.args.set.now in
    let l = c.loop-number in
    record {
      answer = walking-end s _ l.number l.at (omega arith) (omega arith) l.invariant c.if-at-set.false;
    }

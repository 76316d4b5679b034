use Rattle.laws.proofs.All.{arith}
use Rattle.compile_choice.proofs.RunSearch.{summed-more, stretch-small, run-found, run_none}
use Rattle.compile_choice.proofs.find_run.run_to.Goals as goal

pub overflow_add-total : goal.overflow_add-total
overflow_add-total c =
    let p = c.args in
    let l = c.loop-i in
    omega (
      arith,
      stretch-small p.n p.weight.now p.j l.i l.total (omega arith) (omega arith) c.requires.3 l.invariant,
    )

pub returns-then-total-n-eq0 : goal.returns-then-total-n-eq0
returns-then-total-n-eq0 c =
    let p = c.args in
    let l = c.loop-i in
    record {
      answer = run-found p.n p.weight.now p.j l.i l.total (omega arith) (omega arith) c.requires.3 l.invariant
          c.if-total-n-eq0.true;
    }

pub loop-i-preserved : goal.loop-i-preserved
loop-i-preserved c =
    let p = c.args in
    let l = c.loop-i in
    summed-more p.n p.weight.now p.j l.i l.total (omega arith) (omega arith) c.requires.3 l.invariant
    c.if-total-n-eq0.false

pub returns : goal.returns
returns c =
    let p = c.args in
    let l = c.loop-i in
    record { answer = run_none p.n p.weight.now p.j l.i l.total (omega arith) l.invariant }

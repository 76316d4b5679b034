use Rattle.laws.proofs.All.{refl, arith}
use Rattle.view_refusals.proofs.TextLines.{end-here, end_on, end_none}
use Rattle.view_refusals.proofs.lines.line_end.Goals as goal

pub returns-then-text-i-eq10 : goal.returns-then-text-i-eq10
returns-then-text-i-eq10 c =
    let l = c.loop-i in
    let a = c.args in
    let e = end-here a.text.now l.i (omega arith) c.if-text-i-eq10.true in
    record { answer = (omega (arith, e, l.invariant), omega arith) }

pub loop-i-preserved : goal.loop-i-preserved
loop-i-preserved c =
    let l = c.loop-i in
    let a = c.args in
    let e = end_on a.text.now l.i (omega arith) c.if-text-i-eq10.false in
    omega (arith, e, l.invariant)

pub returns : goal.returns
returns c =
    let l = c.loop-i in
    let a = c.args in
    let e = end_none a.text.now l.i (omega arith) in
    record { answer = (omega (arith, e, l.invariant), omega arith) }

pub loop-i-init : goal.loop-i-init
loop-i-init c = refl

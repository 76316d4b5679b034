use Rattle.laws.proofs.All.{arith, length}
use Rattle.constraint.proofs.Values.{fill_none, fill_more}
use Rattle.constraint.proofs.PowerTable.{filled-codes}
use Rattle.std.proofs.Common.{◌≡◌, rules}
use Rattle.constraint.proofs.power.codes.Goals as goal

pub loop-i-init : goal.loop-i-init
loop-i-init c = fill_none _ 0 4096

pub loop-i-preserved : goal.loop-i-preserved
loop-i-preserved c =
    let l = c.loop-i in fill_more _ 0 4096 l.i l.out _ (omega arith) c.unwrap_or.ensures l.invariant

pub returns : goal.returns
returns c =
    let a = c.args in
    let l = c.loop-i in
    let n : length a.table.now ≡ 4096 = search rules in
    let e : l.i ≡ 4096 = omega arith in
    record { answer = filled-codes 4096 a.table.now l.out n (rw e at l.invariant) }

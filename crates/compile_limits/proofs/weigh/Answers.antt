-- `weigh` meets its contract: each return follows the checks before it.
use Rattle.laws.proofs.All.{sym, arith}
use Rattle.compile_limits.proofs.Weighed.{weighed-none, weighed-heavy, weighed-crowded, weighed-whole}
use Rattle.compile_limits.proofs.weigh.Goals as goal

pub returns-then-total-eq0 : goal.returns-then-total-eq0
returns-then-total-eq0 c =
    let a = c.args in
    record { answer = sym (weighed-none a.total a.crowded c.if-total-eq0.true) }

pub returns-then-total-gt128 : goal.returns-then-total-gt128
returns-then-total-gt128 c =
    let a = c.args in
    record { answer = sym (weighed-heavy a.total a.crowded (omega arith) c.if-total-gt128.true) }

pub returns-then-crowded : goal.returns-then-crowded
returns-then-crowded c =
    let a = c.args in
    record { answer = sym (weighed-crowded a.total a.crowded (omega arith) c.if-total-gt128.false c.if-crowded.true) }

pub returns : goal.returns
returns c =
    let a = c.args in
    record { answer = sym (weighed-whole a.total a.crowded (omega arith) c.if-total-gt128.false c.if-crowded.false) }

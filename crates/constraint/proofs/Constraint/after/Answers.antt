-- Outside the states there is no next state, beyond the arrays it reads 0, and within them it is what they hold.
use Rattle.laws.proofs.All.{sym, arith, length}
use Rattle.constraint.proofs.Values.{after-outside, after-beyond, after-zero-at, after-one-at}
use Rattle.std.proofs.Common.{◌≡◌, rules}
use Rattle.constraint.proofs.Constraint.after.Goals as goal

pub returns-then-self-i : goal.returns-then-self-i
returns-then-self-i c =
    let a = c.args in
    record { answer = sym (after-outside a.self.now a.s a.b (omega arith)) }

pub returns-then-i-ge16 : goal.returns-then-i-ge16
returns-then-i-ge16 c =
    let a = c.args in
    let z : length a.self.now.zero ≡ 16 = search rules in
    let o : length a.self.now.one ≡ 16 = search rules in
    record { answer = sym (after-beyond a.self.now a.s a.b (omega arith) (omega arith) (omega arith)) }

pub returns-then-b-eq0 : goal.returns-then-b-eq0
returns-then-b-eq0 c =
    let a = c.args in
    record { answer = sym (after-zero-at a.self.now a.s a.b (omega arith) c.if-b-eq0.true) }

pub returns-else-b-eq0 : goal.returns-else-b-eq0
returns-else-b-eq0 c =
    let a = c.args in
    record { answer = sym (after-one-at a.self.now a.s a.b (omega arith) c.if-b-eq0.false) }

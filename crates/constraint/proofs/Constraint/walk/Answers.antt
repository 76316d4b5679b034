use Rattle.std.proofs.Common.{◌≡◌, ◌-◌}
use Rattle.laws.proofs.All.{sym, ap, ◌∙◌, suc, arith}
use Rattle.constraint.specs.Walking.{walk}
use Rattle.constraint.specs.Value.{constraint_of}
use Rattle.constraint.proofs.Constraint.walk.Goals as goal

pub loop-i-preserved : goal.loop-i-preserved
loop-i-preserved c =
    let d = constraint_of c.args.self.now in
    let w = c.args.w in
    let l = c.loop-i in
    let e : l.i ≡ suc (l.i - 1) = omega arith in
    l.invariant ∙ ap (λ n. walk d n w l.at) e ∙ ap (walk d (l.i - 1) w) (sym c.after-at.ensures.answer)

pub returns : goal.returns
returns c =
    let l = c.loop-i in
    let e : l.i ≡ 0 = omega arith in
    record { answer = sym (l.invariant ∙ ap (λ n. walk (constraint_of c.args.self.now) n c.args.w l.at) e) }

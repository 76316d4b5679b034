use Rattle.std.proofs.Common.{◌≡◌}
use Rattle.laws.proofs.All.{sym, ap, ◌∙◌, arith}
use Rattle.compile_weights.specs.PowerTable.{word_count}
use Rattle.compile_weights.proofs.WeightRounds.{count_none, count_yes, count_no}
use Rattle.compile_weights.proofs.state_weights.words_between.Goals as goal
use Rattle.compile_weights.proofs.state_weights.words_between.Goals.{else-power-s, then-power-s}

pub loop-w-preserved : goal.loop-w-preserved
loop-w-preserved c =
    let l = c.loop-w in
    let p = c.args in
    elim c.if-power-s.branch [
      | then-power-s u ↦ (
        omega (arith, u.count-is),
        omega
            (arith, u.count-is, count_yes p.power.now p.s p.t l.w u.if-power-s.true),
      )
      | else-power-s u ↦ (
        omega (arith, u.count-is),
        omega
            (arith, u.count-is, count_no p.power.now p.s p.t l.w u.if-power-s.false),
      )
    ]

pub returns : goal.returns
returns c =
    let l = c.loop-w in
    let p = c.args in
    let e : l.w ≡ p.words = omega arith in
    record { answer = (l.invariant.1 ∙ ap (λ k. word_count p.power.now k p.s p.t) e, omega arith) }

pub loop-w-init : goal.loop-w-init
loop-w-init c = (omega arith, sym (count_none _ _ _))

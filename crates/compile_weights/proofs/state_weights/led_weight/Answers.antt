use Rattle.std.proofs.Common.{◌≡◌, ◌+◌, ◌*◌, ◌≤◌}
use Rattle.laws.proofs.All.{ap, ◌∙◌, arith, range, tot, tot-more}
use Rattle.compile_weights.specs.PowerTable.{term_by, sum_by}
use Rattle.compile_weights.proofs.WeightRounds.{term-small}
use Rattle.compile_weights.proofs.state_weights.led_weight.Goals.{In-loop-t}
use Rattle.compile_weights.proofs.state_weights.led_weight.Goals as goal

small : (c : In-loop-t)
    → term_by c.args.count.now c.args.v c.args.s
    c.loop-t.t ≤ 4096
small c = term-small _ _ (c.requires.3 (c.args.s * 16 + c.loop-t.t)
    (omega arith)) (c.requires.4 c.loop-t.t (omega arith))

pub overflow_mul-sum-in-loop-t : goal.overflow_mul-sum-in-loop-t
overflow_mul-sum-in-loop-t c = omega (arith, small (goal.at.overflow_mul-sum-in-loop-t c).In-loop-t)

pub overflow_add-sum-in-loop-t : goal.overflow_add-sum-in-loop-t
overflow_add-sum-in-loop-t c = omega (arith, small (goal.at.overflow_add-sum-in-loop-t c).In-loop-t)

pub loop-t-preserved : goal.loop-t-preserved
loop-t-preserved c =
    let l = c.loop-t in
    let p = c.args in (
      omega (arith, small (goal.at.loop-t-preserved c).In-loop-t),
      omega (arith, tot-more (term_by p.count.now p.v p.s) l.t),
    )

pub returns : goal.returns
unfolding sum_by
returns c =
    let l = c.loop-t in
    let p = c.args in
    let e : l.t ≡ p.k = omega arith in
    record { answer = l.invariant.1 ∙ ap (λ k. tot (term_by p.count.now p.v p.s) (range k)) e }

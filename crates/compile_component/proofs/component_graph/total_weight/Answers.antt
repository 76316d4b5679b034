use Rattle.laws.proofs.All.{ap, ◌∙◌, map, arith, length, get_or, take, sum, tot-take-more}
use Rattle.laws.proofs.All.{}
use Rattle.std.proofs.Common.{◌≡◌, rules}
use Rattle.compile_component.proofs.component_graph.total_weight.Goals as goal

pub offset_bounds-v-list : goal.offset_bounds-v-list
offset_bounds-v-list c = omega (arith, (c.requires.1 c.loop-i.i (omega arith)).0)

pub bounds-v-list : goal.bounds-v-list
bounds-v-list c = (c.requires.1 c.loop-i.i (omega arith)).0

pub overflow_add-total : goal.overflow_add-total
overflow_add-total c =
    omega (arith, (c.requires.1 c.loop-i.i (omega arith)).1)

pub loop-i-preserved : goal.loop-i-preserved
loop-i-preserved c =
    let l = c.loop-i in
    let p = c.args in
    let a : length p.list.state ≡ 16 = search rules in (
      omega (arith, (c.requires.1 l.i (omega arith)).1),
      omega (arith, tot-take-more 0 (λ t. get_or p.v t 0) p.list.state l.i (omega arith)),
    )

pub returns : goal.returns
returns c =
    let l = c.loop-i in
    let p = c.args in
    let e : l.i ≡ p.list.count = omega arith in
    record { answer = l.invariant.1 ∙ ap (λ k. sum (map (λ t. get_or p.v t 0) (take k p.list.state))) e }

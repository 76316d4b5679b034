use Rattle.laws.proofs.All.{refl, subst, arith, length, get_or, Filled, fill_more}
use Rattle.compile_component.proofs.ComponentWeights.{weights-filled}
use Rattle.std.proofs.Common.{◌≡◌, rules}
use Rattle.compile_component.proofs.component_graph.with_weights.Goals as goal

pub offset_bounds-v-list : goal.offset_bounds-v-list
offset_bounds-v-list c = omega (arith, (c.requires.1 c.loop-i.i (omega arith)).0)

pub bounds-v-list : goal.bounds-v-list
bounds-v-list c = (c.requires.1 c.loop-i.i (omega arith)).0

pub overflow_cast-weight : goal.overflow_cast-weight
overflow_cast-weight c =
    omega (arith, (c.requires.1 c.loop-i.i (omega arith)).1)

pub loop-i-preserved : goal.loop-i-preserved
loop-i-preserved c =
    let l = c.loop-i in
    let p = c.args in
    fill_more 0 (λ x. get_or p.v (get_or p.list.state x 0) 0) 128 l.i l.weight _ (omega arith) refl l.invariant

pub returns : goal.returns
returns c =
    let l = c.loop-i in
    let p = c.args in
    let a : length p.list.state ≡ 16 = search rules in
    let e : l.i ≡ p.list.count = omega arith in
    record {
      answer = (
        weights-filled p.v p.list.state p.list.count l.weight (omega arith)
            (subst (λ k. Filled 0 (λ x. get_or p.v (get_or p.list.state x 0) 0) 128 k l.weight) e l.invariant),
        refl,
        refl,
      );
    }

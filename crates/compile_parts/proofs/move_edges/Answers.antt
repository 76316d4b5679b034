use Rattle.std.proofs.Common.{◌≡◌}
use Rattle.laws.proofs.All.{subst, sym, map, arith, ◌∙◌}
use Rattle.compile_order.specs.EdgeKeys.{arc_of}
use Rattle.compile_parts.proofs.MovedSources.{Resourced, resource-next, resource_stay, resource-end, new_source}
use Rattle.compile_parts.proofs.MovedSources.{source-other, source-kept, source-moved, contains_is}
use Rattle.compile_parts.proofs.move_edges.Goals as goal
use Rattle.compile_parts.proofs.move_edges.Goals.{then-g-i+then-not-contains, else-g-i}
use Rattle.compile_parts.proofs.move_edges.Goals.{else-g-i-via-then-g-i+else-not-contains, else-g-i-via-else-g-i}

pub loop-i-preserved : goal.loop-i-preserved
loop-i-preserved c =
    let l = c.loop-i in
    let a = c.args in
    elim c.if-g-i.branch [
      | then-g-i+then-not-contains w ↦
          rw w.h-is (resource-next a.g a.s a.kept.now l.i l.h c.requires.0 (omega arith) l.invariant a.g.states
          (source-moved a.s a.g.states a.kept.now _ _ w.if-g-i.true
          (sym (contains_is _ a.kept.now) ∙ sym w.contains.ensures.value ∙ w.if-not-contains.true)))
      | else-g-i w ↦
          rw w.h-is (resource_stay a.g a.s a.kept.now l.i l.h c.requires.0 (omega arith) l.invariant
          (elim w.else-g-i.branch [
            | else-g-i-via-then-g-i+else-not-contains w' ↦
                source-kept a.s a.g.states a.kept.now _ _ w'.if-g-i.true
                (sym (contains_is _ a.kept.now) ∙ sym w'.contains.ensures.value ∙ w'.if-not-contains.false)
            | else-g-i-via-else-g-i w' ↦ source-other a.s a.g.states a.kept.now _ _ w'.if-g-i.false
          ]))
    ]

pub returns : goal.returns
returns c =
    let l = c.loop-i in
    let a = c.args in
    let e : l.i ≡ a.g.edges = omega arith in
    let keep = map (arc_of a.s) a.kept.now in
    record {
      answer = resource-end a.g a.s keep l.h
          (subst (λ k. Resourced a.g (new_source a.g a.s keep) k l.h) e l.invariant);
    }

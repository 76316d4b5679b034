use Rattle.std.proofs.Common.{◌≡◌}
use Rattle.laws.proofs.All.{sym, subst, arith, map, range, concat}
use Rattle.compile_component.specs.ComponentParts.{row_of_state, Added}
use Rattle.compile_component.proofs.AppendedRows.{Done, done_more, done-over, done_end}
use Rattle.compile_component.proofs.component_graph.add_states.Goals as goal

pub returns-in_err-h : goal.returns-in_err-h
returns-in_err-h c =
    let l = c.loop-s in
    let p = c.args in
    let row = row_of_state p.power.now p.words p.index in
    record {
      answer = subst (λ r. Added p.g (concat (map row (range p.k))) r) (sym c.from_residual.ensures)
          (done-over row p.g l.h l.s l.invariant p.k c.loop-s-test.true
          (subst (Added l.h (row l.s)) c.in_err-h.was c.add_state.ensures.answer));
    }

pub loop-s-preserved : goal.loop-s-preserved
loop-s-preserved c =
    let l = c.loop-s in
    let p = c.args in
    let row = row_of_state p.power.now p.words p.index in
    done_more row p.g l.h l.s l.invariant c.in_ok-h.h
    (subst (Added l.h (row l.s)) c.in_ok-h.was c.add_state.ensures.answer)

pub returns : goal.returns
returns c =
    let l = c.loop-s in
    let p = c.args in
    let row = row_of_state p.power.now p.words p.index in
    let e : l.s ≡ p.k = omega arith in
    record { answer = done_end row p.g l.h p.k (subst (Done row p.g l.h) e l.invariant) }

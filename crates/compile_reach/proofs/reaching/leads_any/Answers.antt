use Rattle.std.proofs.Common.{◌≡◌, ◌&&◌, ◌+◌, ◌*◌}
use Rattle.laws.proofs.All.{sym, ap, ap₂, true, false, arith}
use Rattle.laws.proofs.All.{get_or, range, any, T→true, →any-below, any-range-no}
use Rattle.compile_reach.specs.ReachSets.{passes_on}
use Rattle.compile_reach.proofs.reaching.leads_any.Goals as goal
use Rattle.compile_reach.proofs.reaching.leads_any.Goals.{else-edge-s-via-then-edge-s+else-m-t, else-edge-s-via-else-edge-s}

pub returns-then-m-t : goal.returns-then-m-t
returns-then-m-t c =
    let p = c.args in
    let f = passes_on p.edge.now p.m.now p.t p.s in
    let e : f c.loop-u.u ≡ true = ap₂ (λ a b. a && b) c.if-edge-s.true c.if-m-t.true in
    record { answer = sym (T→true (any f (range p.k)) (→any-below f p.k c.loop-u.u (omega arith) (rw e tt))) }

pub loop-u-preserved : goal.loop-u-preserved
loop-u-preserved c =
    let p = c.args in
    let f = passes_on p.edge.now p.m.now p.t p.s in
    elim c.else-edge-s.branch [
      | else-edge-s-via-then-edge-s+else-m-t w ↦ any-range-no f c.loop-u.u c.loop-u.invariant
          (ap₂ (λ a b. a && b) w.if-edge-s.true w.if-m-t.false)
      | else-edge-s-via-else-edge-s w ↦ any-range-no f c.loop-u.u c.loop-u.invariant
          (ap (λ a. a && get_or p.m.now (p.t * 16 + c.loop-u.u) false) w.if-edge-s.false)
    ]

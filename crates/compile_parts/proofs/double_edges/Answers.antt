use Rattle.std.proofs.Common.{◌≡◌, ◌<◌}
use Rattle.laws.proofs.All.{arith, get_or}
use Rattle.compile_parts.proofs.Doubling.{grown-room, turn-yes, turn-no}
use Rattle.compile_parts.proofs.double_edges.Goals.{At-loop-i}
use Rattle.compile_parts.proofs.double_edges.Goals as goal
use Rattle.compile_parts.proofs.double_edges.Goals.{else-g-i, then-g-i}

-- there is room for an edge into s
room-on : (c : At-loop-i) → c.loop-i.i < c.args.g.edges → get_or c.args.g.target c.loop-i.i 0 ≡ c.args.s
    → c.loop-i.edges < 2048
room-on c h q =
    let l = c.loop-i in
    omega (arith, grown-room c.args.g c.args.s l.h l.edges l.i l.invariant.1 h q, c.requires.0)

pub bounds-h-edges : goal.bounds-h-edges
bounds-h-edges c = room-on (goal.at.bounds-h-edges c).At-loop-i (omega arith) c.if-g-i.true

pub bounds-h-edges-then-g-i : goal.bounds-h-edges-then-g-i
bounds-h-edges-then-g-i c = room-on (goal.at.bounds-h-edges-then-g-i c).At-loop-i (omega arith) c.if-g-i.true

pub bounds-h-edges-then-g-i-2 : goal.bounds-h-edges-then-g-i-2
bounds-h-edges-then-g-i-2 c = room-on (goal.at.bounds-h-edges-then-g-i-2 c).At-loop-i (omega arith) c.if-g-i.true

pub loop-i-preserved : goal.loop-i-preserved
loop-i-preserved c =
    let l = c.loop-i in
    let p = c.args in
    elim c.if-g-i.branch [
      | then-g-i w ↦
          turn-yes p.g p.s l.h l.edges l.i l.invariant.1 c.if-g-i.h c.if-g-i.edges w.h-is w.edges-is
          (room-on (goal.at.loop-i-preserved c).At-loop-i (omega arith) w.if-g-i.true) w.if-g-i.true
      | else-g-i w ↦
          turn-no p.g p.s l.h l.edges l.i l.invariant.1 c.if-g-i.h c.if-g-i.edges w.h-is w.edges-is l.invariant.0
          w.if-g-i.false
    ]

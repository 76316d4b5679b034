use Rattle.compile_parts.proofs.Doubling.{count-taken, count_left}
use Rattle.compile_parts.proofs.enter_count.Goals as goal
use Rattle.compile_parts.proofs.enter_count.Goals.{else-g-i, then-g-i}

pub loop-i-preserved : goal.loop-i-preserved
loop-i-preserved c =
    let l = c.loop-i in
    let p = c.args in
    elim c.if-g-i.branch [
      | then-g-i w ↦
          count-taken p.g p.s l.i l.count c.if-g-i.count l.invariant.0 l.invariant.1 w.count-is w.if-g-i.true
      | else-g-i w ↦
          count_left p.g p.s l.i l.count c.if-g-i.count l.invariant.0 l.invariant.1 w.count-is w.if-g-i.false
    ]

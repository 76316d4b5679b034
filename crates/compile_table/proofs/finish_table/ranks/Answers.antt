use Rattle.laws.proofs.All.{sym, arith, fill_none, fill_more}
use Rattle.compile_table.specs.Finishing.{rank}
use Rattle.compile_table.proofs.Ranks.{rank-none, rank-yes, rank-no}
use Rattle.compile_table.proofs.finish_table.ranks.Goals as goal
use Rattle.compile_table.proofs.finish_table.ranks.Goals.{else-set-t, then-set-t}

pub loop-t-init : goal.loop-t-init
loop-t-init c = (omega arith, sym (rank-none _), fill_none 0 _ 128 0)

pub loop-t-preserved : goal.loop-t-preserved
loop-t-preserved c =
    let l = c.loop-t in
    let p = c.args in
    let f = fill_more 0 (rank p.set) 128 l.t l.ranks l.count (omega arith) l.invariant.1 l.invariant.2 in
    elim c.if-set-t.branch [
      | then-set-t w ↦
          (omega (arith, w.count-is), omega (arith, w.count-is, rank-yes p.set l.t w.if-set-t.true), f)
      | else-set-t w ↦
          (omega (arith, w.count-is), omega (arith, w.count-is, rank-no p.set l.t w.if-set-t.false), f)
    ]

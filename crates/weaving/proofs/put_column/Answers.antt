use Rattle.std.proofs.Common.{◌*◌}
use Rattle.laws.proofs.All.{sym, arith, within_more}
use Rattle.weaving.specs.Weaving.{transposed_at}
use Rattle.weaving.proofs.Transposed.{in_array, cell}
use Rattle.weaving.proofs.put_column.Goals as goal

pub loop-r-preserved : goal.loop-r-preserved
loop-r-preserved c =
    let l = c.loop-r in
    let a = c.args in
    let ws = a.words.now in
    within_more (transposed_at a.a a.b ws) (a.j * a.a) a.out.now l.out l.r _ l.invariant
    (sym (cell a.a a.b ws l.r a.j (omega arith)))
    (omega (arith, in_array a.a a.b l.r a.j (omega arith) c.requires.0))

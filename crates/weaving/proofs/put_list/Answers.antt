use Rattle.std.proofs.Common.{◌*◌, ◌+◌}
use Rattle.laws.proofs.All.{refl, arith, get_or}
use Rattle.weaving.proofs.Transposed.{in_array}
use Rattle.weaving.proofs.Spread.{spread-more}
use Rattle.weaving.proofs.put_list.Goals as goal

pub loop-i-preserved : goal.loop-i-preserved
loop-i-preserved c =
    let a = c.args in
    let i = c.loop-i.i in
    spread-more a.a a.b a.r i a.words.now a.out.now c.loop-i.out (get_or a.words.now (a.r * a.b + i) 0) (omega arith)
    (omega (arith, in_array a.a a.b a.r i (omega arith) (omega arith))) refl c.loop-i.invariant

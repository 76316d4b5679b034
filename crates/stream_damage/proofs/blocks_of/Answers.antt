-- The two block numbers by their formulas; the last is below 1,000,000 + m.
use Rattle.laws.proofs.All.{arith, div-lt_iff_lt-mul}
use Rattle.stream_pack.specs.Streams.{limit}
use Rattle.stream_damage.proofs.blocks_of.Goals as goal

pub overflow_add-result : goal.overflow_add-result
overflow_add-result c =
    let a = c.args in
    omega (arith, (div-lt_iff_lt-mul {k = a.q} {x = a.damage.last.0} {y = limit} c.requires.0).1 c.requires.3)

-- Two stores: the weight of s, and that of the new state.
use Rattle.laws.proofs.All.{length, arith}
use Rattle.compile_split.proofs.Weighing.{weigh-is}
use Rattle.std.proofs.Common.{◌≡◌, rules}
use Rattle.compile_split.proofs.part_state.weigh.Goals as goal

pub returns : goal.returns
returns c =
    let p = c.args in
    let a : length p.g.weight ≡ 128 = search rules in
    record { answer = weigh-is p.g p.s p.w a (omega arith) (omega arith) }

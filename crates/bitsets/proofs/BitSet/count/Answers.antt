-- `count` meets its contract.
use Rattle.std.proofs.Common.{◌^◌, ◌<◌}
use Rattle.laws.proofs.All.{sym, arith}
use lib.Count.{ones-le}
use Rattle.bitsets.proofs.Words.{words_count}
use Rattle.bitsets.proofs.BitSet.count.Goals as goal

pub overflow_add-result : goal.overflow_add-result
overflow_add-result c =
    let s = c.args.self in
    let l : s.low < 2 ^ 64 = omega arith in
    let h : s.high < 2 ^ 64 = omega arith in
    omega (arith, ones-le 64 s.low l, ones-le 64 s.high h)

pub returns : goal.returns
returns c =
    let s = c.args.self in
    let l : s.low < 2 ^ 64 = omega arith in
    let h : s.high < 2 ^ 64 = omega arith in
    record { answer = sym (words_count s.high s.low h l) }

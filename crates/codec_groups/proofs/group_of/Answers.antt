-- As many members of the set are below s as are in it and among the first s states.
use Rattle.std.proofs.Common.{◌≤◌}
use Rattle.laws.proofs.All.{arith}
use Rattle.bitsets.specs.BitSets.{value_of}
use Rattle.bitsets.proofs.Places.{places-le}
use Rattle.codec_groups.proofs.Ranks.{group-counted}
use Rattle.codec_groups.proofs.group_of.Goals.{After-count}
use Rattle.codec_groups.proofs.group_of.Goals as goal

-- no more members than states
few : (c : After-count) → c.count.result ≤ 128
few c = omega (arith, c.count.ensures.answer, places-le 128 (value_of c.meet.result))

pub returns : goal.returns
returns c =
    record {
      answer = group-counted c.args.at c.args.have c.every.result c.meet.result c.args.s c.count.result
          (omega (arith, c.requires.1)) c.every.ensures.answer c.meet.ensures.answer c.count.ensures.answer;
    }

pub overflow_cast-result : goal.overflow_cast-result
overflow_cast-result c = omega (arith, few c)

pub overflow_add-result : goal.overflow_add-result
overflow_add-result c = omega (arith, few c, c.requires.0)

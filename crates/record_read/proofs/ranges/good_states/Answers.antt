-- Each next state is tested.
use Rattle.std.proofs.Common.{◌*◌, refl, rules}
use Rattle.bits.specs.Fields.{bits_of}
use Rattle.record.specs.Places.{good_at}
use Rattle.table.proofs.LoopTests.{all_ran}
use Rattle.record_read.proofs.ranges.good_states.Goals as goal

pub returns : goal.returns
returns c =
    let a = c.args in
    record {
      answer = all_ran (good_at (bits_of a.bytes.now) a.count) (2 * a.count) _ _ _ _ refl c.all.ensures.ran
          (λ x q k. search rules) (λ x q k. search rules);
    }

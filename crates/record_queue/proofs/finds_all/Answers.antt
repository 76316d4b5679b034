-- Each datum is tested.
use Rattle.std.proofs.Common.{refl, rules}
use Rattle.record_queue.specs.Places.{finds_at}
use Rattle.table.proofs.LoopTests.{all_ran}
use Rattle.record_queue.proofs.finds_all.Goals as goal

pub returns : goal.returns
returns c =
    let a = c.args in
    record {
      answer = all_ran (finds_at a.word.now a.power.now a.x) a.n _ _ _ _ refl c.all.ensures.ran
          (λ x q k. search rules) (λ x q k. search rules);
    }

-- Each state is tested.
use Rattle.std.proofs.Common.{refl, rules}
use Rattle.table.specs.Entries.{good_places}
use Rattle.table.proofs.LoopTests.{all_ran}
use Rattle.table.proofs.Table.has_good_rows.Goals as goal

pub returns : goal.returns
returns c =
    let a = c.args in
    let t = a.self.now in
    record {
      answer = all_ran (good_places t.states a.words t.word t.next a.n) t.states _ _ _ _ refl
          c.all.ensures.ran (λ x q k. search rules) (λ x q k. search rules);
    }

-- Each entry is tested.
use Rattle.std.proofs.Common.{◌+◌, ◌*◌, refl, rules}
use Rattle.table.specs.Entries.{good_place}
use Rattle.table.proofs.LoopTests.{all_ran}
use Rattle.table.proofs.Table.is_good_row.Goals as goal

pub returns : goal.returns
returns c =
    let a = c.args in
    let t = a.self.now in
    record {
      answer = all_ran (λ d. good_place t.states a.words t.word t.next (a.s * 16 + d)) a.n _ _ _ _ refl
          c.all.ensures.ran (λ x q k. search rules) (λ x q k. search rules);
    }

-- Each constraint state is tested.
use Rattle.std.proofs.Common.{refl, rules}
use Rattle.table.specs.Entries.{good_next_at}
use Rattle.table.proofs.LoopTests.{all_ran}
use Rattle.table.proofs.ready.good_nexts.Goals as goal

pub returns : goal.returns
returns c = record { answer = all_ran (good_next_at c.args.c) c.args.c.states _ _ _ _ refl c.all.ensures.ran (λ x q k. search rules) (λ x q k. search rules) }

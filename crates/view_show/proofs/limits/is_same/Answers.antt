-- Each state is compared.
use Rattle.std.proofs.Common.{◌≡◌, refl, rules}
use Rattle.constraint.specs.Value.{next_states_at}
use Rattle.table.proofs.LoopTests.{all_ran}
use Rattle.view_show.specs.Limits.{alike}
use Rattle.view_show.proofs.limits.is_same.Goals as goal

pub returns : goal.returns
returns c =
    let a = c.args.a in
    let b = c.args.b in
    record {
      answer = all_ran (λ i. alike (next_states_at a i) (next_states_at b i)) a.states _ _ _ _ refl c.all.ensures.ran
          (λ x q k. search rules) (λ x q k. search rules);
    }

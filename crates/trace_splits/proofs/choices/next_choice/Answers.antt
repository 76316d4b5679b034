-- `next_choice` meets its contract: the parts of a split are found in the rule's order.
use Rattle.std.proofs.Common.{◌≡◌, rules}
use Rattle.laws.proofs.All.{ap, map, arith, length, length-map}
use Rattle.compile_order.specs.EdgeKeys.{keys_in, key_weight}
use Rattle.compile_choice.specs.ChoiceParts.{FirstRun}
use Rattle.compile_split.proofs.OneSplit.{chosen-heavy, chosen-light}
use Rattle.compile_split.proofs.SplitState.{Keyed, weights-low}
use Rattle.trace_splits.proofs.Chosen.{chosen-in}
use Rattle.trace_splits.proofs.choices.next_choice.Goals.{After-candidate_keys-keys, After-as_slice-2, After-first_run-run}
use Rattle.trace_splits.proofs.choices.next_choice.Goals as goal

-- the keys are those of the state that the rule names
keyed : (c : After-candidate_keys-keys)
    → Keyed c.args.n c.args.g c.choose-s.result
    c.greatest_weight-m.result (keys_in c.candidate_keys-keys.result)
keyed c = search (rules, chosen-heavy, chosen-light)

-- their weights, and the run of them
weighed : (c : After-as_slice-2) → (keys_in c.key_weights-weights.result) ≡ map (key_weight c.args.g)
    (keys_in c.candidate_keys-keys.result)
weighed c = rw c.as_slice.ensures.answer at c.key_weights-weights.ensures.answer.0

run_is : (c : After-first_run-run) → FirstRun c.args.n (keys_in c.key_weights-weights.result) c.first_run-run.result
run_is c = rw c.as_slice-2.ensures.answer at c.first_run-run.ensures.answer

pub candidate_keys-keys-requires : goal.candidate_keys-keys-requires
candidate_keys-keys-requires c = search (rules, chosen-light)

pub first_run-run-requires : goal.first_run-run-requires
first_run-run-requires c =
    let k = keyed (goal.at.first_run-run-requires c).After-candidate_keys-keys in
    let e = weighed (goal.at.first_run-run-requires c).After-as_slice-2 in
    rw c.as_slice-2.ensures.answer (
      k.ways,
      omega (
        arith,
        ap length e,
        length-map (keys_in c.candidate_keys-keys.result) (key_weight c.args.g),
        k.few-keys,
        k.narrow,
      ),
      weights-low k (keys_in c.key_weights-weights.result) e,
    )

pub returns : goal.returns
returns c =
    record {
      answer = chosen-in (keyed (goal.at.returns c).After-candidate_keys-keys) _
          (weighed (goal.at.returns c).After-as_slice-2) _ (run_is (goal.at.returns c).After-first_run-run)
          c.choose-s.ensures.answer.0;
    }

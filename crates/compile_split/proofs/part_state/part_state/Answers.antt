-- The steps of the rule in their order; the law `parted-is` puts them together.
use Rattle.laws.proofs.All.{sym, ap, subst, ◌∙◌, ℕ, arith, map, length, length-map, length-take, get_or, map-range-at}
use Rattle.compile_graph.specs.Value.{weight_at}
use Rattle.compile_split.proofs.SplitState.{Keyed, weights-low, share-le, room_moved, parted-is}
use Rattle.std.proofs.Common.{◌≡◌, ◌≤◌, ◌+◌, ◌-◌}
use Rattle.compile_order.specs.declared.list.Keys.{Keys}
use Rattle.compile_order.specs.EdgeKeys.{keys_in, key_weight}
use Rattle.compile_choice.specs.ChoiceParts.{FirstRun}
use Rattle.compile_split.proofs.part_state.part_state.Goals.{After-candidate_keys-list, After-as_slice-2}
use Rattle.compile_split.proofs.part_state.part_state.Goals.{After-first_run-run, After-move_edges-moved}
use Rattle.compile_parts.specs.Parts.{Moved}
use Rattle.compile_split.specs.SplitParts.{kept_arcs}
use Rattle.compile_split.proofs.part_state.part_state.Goals as goal

-- no more keys than the array holds
keys-few : (l : Keys) (n : ℕ) → l.count ≤ n → length (keys_in l) ≤ n
keys-few l n h = omega (arith, length-take l.count l.key)

keyed : (c : After-candidate_keys-list)
    → Keyed c.args.n c.args.g c.args.s c.args.m
    (keys_in c.candidate_keys-list.result)
keyed c = record {
  fits = c.requires.0;
  inside = c.requires.1;
  few = c.requires.2;
  weighs = c.requires.3;
  most = c.requires.4;
  some = c.requires.5;
  ways = c.requires.6;
  few-keys = keys-few c.candidate_keys-list.result c.args.n c.candidate_keys-list.ensures.answer.1;
  narrow = c.requires.7;
  keys = c.candidate_keys-list.ensures.answer.0;
}

-- the weights of the candidates, and their run
weighed : (c : After-as_slice-2) → (keys_in c.key_weights-weights.result) ≡ map (key_weight c.args.g)
    (keys_in c.candidate_keys-list.result)
weighed c = rw c.as_slice.ensures.answer at c.key_weights-weights.ensures.answer.0

run_is : (c : After-first_run-run) → FirstRun c.args.n (keys_in c.key_weights-weights.result) c.first_run-run.result
run_is c = rw c.as_slice-2.ensures.answer at c.first_run-run.ensures.answer

moved_is : (c : After-move_edges-moved) → Moved c.args.g c.args.s
    (kept_arcs c.args.s (keys_in c.candidate_keys-list.result) c.first_run-run.result) c.move_edges-moved.result
moved_is c =
    let r = c.first_run-run.result in
    let z : r.from + r.count - r.from ≡ r.count = omega arith in
    rw (c.as_slice-3.ensures.answer, z) at c.move_edges-moved.ensures.answer

pub first_run-run-requires : goal.first_run-run-requires
first_run-run-requires c =
    let k = keyed (goal.at.first_run-run-requires c).After-candidate_keys-list in
    let e = weighed (goal.at.first_run-run-requires c).After-as_slice-2 in
    rw c.as_slice-2.ensures.answer (
      omega arith,
      omega (arith, ap length e, length-map (keys_in c.candidate_keys-list.result) (key_weight c.args.g), k.few-keys),
      weights-low k (keys_in c.key_weights-weights.result) e,
    )

pub overflow_cast-share : goal.overflow_cast-share
overflow_cast-share c =
    let h : c.args.m ≤ 128 =
    subst (λ x. x ≤ 128) (sym (c.requires.3 ∙ map-range-at (weight_at c.args.g) c.args.g.states c.args.s 0
    c.requires.1)) (c.requires.0.light c.args.s c.requires.1) in
    -- the weight of the part that keeps its edges is at most the state's
    let low = share-le (keyed (goal.at.overflow_cast-share c).After-candidate_keys-list) (keys_in c.key_weights-weights.result)
    (weighed (goal.at.overflow_cast-share c).After-as_slice-2) c.first_run-run.result (run_is (goal.at.overflow_cast-share c).After-first_run-run) in
    omega (arith, low)

pub double_edges-grown-requires : goal.double_edges-grown-requires
double_edges-grown-requires c = (
  room_moved (keyed (goal.at.double_edges-grown-requires c).After-candidate_keys-list) (keys_in c.key_weights-weights.result)
      (weighed (goal.at.double_edges-grown-requires c).After-as_slice-2) c.first_run-run.result
      (run_is (goal.at.double_edges-grown-requires c).After-first_run-run) c.requires.8 c.move_edges-moved.result
      (moved_is (goal.at.double_edges-grown-requires c).After-move_edges-moved),
  omega (arith, c.move_edges-moved.ensures.answer.states),
)

pub weigh-requires : goal.weigh-requires
weigh-requires c =
    let e = c.double_edges-grown.ensures.answer.states in
    let f = c.move_edges-moved.ensures.answer.states in
    let w : get_or c.double_edges-grown.result.weight c.args.s 0 ≡ c.args.m =
    ap (λ l. get_or l c.args.s 0) (c.double_edges-grown.ensures.answer.weight
    ∙ c.move_edges-moved.ensures.answer.weight)
    ∙ sym (c.requires.3 ∙ map-range-at (weight_at c.args.g) c.args.g.states c.args.s 0 c.requires.1) in
    let low = share-le (keyed (goal.at.weigh-requires c).After-candidate_keys-list) (keys_in c.key_weights-weights.result)
    (weighed (goal.at.weigh-requires c).After-as_slice-2) c.first_run-run.result (run_is (goal.at.weigh-requires c).After-first_run-run) in
    (omega arith, omega arith, omega (arith, low))

pub returns : goal.returns
returns c =
    record {
      answer = parted-is (keyed (goal.at.returns c).After-candidate_keys-list) (keys_in c.key_weights-weights.result)
          (weighed (goal.at.returns c).After-as_slice-2)
          c.first_run-run.result (run_is (goal.at.returns c).After-first_run-run) c.move_edges-moved.result
          (moved_is (goal.at.returns c).After-move_edges-moved) c.double_edges-grown.result c.double_edges-grown.ensures.answer
          c.weigh.result c.weigh.ensures.answer;
    }

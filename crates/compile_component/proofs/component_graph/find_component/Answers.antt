-- The parts in their order; the law `found_in` puts them together.
use Rattle.laws.proofs.All.{◌∙◌, length, take}
use Rattle.compile_graph.specs.Component.{within, live, reachings}
use Rattle.compile_weights.specs.PowerTable.{tabled}
use Rattle.compile_reach.specs.ReachSets.{rows_of}
use Rattle.compile_reach.proofs.ComponentMembers.{found-lt}
use Rattle.compile_component.proofs.LiveArcs.{linked-is}
use Rattle.compile_component.proofs.ComponentValue.{state-low, found_in}
use Rattle.std.proofs.Common.{◌≡◌, rules}
use Rattle.compile_component.proofs.component_graph.find_component.Goals.{After-list_members-list}
use Rattle.compile_component.proofs.component_graph.find_component.Goals as goal

weights-long : (c : After-list_members-list)
    → length c.args.v ≡ 16
weights-long c = search rules

states-long : (c : After-list_members-list) → length c.list_members-list.result.state ≡ 16
states-long c = search rules

reach-is : (c : After-list_members-list)
    → rows_of c.reach_all-m.result
    c.args.k
    ≡ reachings c.args.k
    (within (live (take c.args.k
    c.args.v))
    (tabled c.args.power.now
    c.args.words
    c.args.k))
reach-is c =
    let p = c.args in
    c.reach_all-m.ensures.answer
    (within (live (take p.k p.v)) (tabled p.power.now p.words p.k))
    (linked-is p.v p.k c.requires.0.states (weights-long c) p.power.now p.words
    c.requires.0
    c.word_counts-count.result
    c.live_edges-edge.result
    (λ x h. (c.word_counts-count.ensures.answer x h).0)
    c.live_edges-edge.ensures.answer)

pub first_returning-requires : goal.first_returning-requires
first_returning-requires c = (search rules, c.requires.0.states)

pub list_members-list-requires : goal.list_members-list-requires
list_members-list-requires c = (
  search rules,
  c.requires.0.states,
  rw c.unwrap_or-s.ensures
      (found-lt c.first_returning.result c.args.k c.first_returning.ensures.there c.requires.1),
)

pub with_weights-g-requires : goal.with_weights-g-requires
with_weights-g-requires c =
    let a = weights-long c in
    let b = states-long c in
    let e = reach-is c in (
      c.list_members-list.ensures.answer.few,
      state-low c.args.power.now
          c.args.words
          c.args.k
          c.requires.0
          c.args.v a
          c.requires.2
          c.reach_all-m.result c.unwrap_or-s.result e
          (c.unwrap_or-s.ensures ∙ c.first_returning.ensures.answer)
          c.list_members-list.result b c.list_members-list.ensures.answer,
    )

pub total_weight-requires : goal.total_weight-requires
total_weight-requires c =
    let a = weights-long (goal.at.total_weight-requires c).After-list_members-list in
    let b = states-long (goal.at.total_weight-requires c).After-list_members-list in
    let e = reach-is (goal.at.total_weight-requires c).After-list_members-list in (
      c.list_members-list.ensures.answer.few,
      state-low c.args.power.now c.args.words c.args.k
          c.requires.0 c.args.v a
          c.requires.2
          c.reach_all-m.result
          c.unwrap_or-s.result e
          (c.unwrap_or-s.ensures ∙ c.first_returning.ensures.answer)
          c.list_members-list.result b c.list_members-list.ensures.answer,
    )

pub returns : goal.returns
returns c =
    let a = weights-long (goal.at.returns c).After-list_members-list in
    let b = states-long (goal.at.returns c).After-list_members-list in
    let e = reach-is (goal.at.returns c).After-list_members-list in
    record {
      answer = found_in c.args.power.now
          c.args.words c.args.k
          c.requires.0
          c.args.v a
          c.requires.2
          c.reach_all-m.result
          c.unwrap_or-s.result e
          (c.unwrap_or-s.ensures ∙ c.first_returning.ensures.answer)
          c.list_members-list.result b
          c.list_members-list.ensures.answer
          c.with_weights-g.result
          c.with_weights-g.ensures.answer.0
          c.with_weights-g.ensures.answer.1
          c.with_weights-g.ensures.answer.2
          c.add_states.result c.add_states.ensures.answer
          c.total_weight.result c.first_state.result
          c.total_weight.ensures.answer c.first_state.ensures.answer;
    }

pub live_edges-edge-requires : goal.live_edges-edge-requires
live_edges-edge-requires c = (search rules, c.requires.0.states)

pub reach_all-m-requires : goal.reach_all-m-requires
reach_all-m-requires c = (search rules, c.requires.0.states)

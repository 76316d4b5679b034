-- `begin` meets its contract: the power table holds the words that the constraint allows, so weights and component are
-- the job's.
use Rattle.laws.proofs.All.{sym, ap, ap₂, ◌∙◌, arith, get_or}
use Rattle.compile_graph.specs.Component.{component_states}
use Rattle.compile_weights.specs.PowerTable.{Powers}
use Rattle.compile.proofs.CompileSteps.{has-states, held-powers, held-tabled, held-component}
use Rattle.trace.proofs.beginnings.begin.Goals.{After-power-words}
use Rattle.trace.proofs.beginnings.begin.Goals as goal

powers : (c : After-power-words) → Powers c.power_codes-power.result c.power-words.result
    c.args.j.constraint.states
powers c =
    held-powers c.args.j c.requires.0 _ _ c.power_codes-power.ensures.answer c.power-words.ensures.answer

pub weights_of-v-requires : goal.weights_of-v-requires
weights_of-v-requires c = (
  c.requires.0,
  powers (goal.at.weights_of-v-requires c).After-power-words,
  held-tabled c.args.j c.requires.0 _ _ c.power_codes-power.ensures.answer c.power-words.ensures.answer,
  c.requires.1,
)

pub component_states-list-requires : goal.component_states-list-requires
component_states-list-requires c =
    (powers (goal.at.component_states-list-requires c).After-power-words, has-states c.args.j c.requires.0)

pub find_component-found-requires : goal.find_component-found-requires
find_component-found-requires c = (
  powers (goal.at.find_component-found-requires c).After-power-words,
  has-states c.args.j c.requires.0,
  λ s h. omega (arith, c.weights_of-v.ensures.answer.1 s h),
)

pub returns : goal.returns
returns c =
    let j = c.args.j in
    let r = c.requires.0 in
    let e = c.power_codes-power.ensures.answer in
    let f = c.power-words.ensures.answer in
    let u = c.weights_of-v.ensures.answer.0 in
    let g = held-component j r _ _ e f _ u _ c.find_component-found.ensures.answer in
    let m = c.component_states-list.ensures.answer.1 ∙ ap₂ component_states u (held-tabled j r _ _ e f) in
    record {
      answer = record {
        weights = u;
        few = c.component_states-list.ensures.answer.0;
        states = m;
        start = g.start ∙ ap (λ l. get_or l 0 0) (sym m);
        found = g;
      };
    }

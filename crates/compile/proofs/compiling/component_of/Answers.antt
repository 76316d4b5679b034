-- `component_of` meets its contract: the power table holds the words that the constraint allows, so weights and
-- component are the job's.
use Rattle.laws.proofs.All.{arith}
use Rattle.compile.proofs.CompileSteps.{has-states, held-powers, held-tabled, held-component}
use Rattle.compile.proofs.compiling.component_of.Goals as goal

pub weights_of-v-requires : goal.weights_of-v-requires
weights_of-v-requires c =
    let j = c.args.j in (
      c.requires.0,
      held-powers j c.requires.0 _ _ c.power_codes-power.ensures.answer c.power-words.ensures.answer,
      held-tabled j c.requires.0 _ _ c.power_codes-power.ensures.answer c.power-words.ensures.answer,
      c.requires.1,
    )

pub find_component-requires : goal.find_component-requires
find_component-requires c =
    let j = c.args.j in (
      held-powers j c.requires.0 _ _ c.power_codes-power.ensures.answer
          c.power-words.ensures.answer,
      has-states j c.requires.0,
      λ s h. omega (arith, c.weights_of-v.ensures.answer.1 s h),
    )

pub returns : goal.returns
returns c =
    record {
      answer = held-component c.args.j c.requires.0 _ _ c.power_codes-power.ensures.answer
          c.power-words.ensures.answer _ c.weights_of-v.ensures.answer.0 _
          c.find_component.ensures.answer;
    }

pub power_codes-power-requires : goal.power_codes-power-requires
power_codes-power-requires c = (c.requires.0.limits, c.requires.0.allowed.q₂)

pub power-words-requires : goal.power-words-requires
power-words-requires c = omega (arith, c.requires.0.allowed.q₂)

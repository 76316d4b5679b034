use Rattle.laws.proofs.All.{sym, ap₂, ◌∙◌, arith, length, get_or, map-places, map-range-same}
use Rattle.constraint.specs.Walking.{none, NextStates, nowhere}
use Rattle.constraint.specs.Value.{constraint_of}
use Rattle.constraint.proofs.Values.{fill_none, fill_more, filled-read}
use Rattle.joining.specs.Joined.{joined_state}
use Rattle.joining.proofs.Both.join_states.Goals as goal

pub loop-s-init : goal.loop-s-init
loop-s-init c = (fill_none _ none 16, fill_none _ none 16)

pub loop-s-preserved : goal.loop-s-preserved
loop-s-preserved c =
    let l = c.loop-s in (
      fill_more _ none 16 l.s l.zero _ (omega arith) c.next_pair.ensures.answer l.invariant.0,
      fill_more _ none 16 l.s l.one _ (omega arith) c.next_pair-in-loop-s.ensures.answer l.invariant.1,
    )

pub returns : goal.returns
returns c =
    let l = c.loop-s in
    let a = c.args in
    let f = joined_state (constraint_of a.self.now.first) (constraint_of a.self.now.second) a.list.now in
    record {
      answer = map-range-same _ (λ k. f (get_or a.list.now k 0)) (length a.list.now)
          (λ i h. ap₂ {C = NextStates} (λ z o. record { zero = z; one = o })
          (filled-read _ none 16 l.s l.zero l.invariant.0 i (omega arith) (omega arith))
          (filled-read _ none 16 l.s l.one l.invariant.1 i (omega arith) (omega arith)))
          ∙ sym (map-places 0 nowhere f a.list.now);
    }

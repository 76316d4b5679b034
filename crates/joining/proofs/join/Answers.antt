-- The pairs are those of the definition, and so are their count and the states.
use Rattle.laws.proofs.All.{sym, ap, ◌∙◌, map, arith, le-leb, lt-leb, length}
use Rattle.constraint.specs.Value.{constraint_of}
use Rattle.constraint.proofs.Walking.{after_small}
use Rattle.joining.specs.Joined.{pairs, joined_state, joined}
use Rattle.joining.proofs.join.Goals as goal

pub invariant_of-both : goal.invariant_of-both
invariant_of-both c =
    let a = c.args in
    record {
      small_first = after_small (constraint_of a.c) c.requires.0;
      small_second = after_small (constraint_of a.d) c.requires.1;
    }

pub returns-then-len-gt16 : goal.returns-then-len-gt16
returns-then-len-gt16 c =
    let p = c.all_pairs-list in
    let a = c.args in
    let s = length (pairs (constraint_of a.c) (constraint_of a.d)) in
    record { few = sym (lt-leb s 16 (omega (arith, ap length p.ensures.answer))); kept = tt }

pub returns : goal.returns
unfolding joined
returns c =
    let p = c.all_pairs-list in
    let a = c.args in
    let s = length (pairs (constraint_of a.c) (constraint_of a.d)) in
    record {
      few = sym (le-leb s 16 (omega (arith, ap length p.ensures.answer)));
      kept = c.join_states.ensures.answer
          ∙ ap (λ l. map (joined_state (constraint_of a.c) (constraint_of a.d) l) l) (c.as_slice.ensures.value ∙ p.ensures.answer);
    }

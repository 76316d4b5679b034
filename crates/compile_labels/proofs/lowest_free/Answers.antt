use Rattle.laws.proofs.All.{sym, ◌∙◌, arith, below_more, take, first-least}
use Rattle.laws.proofs.All.{first-range-none}
use Rattle.compile_labels.specs.Labels.{free}
use Rattle.compile_labels.proofs.lowest_free.Goals as goal

pub returns-then-is_free : goal.returns-then-is_free
returns-then-is_free c =
    let a = c.args in
    let l = c.loop-d in
    record {
      answer = (
        sym (first-least (free (take a.n a.ds)) a.n a.n l.d l.invariant.1 (omega arith)
            (sym c.is_free.ensures.answer ∙ c.if-is_free.true)),
        omega arith,
      );
    }

pub loop-d-preserved : goal.loop-d-preserved
loop-d-preserved c =
    let l = c.loop-d in
    (omega arith, below_more _ _ l.invariant.1 (sym c.is_free.ensures.answer ∙ c.if-is_free.false))

pub returns : goal.returns
returns c =
    let a = c.args in
    let l = c.loop-d in
    record {
      answer = (
        sym (first-range-none (free (take a.n a.ds)) a.n a.n (λ e h. l.invariant.1 e (omega arith))),
        omega arith,
      );
    }

pub loop-d-init : goal.loop-d-init
loop-d-init c = (omega arith, λ e h. absurd (omega arith))

use Rattle.laws.proofs.All.{sym, ◌∙◌, arith, below_more, take}
use Rattle.compile_labels.proofs.Passes.{given-found, given-none}
use Rattle.compile_labels.proofs.lowest_given.Goals as goal

pub returns-then-is_given : goal.returns-then-is_given
returns-then-is_given c =
    let a = c.args in
    let l = c.loop-d in
    record {
      answer = (
        sym (given-found a.n a.words a.w (take a.k a.ds) l.d (omega arith) l.invariant.1
            (sym c.is_given.ensures.answer ∙ c.if-is_given.true)),
        omega arith,
      );
    }

pub loop-d-preserved : goal.loop-d-preserved
loop-d-preserved c =
    let l = c.loop-d in
    (omega arith, below_more _ _ l.invariant.1 (sym c.is_given.ensures.answer ∙ c.if-is_given.false))

pub returns : goal.returns
returns c =
    let a = c.args in
    let l = c.loop-d in
    record {
      answer = (
        sym (given-none a.n a.words a.w (take a.k a.ds) (λ e h. l.invariant.1 e (omega arith))),
        omega arith,
      );
    }

pub loop-d-init : goal.loop-d-init
loop-d-init c = (omega arith, λ e h. absurd (omega arith))

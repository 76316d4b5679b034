-- `asked_datum` meets its contract. The two answers by whether h is a state.
use Rattle.laws.proofs.All.{sym, ap, ◌∙◌, arith, le_refl, take, first}
use Rattle.compile_labels.specs.Labels.{free}
use Rattle.compile_labels.specs.Labels.{gave}
use Rattle.compile_labels.proofs.Homes.{gave-state, gave-none}
use Rattle.compile_labels.proofs.asked_datum.Goals as goal

pub returns-then-h-ge128 : goal.returns-then-h-ge128
returns-then-h-ge128 c =
    let a = c.args in
    record {
      answer = (
        sym (ap (first (free (take a.k a.ds)) a.n)
            (gave-none a.n a.column.now a.h a.w c.if-h-ge128.true)),
        le_refl a.n,
      );
    }

pub returns : goal.returns
returns c =
    let a = c.args in
    record {
      answer = (
        c.lowest_given.ensures.answer.0
            ∙ ap (first (free (take a.k a.ds)) a.n)
            (ap (λ r. gave a.n r a.w) c.row_of-words.ensures.answer
            ∙ sym (gave-state a.n a.column.now a.h a.w (omega arith))),
        c.lowest_given.ensures.answer.1,
      );
    }

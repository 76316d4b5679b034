-- The chains of the table's edges serve the test.
use Rattle.laws.proofs.All.{ap, ◌∙◌}
use Rattle.window.specs.Works.{works}
use Rattle.table.specs.Edges.{rows_of}
use Rattle.window.specs.Steps.{size}
use Rattle.window_test.proofs.works.Goals as goal

pub returns : goal.returns
returns c =
    let a = c.args in
    record {
      answer = c.works_by.ensures.answer
          ∙ ap (λ t. works (rows_of t) (size a.memory a.lookahead))
          (c.of-chains.ensures.answer ∙ c.of.ensures.answer);
    }

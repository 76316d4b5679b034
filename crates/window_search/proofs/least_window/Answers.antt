-- The chains of the table's edges serve the search.
use Rattle.laws.proofs.All.{sym, ap, ◌∙◌}
use Rattle.window.specs.Search.{window}
use Rattle.table.specs.Edges.{rows_of}
use Rattle.window_search.proofs.least_window.Goals as goal

pub returns : goal.returns
returns c = record {
  answer = sym c.least.ensures.answer
      ∙ ap (λ t. window (rows_of t)) (c.of-chains.ensures.answer ∙ c.of.ensures.answer);
}

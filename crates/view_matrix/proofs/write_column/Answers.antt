-- The parts are put in a row.
use Rattle.laws.proofs.All.{ap}
use Rattle.text.proofs.Adding.{added-same, ◌then◌}
use Rattle.view_matrix.specs.Matrix.{place, column_text}
use Rattle.view_matrix.proofs.write_column.Goals as goal

pub returns-clause-written : goal.returns-clause-written
unfolding column_text
returns-clause-written c =
    added-same (ap (λ x. place x 40) c.column_x.ensures.answer.0) c.write_sentence.ensures.written then
    c.word.ensures.written then c.put.ensures.written

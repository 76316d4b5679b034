-- The places are those of its column and its row.
use Rattle.std.proofs.Common.{◌+◌, ◌*◌, ◌/◌, ◌%◌}
use Rattle.laws.proofs.All.{ap, ap₂, ◌∙◌}
use Rattle.text.proofs.Adding.{added-same}
use Rattle.view_matrix.specs.Matrix.{column_x, entry}
use Rattle.view_matrix.proofs.write_entry.Goals as goal

pub returns-clause-written : goal.returns-clause-written
returns-clause-written c =
    let d = c.args.d in
    added-same (ap₂ (λ l r. entry (l + d % 4 * 40) (r + d / 4 * 12) d c.next_at-t.result)
    (c.column_x.ensures.answer.0 ∙ ap column_x c.word_at.ensures.answer.0) c.row_y.ensures.answer.0
    ∙ ap (entry _ _ d) c.next_at-t.ensures.answer) c.write_sentence.ensures.written

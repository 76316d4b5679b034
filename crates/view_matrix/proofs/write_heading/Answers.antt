use Rattle.std.proofs.Common.{◌≡◌}
use Rattle.laws.proofs.All.{refl, ap, ◌∙◌, arith}
use Rattle.text.proofs.Adding.{added-same, ◌then◌, begun}
use Rattle.view_matrix.specs.Matrix.{column_text, in_row, sizes}
use Rattle.view_matrix.proofs.Cells.{row-none, row_more, heading-is}
use Rattle.view_matrix.proofs.write_heading.Goals as goal

pub loop-w-init : goal.loop-w-init
loop-w-init c = (refl, added-same (row-none (column_text c.args.q)) (begun c.write_sentence.ensures.written))

-- the words that are counted
pub write_column-requires : goal.write_column-requires
write_column-requires c = (c.requires.0, omega (arith, c.loop-w-test.true, c.words_of-words.ensures.answer.1))

pub loop-w-preserved : goal.loop-w-preserved
loop-w-preserved c =
    let l = c.loop-w in (
      c.write_column.ensures.lent ∙ l.invariant.0,
      added-same (row_more (column_text c.args.q) l.w) (l.invariant.1 then c.write_column.ensures.written),
    )

pub returns-clause-written : goal.returns-clause-written
unfolding sizes
returns-clause-written c =
    let l = c.loop-w in
    let a = c.args in
    let e : l.w ≡ c.words_of-words.result = omega (arith, c.loop-w-test.false) in
    added-same (heading-is a.q a.n a.states _ _ c.words_of-words.result c.column_x-x.ensures.answer.0
    c.row_y-y.ensures.answer.0 c.words_of-words.ensures.answer.0)
    (c.write_sentence.ensures.written then added-same (ap (in_row (column_text a.q)) e) l.invariant.1)

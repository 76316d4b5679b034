use Rattle.std.proofs.Common.{◌≡◌}
use Rattle.laws.proofs.All.{refl, ap, ◌∙◌, arith}
use Rattle.text.proofs.Adding.{added-same, ◌then◌, begun}
use Rattle.view_matrix.specs.Matrix.{state_at, row_text, in_row, axes}
use Rattle.view_matrix.proofs.Cells.{row-none, row_more}
use Rattle.view_matrix.proofs.write_axes.Goals as goal

pub loop-s-init : goal.loop-s-init
loop-s-init c = (refl, added-same (row-none (row_text c.args.n)) (begun c.write_heading.ensures.written))

pub row_y-y-requires : goal.row_y-y-requires
row_y-y-requires c = (c.requires.1, omega (arith, c.loop-s-test.true, c.requires.2))

pub loop-s-preserved : goal.loop-s-preserved
loop-s-preserved c =
    let l = c.loop-s in (
      c.write_sentence.ensures.lent ∙ l.invariant.0,
      added-same (row_more (row_text c.args.n) l.s) (l.invariant.1 then
          added-same (ap (λ y. state_at y l.s) c.row_y-y.ensures.answer.0) c.write_sentence.ensures.written),
    )

pub returns-clause-written : goal.returns-clause-written
unfolding axes
returns-clause-written c =
    let l = c.loop-s in
    let a = c.args in
    let e : l.s ≡ a.states = omega (arith, c.loop-s-test.false) in
    c.write_heading.ensures.written then added-same (ap (in_row (row_text a.n)) e) l.invariant.1

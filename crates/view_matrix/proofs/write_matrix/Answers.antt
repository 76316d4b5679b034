use Rattle.std.proofs.Common.{◌≡◌, ◌*◌, ◌≤◌}
use Rattle.laws.proofs.All.{refl, sym, ap, ◌∙◌, subst, arith}
use Rattle.table.proofs.RowsOf.{ways-small}
use Rattle.text.proofs.Adding.{added-same, ◌then◌, begun}
use Rattle.view_matrix.specs.Matrix.{cell}
use Rattle.view_listing.specs.Edges.{lines_to}
use Rattle.view_listing.proofs.Edges.{edges_few, EdgeAt, edge-good, lines_none, lines_more, line_of}
use Rattle.view_matrix.proofs.Cells.{matrix-is}
use Rattle.view_matrix.proofs.write_matrix.Goals.{In-loop-e}
use Rattle.view_matrix.proofs.write_matrix.Goals as goal

-- where the edge of a turn stands
edge : (c : In-loop-e) → EdgeAt c.args.t.now c.args.n c.loop-e.e
edge c = edge-good c.args.t.now c.args.n c.loop-e.e c.requires.0 c.requires.1 c.loop-e-test.true

pub write_axes-requires : goal.write_axes-requires
write_axes-requires c =
    let good = c.requires.0 in
    (good.short, subst (λ n. n ≤ 16) (sym c.requires.1) (ways-small c.args.t.now.p good.narrow), good.few)

pub overflow_mul-e-end : goal.overflow_mul-e-end
overflow_mul-e-end c = omega (arith, edges_few c.args.t.now c.requires.0 c.args.n c.requires.1)

pub loop-e-init : goal.loop-e-init
loop-e-init c = (refl, added-same (lines_none (cell c.args.n) c.args.t.now) (begun c.write_axes.ensures.written))

pub write_entry-requires : goal.write_entry-requires
write_entry-requires c =
    let e = edge (goal.at.write_entry-requires c).In-loop-e in
    (e.narrow, e.state, e.datum)

pub loop-e-preserved : goal.loop-e-preserved
loop-e-preserved c =
    let l = c.loop-e in
    let n = c.args.n in
    let t = c.args.t.now in (
      c.write_entry.ensures.lent ∙ l.invariant.0,
      added-same (lines_more (cell n) t l.e)
          (l.invariant.1 then added-same (line_of (cell n) t n l.e c.requires.1) c.write_entry.ensures.written),
    )

pub returns-clause-written : goal.returns-clause-written
returns-clause-written c =
    let l = c.loop-e in
    let n = c.args.n in
    let t = c.args.t.now in
    let e : l.e ≡ t.states * n = omega (arith, c.loop-e-test.false) in
    added-same (matrix-is t n c.requires.1)
    (c.write_axes.ensures.written then added-same (ap (lines_to (cell n) t) e) l.invariant.1 then c.put.ensures.written)

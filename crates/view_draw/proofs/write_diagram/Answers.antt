use Rattle.std.proofs.Common.{◌≡◌, ◌+◌, ◌*◌}
use Rattle.laws.proofs.All.{refl, sym, ap, subst, ◌∙◌, mod-lt, arith}
use Rattle.text.specs.Texts.{Added}
use Rattle.text.specs.declared.Writer.{Writer}
use Rattle.text.proofs.Adding.{added-same, ◌then◌, begun}
use Rattle.view_draw.specs.Drawn.{arrows_to, opening}
use Rattle.view_listing.proofs.Edges.{edges_few, EdgeAt, edge-good}
use Rattle.view_draw.proofs.Diagrams.{arrows-none, arrows-open, arrows-same, diagram-is}
use Rattle.view_draw.proofs.write_diagram.Goals.{In-loop-e, then-is_opening, else-is_opening}
use Rattle.view_draw.proofs.write_diagram.Goals as goal

-- where the edge of a turn stands
edge : (c : In-loop-e) → EdgeAt c.args.t.now c.args.n c.loop-e.e
edge c = edge-good c.args.t.now c.args.n c.loop-e.e c.requires.0 c.requires.1 c.loop-e-test.true

pub overflow_mul-e-end : goal.overflow_mul-e-end
overflow_mul-e-end c = omega (arith, edges_few c.args.t.now c.requires.0 c.args.n c.requires.1)

pub loop-e-init : goal.loop-e-init
loop-e-init c = (refl, added-same (arrows-none c.args.t.now) (begun c.put.ensures.written))

pub write_arrow-requires : goal.write_arrow-requires
write_arrow-requires c =
    let e = edge (goal.at.write_arrow-requires c).In-loop-e in
    let good = c.requires.0 in
    (good.short, e.narrow, e.state, mod-lt _ e.some)

pub loop-e-preserved : goal.loop-e-preserved
loop-e-preserved c =
    let l = c.loop-e in
    let n = c.args.n in
    let t = c.args.t.now in
    let b = c.put.new.self in
    let opens = sym c.is_opening.ensures.answer in
    let Kept = λ (w : Writer). (w.out.ghost_name ≡ b.out.ghost_name)
    × Added (arrows_to t (l.e + 1)) b.at b.out.now w.out.now w.at in
    elim c.if-is_opening.branch [
      | then-is_opening w ↦ subst Kept (sym w.to-is) (
        w.write_arrow.ensures.lent ∙ l.invariant.0,
        added-same (arrows-open t n l.e c.requires.1 (opens ∙ w.if-is_opening.true))
            (l.invariant.1 then w.write_arrow.ensures.written),
      )
      | else-is_opening w ↦ subst Kept (sym w.to-is) (
        l.invariant.0,
        added-same (arrows-same t n l.e c.requires.1 (opens ∙ w.if-is_opening.false)) l.invariant.1,
      )
    ]

pub returns-clause-written : goal.returns-clause-written
unfolding opening
returns-clause-written c =
    let l = c.loop-e in
    let t = c.args.t.now in
    let e : l.e ≡ t.states * c.args.n = omega (arith, c.loop-e-test.false) in
    added-same (diagram-is t c.args.n c.requires.1)
    (c.put.ensures.written then added-same (ap (arrows_to t) e) l.invariant.1 then c.put-2.ensures.written)

pub nonzero_div-e : goal.nonzero_div-e
nonzero_div-e c = omega (arith, (edge c).some)

pub nonzero_rem-e : goal.nonzero_rem-e
nonzero_rem-e c = omega (arith, (edge c).some)

pub is_opening-requires : goal.is_opening-requires
is_opening-requires c = let e = edge c in (e.state, e.datum)

pub nonzero_div-e-then-is_opening : goal.nonzero_div-e-then-is_opening
nonzero_div-e-then-is_opening c = omega (arith, (edge (goal.at.nonzero_div-e-then-is_opening c).In-loop-e).some)

pub nonzero_rem-e-then-is_opening : goal.nonzero_rem-e-then-is_opening
nonzero_rem-e-then-is_opening c = omega (arith, (edge (goal.at.nonzero_rem-e-then-is_opening c).In-loop-e).some)

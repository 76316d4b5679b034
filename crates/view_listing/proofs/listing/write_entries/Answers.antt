use Rattle.std.proofs.Common.{◌≡◌, ◌*◌, ◌-◌}
use Rattle.laws.proofs.All.{refl, ap, ◌∙◌, arith}
use Rattle.text.proofs.Adding.{added-same, ◌then◌, begun}
use Rattle.view_listing.specs.Listing.{entry}
use Rattle.view_listing.specs.Edges.{lines_to}
use Rattle.view_listing.proofs.Edges.{edges_few, EdgeAt, edge-good, lines_none, lines_more, line_of}
use Rattle.view_listing.proofs.listing.write_entries.Goals.{In-loop-e}
use Rattle.view_listing.proofs.listing.write_entries.Goals as goal

-- where the edge of a turn stands
edge : (c : In-loop-e) → EdgeAt c.args.code.now c.args.n c.loop-e.e
edge c =
    edge-good c.args.code.now c.args.n c.loop-e.e c.requires.0 c.requires.1 c.loop-e-test.true

pub overflow_mul-e-end : goal.overflow_mul-e-end
overflow_mul-e-end c =
    omega (arith, edges_few c.args.code.now c.requires.0 c.args.n c.requires.1)

pub bounds-code-i : goal.bounds-code-i
bounds-code-i c = omega (arith, (edge (goal.at.bounds-code-i c).In-loop-e).place)

pub bounds-code-i-in-loop-e : goal.bounds-code-i-in-loop-e
bounds-code-i-in-loop-e c = omega (arith, (edge (goal.at.bounds-code-i-in-loop-e c).In-loop-e).place)

pub loop-e-init : goal.loop-e-init
loop-e-init c = (refl, added-same (lines_none entry c.args.code.now) (begun c.put.ensures.written))

pub write_entry-requires : goal.write_entry-requires
write_entry-requires c =
    c.requires.0.short

pub loop-e-preserved : goal.loop-e-preserved
loop-e-preserved c =
    let l = c.loop-e in
    let t = c.args.code.now in (
      c.write_entry.ensures.lent ∙ l.invariant.0,
      added-same (lines_more entry t l.e)
          (l.invariant.1 then added-same (line_of entry t c.args.n l.e c.requires.1) c.write_entry.ensures.written),
    )

pub returns-clause-written : goal.returns-clause-written
returns-clause-written c =
    let l = c.loop-e in
    let t = c.args.code.now in
    let e : l.e ≡ t.states * c.args.n = omega (arith, c.loop-e-test.false) in
    added-same (ap (lines_to entry t) e) (c.put.ensures.written then l.invariant.1)

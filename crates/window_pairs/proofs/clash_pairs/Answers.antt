use Rattle.std.proofs.Common.{◌≡◌, ◌<◌, Some}
use Rattle.laws.proofs.All.{refl, ◌∙◌, arith, length-replicate}
use Rattle.table.specs.Lent.{edges_in}
use Rattle.bitsets.specs.declared.BitSet.{BitSet}
use Rattle.window_pairs.specs.PairSets.{joins_by, clashes_by}
use Rattle.window_pairs.proofs.RowMarks.{mark-none, mark-row, mark-clean}
use Rattle.window_pairs.proofs.clash_pairs.Goals as goal

pub loop-w-init : goal.loop-w-init
loop-w-init c = (
  length-replicate {A = BitSet} 128 c.none-targets.result,
  c.clear.ensures.written.0,
  c.clear.ensures.written.1,
  mark-none _ _,
)

pub mark_clashes-requires : goal.mark_clashes-requires
mark_clashes-requires c =
    let l = c.loop-w in (omega arith, l.invariant.0, l.invariant.3.long ∙ l.invariant.1)

pub loop-w-preserved : goal.loop-w-preserved
loop-w-preserved c =
    let l = c.loop-w in
    let t = edges_in c.args.chains.now.edges in
    let P = c.args.pairs.now in (
      c.mark_clashes.ensures.kept,
      l.invariant.1,
      l.invariant.2,
      mark-row _ (clashes_by t P) l.w l.out l.invariant.3 c.args.chains.now.edges.ways
          (λ u v d. joins_by t P (Some d) u v l.w) _ (λ u v. refl) c.mark_clashes.ensures.written,
    )

pub returns : goal.returns
returns c =
    let l = c.loop-w in
    let k : l.w ≡ 256 = omega arith in
    record {
      written = (
        l.invariant.3.long ∙ l.invariant.1,
        λ u v h.
            mark-clean _ _ l.w 256 l.out l.invariant.3 k u v (omega (arith, c.args.chains.now.edges.fits.few))
            (l.invariant.2 u v h),
      );
    }

use Rattle.std.proofs.Common.{◌≡◌, Some}
use Rattle.laws.proofs.All.{refl, ◌∙◌, arith}
use Rattle.table.specs.Edges.{places}
use Rattle.table.specs.Lent.{edges_in}
use Rattle.window_pairs.specs.PairSets.{joins, joins_by}
use Rattle.window_pairs.proofs.RowMarks.{mark-none, mark-row}
use Rattle.window_pairs.proofs.mark_clashes.Goals as goal

pub loop-datum-init : goal.loop-datum-init
loop-datum-init c = (c.requires.1, mark-none _ _)

pub mark_word-requires : goal.mark_word-requires
mark_word-requires c =
    let l = c.loop-datum in (c.requires.0, l.invariant.0, l.invariant.1.long ∙ c.requires.2)

pub loop-datum-preserved : goal.loop-datum-preserved
loop-datum-preserved c =
    let l = c.loop-datum in
    let a = c.args in
    let t = edges_in a.chains.now.edges in
    let P = a.pairs.now in (
      c.mark_word.ensures.kept,
      mark-row _ (λ u v d. joins_by t P (Some d) u v a.w) l.datum l.out l.invariant.1 (places t)
          (joins t P a.w (Some l.datum)) _ (λ u v. refl) c.mark_word.ensures.written,
    )

pub returns : goal.returns
returns c =
    let l = c.loop-datum in
    let k : l.datum ≡ c.args.chains.now.edges.ways = omega arith in
    record { written = rw k at l.invariant.1; kept = l.invariant.0 }

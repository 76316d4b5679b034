-- The pairs of a clash are gone after as many words as the lookahead exactly when the window works.
use Rattle.laws.proofs.All.{ap, subst, ◌∙◌, length-replicate}
use Rattle.window.specs.Search.{hits}
use Rattle.table.specs.Edges.{rows_of}
use Rattle.table.specs.Lent.{edges_in}
use Rattle.table.proofs.RowsOf.{length-rows, closed-rows}
use Rattle.bitsets.specs.declared.BitSet.{BitSet}
use Rattle.window.specs.Steps.{steps_of, Emptied}
use Rattle.window_test.proofs.SetsOf.{all_of}
use Rattle.window_test.proofs.Stepped.{named}
use Rattle.window.proofs.Lookahead.{works-emptied}
use Rattle.window_test.proofs.works_by.Goals as goal

pub pairs_after-requires : goal.pairs_after-requires
pairs_after-requires c =
    let e = c.args.chains.now.edges in
    let t = edges_in e in (
      c.fill.ensures.written.0,
      length-replicate {A = BitSet} 128 c.none-hits.result,
      all_of (rows_of t) e.states (length-rows t) _ c.fill.ensures.written.1,
    )

pub returns : goal.returns
returns c =
    let t = edges_in c.args.chains.now.edges in
    let g = c.args.chains.now.edges.fits in
    let most = c.args.lookahead in
    let o = c.lookahead_needed.result in
    record {
      answer = c.is_some.ensures ∙ named most o c.lookahead_needed.ensures.within
          ∙ works-emptied (rows_of t) (closed-rows t g) (rw (length-rows t) g.some) c.args.memory most (steps_of most o)
          (subst (λ H. Emptied (rows_of t) H most (steps_of most o))
          (c.clashes.ensures.written.1 ∙ ap (hits (rows_of t)) c.pairs_after.ensures.written)
          c.lookahead_needed.ensures.answer);
    }

use Rattle.std.proofs.Common.{◌≡◌, ◌+◌}
use Rattle.laws.proofs.All.{refl, sym, ap, ◌∙◌, inl, inr, arith}
use Rattle.table.specs.Edges.{rows_of}
use Rattle.table.specs.Lent.{edges_in}
use Rattle.table.proofs.RowsOf.{length-rows, closed-rows}
use Rattle.window.specs.Search.{pasts}
use Rattle.window.specs.Steps.{with_word}
use Rattle.window_pairs.specs.PairSets.{pairs_in}
use Rattle.window_test.proofs.SetsOf.{all_of}
use Rattle.window.proofs.PastSets.{pasts-none, pasts-more}
use Rattle.window.proofs.Leading.{lead-start, lead-done, lead-rest}
use Rattle.window_search.proofs.least.Goals.{After-extend_memory}
use Rattle.window_search.proofs.least.Goals as goal

pub loop-m-init : goal.loop-m-init
loop-m-init c =
    let e = c.args.chains.now.edges in
    let t = edges_in e in (
      omega arith,
      all_of (rows_of t) e.states (length-rows t) _ c.fill.ensures.written.1 ∙ sym (pasts-none (rows_of t)),
      lead-start (rows_of t),
      c.fill.ensures.written.0,
      refl,
      refl,
    )

-- the pairs of one word of memory more
next : (c : After-extend_memory) → let e = c.args.chains.now.edges in
    pairs_in e.states c.extend_memory.new.past ≡ pasts (rows_of (edges_in e)) (c.loop-m.m + 1)
next c =
    let e = c.args.chains.now.edges in
    let t = edges_in e in
    c.extend_memory.ensures.written ∙ ap (with_word (rows_of t)) c.loop-m.invariant.1
    ∙ sym (pasts-more (rows_of t) (closed-rows t e.fits) c.loop-m.m)

pub returns-then-sum_of-m : goal.returns-then-sum_of-m
returns-then-sum_of-m c = record {
  answer = lead-done (rows_of (edges_in c.args.chains.now.edges)) (c.loop-m.m + 1) _ c.try_memory-best.ensures.answer
      (omega arith) (inr (omega arith));
}

pub returns-then-extend_memory : goal.returns-then-extend_memory
returns-then-extend_memory c =
    let e = c.args.chains.now.edges in
    let t = edges_in e in
    record {
      answer = lead-rest (rows_of t) (closed-rows t e.fits) c.loop-m.m _ c.try_memory-best.ensures.answer (omega arith)
          (sym (next (goal.at.returns-then-extend_memory c).After-extend_memory)
          ∙ c.extend_memory.ensures.answer c.if-extend_memory.true ∙ c.loop-m.invariant.1);
    }

pub loop-m-preserved : goal.loop-m-preserved
loop-m-preserved c = (
  omega arith,
  next (goal.at.loop-m-preserved c).After-extend_memory,
  c.try_memory-best.ensures.answer,
  c.extend_memory.ensures.kept.0,
  c.try_memory-best.ensures.kept.0,
  c.extend_memory.ensures.kept.1,
)

pub returns : goal.returns
returns c = record {
  answer = lead-done (rows_of (edges_in c.args.chains.now.edges)) 16 _ c.try_memory.ensures.answer (omega arith)
      (inl (omega arith));
}

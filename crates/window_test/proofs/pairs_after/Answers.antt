use Rattle.std.proofs.Common.{◌+◌, ◌-◌, ◌≡◌}
use Rattle.laws.proofs.All.{sym, ap, ◌∙◌, arith}
use Rattle.window.specs.Search.{pasts}
use Rattle.table.specs.Edges.{rows_of}
use Rattle.table.specs.Lent.{edges_in}
use Rattle.table.proofs.RowsOf.{closed-rows}
use Rattle.window_pairs.specs.PairSets.{pairs_in}
use Rattle.window.specs.Steps.{with_word}
use Rattle.window.proofs.PastSets.{pasts-none, pasts-more, pasts-rest}
use Rattle.window_test.proofs.pairs_after.Goals.{After-extend_memory}
use Rattle.window_test.proofs.pairs_after.Goals as goal

pub loop-turn-init : goal.loop-turn-init
loop-turn-init c = (
  c.requires.2 ∙ sym (pasts-none (rows_of (edges_in c.args.chains.now.edges))),
  c.requires.0,
  c.requires.1,
)

-- the pairs after the turn
stepped : (c : After-extend_memory) → let e = c.args.chains.now.edges in
    with_word (rows_of (edges_in e)) (pairs_in e.states c.loop-turn.past)
    ≡ pasts (rows_of (edges_in e)) (c.loop-turn._turn + 1)
stepped c =
    let e = c.args.chains.now.edges in
    let t = edges_in e in
    let l = c.loop-turn in
    ap (with_word (rows_of t)) l.invariant.0 ∙ sym (pasts-more (rows_of t) (closed-rows t e.fits) l._turn)

pub returns-then-extend_memory : goal.returns-then-extend_memory
returns-then-extend_memory c =
    let r = c.extend_memory.ensures in
    let l = c.loop-turn in
    let e = c.args.chains.now.edges in
    let t = edges_in e in
    let q : l._turn + (c.args.m - l._turn) ≡ c.args.m = omega arith in
    let same = r.answer c.if-extend_memory.true in
    record {
      written = same ∙ l.invariant.0
          ∙ sym (pasts-rest (rows_of t) (closed-rows t e.fits) l._turn
          (sym (r.written ∙ stepped (goal.at.returns-then-extend_memory c).After-extend_memory) ∙ same
          ∙ l.invariant.0)
          (c.args.m - l._turn)) ∙ ap (pasts (rows_of t)) q;
      kept = r.kept;
    }

pub loop-turn-preserved : goal.loop-turn-preserved
loop-turn-preserved c =
    let r = c.extend_memory.ensures in
    (r.written ∙ stepped (goal.at.loop-turn-preserved c).After-extend_memory, r.kept.0, r.kept.1)

pub returns : goal.returns
returns c =
    let l = c.loop-turn in
    let e : l._turn ≡ c.args.m = omega arith in
    record {
      written = l.invariant.0 ∙ ap (pasts (rows_of (edges_in c.args.chains.now.edges))) e;
      kept = (l.invariant.1, l.invariant.2);
    }

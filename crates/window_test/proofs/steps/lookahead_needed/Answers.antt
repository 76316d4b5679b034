use Rattle.std.proofs.Common.{◌≡◌}
use Rattle.laws.proofs.All.{sym, subst, ◌∙◌, arith}
use Rattle.window.specs.Works.{into, reversed}
use Rattle.window.specs.Search.{empty}
use Rattle.window.specs.Steps.{Emptied}
use Rattle.table.specs.Edges.{rows_of}
use Rattle.table.specs.Lent.{edges_in}
use Rattle.table.proofs.RowsOf.{length-rows}
use Rattle.window_pairs.specs.PairSets.{pairs_in}
use Rattle.window_pairs.proofs.SetLaws.{replaced}
use Rattle.window_test.proofs.SetsOf.{empty_of}
use Rattle.window_test.proofs.Stepped.{stepped-more, stepped-stop, stepped-end, stepped-rest}
use Rattle.window_test.proofs.steps.lookahead_needed.Goals.{After-is_empty, After-is_empty-2, After-replace}
use Rattle.window_test.proofs.steps.lookahead_needed.Goals as goal

-- the answer of the test for none, before a turn and after the last
emptied : (c : After-is_empty) → let e = c.args.chains.now.edges in
    c.is_empty.result ≡ empty (rows_of (edges_in e)) (pairs_in e.states c.loop-k.set)
emptied c =
    let e = c.args.chains.now.edges in
    let t = edges_in e in
    c.is_empty.ensures.answer ∙ empty_of (rows_of t) e.states (length-rows t) c.loop-k.set

emptied-end : (c : After-is_empty-2) → let e = c.args.chains.now.edges in
    c.is_empty-2.result ≡ empty (rows_of (edges_in e)) (pairs_in e.states c.loop-k.set)
emptied-end c =
    let e = c.args.chains.now.edges in
    let t = edges_in e in
    c.is_empty-2.ensures.answer ∙ empty_of (rows_of t) e.states (length-rows t) c.loop-k.set

-- one step forward
stepped : (c : After-replace) → let e = c.args.chains.now.edges in
    pairs_in e.states c.replace.new.out
    ≡ into (reversed (rows_of (edges_in e))) (pairs_in e.states c.loop-k.set)
stepped c = c.replace.ensures.written.1 ∙ c.forward.ensures.written.1

pub returns-then-is_empty-clause-answer : goal.returns-then-is_empty-clause-answer
returns-then-is_empty-clause-answer c =
    let l = c.loop-k in
    stepped-stop _ _ _ _ l.set l.k l.invariant.0
    (sym (emptied (goal.at.returns-then-is_empty-clause-answer c).After-is_empty) ∙ c.if-is_empty.true)

pub returns-then-replace-clause-answer : goal.returns-then-replace-clause-answer
returns-then-replace-clause-answer c =
    let l = c.loop-k in
    let r = c.replace.ensures in
    stepped-rest _ _ _ _ l.set l.k _ l.invariant.0
    (sym (emptied (goal.at.returns-then-replace-clause-answer c).After-is_empty) ∙ c.if-is_empty.false)
    (stepped (goal.at.returns-then-replace-clause-answer c).After-replace)
    (replaced _ _ _ _ (r.answer.0 c.if-replace.true) r.written.1)

pub loop-k-preserved : goal.loop-k-preserved
loop-k-preserved c =
    let l = c.loop-k in (
      stepped-more _ _ _ _ l.set l.k _ l.invariant.0 (λ e. omega arith)
          (sym (emptied (goal.at.loop-k-preserved c).After-is_empty) ∙ c.if-is_empty.false)
          (stepped (goal.at.loop-k-preserved c).After-replace),
      c.replace.ensures.written.0,
      c.forward.ensures.written.0,
    )

pub returns-then-is_empty-2-clause-answer : goal.returns-then-is_empty-2-clause-answer
returns-then-is_empty-2-clause-answer c =
    let l = c.loop-k in
    let t = rows_of (edges_in c.args.chains.now.edges) in
    let e : l.k ≡ c.args.most = omega arith in
    subst (λ k. Emptied t (pairs_in c.args.chains.now.edges.states c.args.set.now) c.args.most k) e
    (stepped-stop _ _ _ _ l.set l.k l.invariant.0
    (sym (emptied-end (goal.at.returns-then-is_empty-2-clause-answer c).After-is_empty-2) ∙ c.if-is_empty-2.true))

pub returns-else-is_empty-2-clause-answer : goal.returns-else-is_empty-2-clause-answer
returns-else-is_empty-2-clause-answer c =
    let l = c.loop-k in
    stepped-end _ _ _ _ l.set l.k l.invariant.0 (omega arith)
    (sym (emptied-end (goal.at.returns-else-is_empty-2-clause-answer c).After-is_empty-2) ∙ c.if-is_empty-2.false)

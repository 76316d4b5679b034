-- Each return follows the first of the three tests that fails.
use Rattle.laws.proofs.All.{sym, ◌∙◌, true, length, range, all, arith}
use Rattle.text.proofs.Adding.{added-same}
use Rattle.compile_graph.specs.Weights.{low}
use Rattle.compile_weights.specs.PowerTable.{tabled}
use Rattle.compile_weights.proofs.Passing.{low_small}
use Rattle.compile_weights.proofs.WeightRounds.{sum_is}
use Rattle.trace_stages.specs.FailText.{over_line, zero_line}
use Rattle.trace_stages.proofs.Failed.{all-low, fail-over, fail-zero, fail-short, not-met}
use Rattle.trace_stages.proofs.Failed.{unmet-below, unmet-first}
use Rattle.std.proofs.Common.{◌≡◌, ◌≤◌, rules}
use Rattle.trace_stages.proofs.failures.write_failure.Goals.{In_default, Start}
use Rattle.trace_stages.proofs.failures.write_failure.Goals as goal

wide : (c : Start) → length c.args.b.weights ≡ 16
wide c = search rules

-- the weights are at most cap
lows : (c : In_default) → let b = c.args.b in all (low b.cap b.weights) (range b.k) ≡ true
lows c =
    let b = c.args.b in
    let wide : length b.weights ≡ 16 = search rules in
    let whole : b.k ≤ b.k = omega arith in
    all-low b.n b.cap b.k (tabled b.power.now b.words b.k) b.weights c.requires.0.states wide _
    c.in_default.ensures.answer whole

pub returns-in-Some-clause-written : goal.returns-in-Some-clause-written
unfolding over_line
returns-in-Some-clause-written c =
    let b = c.args.b in
    added-same (fail-over b.n b.cap b.k (tabled b.power.now b.words b.k) b.weights c.requires.0.states
    (wide (goal.at.returns-in-Some-clause-written c).Start) _ c.in-Some.ensures.answer c.in-Some.ensures.there)
    c.write_sentence.ensures.written

pub returns-then-not-is_some-clause-written : goal.returns-then-not-is_some-clause-written
unfolding zero_line
returns-then-not-is_some-clause-written c =
    let b = c.args.b in
    let p = goal.at.returns-then-not-is_some-clause-written c in
    added-same (fail-zero b.n b.cap b.k (tabled b.power.now b.words b.k) b.weights c.requires.0.states
    (wide p.Start) (lows p.In_default) (sym c.is_some.ensures.answer ∙ c.if-not-is_some.true)) c.put.ensures.written

pub first_unmet-requires : goal.first_unmet-requires
first_unmet-requires c =
    let b = c.args.b in (
      search rules,
      c.requires.0.states,
      c.requires.1,
      λ x h. (c.word_counts-count.ensures.answer x h).1,
      low_small b.cap b.k b.weights (lows (goal.at.first_unmet-requires c).In_default) c.requires.3,
    )

pub write_short-requires : goal.write_short-requires
write_short-requires c =
    let b = c.args.b in (
      search rules,
      c.requires.0.states,
      c.in-Some-first_unmet.ensures.there,
      c.requires.2,
      λ x h. (c.word_counts-count.ensures.answer x h).1,
      low_small b.cap b.k b.weights (lows (goal.at.write_short-requires c).In_default) c.requires.3,
    )

pub returns-in-Some-first_unmet-clause-written : goal.returns-in-Some-first_unmet-clause-written
returns-in-Some-first_unmet-clause-written c =
    let b = c.args.b in
    let v = b.weights in
    let few = c.requires.0.states in
    let p = goal.at.returns-in-Some-first_unmet-clause-written c in
    let there = c.in-Some-first_unmet.ensures.there in
    added-same (fail-short b.n b.cap b.k (tabled b.power.now b.words b.k) v few (wide p.Start) (lows p.In_default)
    (sym c.is_some.ensures.answer ∙ c.if-not-is_some.false) _ _ there
    (unmet-first b.power.now c.word_counts-count.result b.words b.k b.n few c.requires.1
    (λ x h. (c.word_counts-count.ensures.answer x h).0) v (wide p.Start) _ c.in-Some-first_unmet.ensures.answer there)
    (sum_is b.power.now c.word_counts-count.result b.words b.k few
    (λ x h. (c.word_counts-count.ensures.answer x h).0) v (wide p.Start) _ there))
    c.write_short.ensures.written

-- the inequality fails at one of the states
pub returns-in_default-first_unmet-clause-written : goal.returns-in_default-first_unmet-clause-written
returns-in_default-first_unmet-clause-written c =
    let b = c.args.b in
    let v = b.weights in
    let few = c.requires.0.states in
    let p = goal.at.returns-in_default-first_unmet-clause-written c in
    absurd (omega (
      arith,
      unmet-below b.power.now c.word_counts-count.result b.words b.k b.n few c.requires.1
          (λ x h. (c.word_counts-count.ensures.answer x h).0) v (wide p.Start) _
          c.in_default-first_unmet.ensures.answer
          (not-met b.n b.cap b.k (tabled b.power.now b.words b.k) v few (wide p.Start) (lows p.In_default)
          (sym c.is_some.ensures.answer ∙ c.if-not-is_some.false) c.requires.4),
    ))

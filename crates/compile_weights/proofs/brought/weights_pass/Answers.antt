-- Each return follows the first of the three tests that fails, or the last of them.
use Rattle.std.proofs.Common.{is_some, not, ◌≡◌, ◌&&◌, rules}
use Rattle.laws.proofs.All.{refl, sym, ap, ap₂, ◌∙◌, Bool, true, false, length, range, all, any, take}
use Rattle.compile_graph.specs.Weights.{low, weighty, meets}
use Rattle.compile_weights.specs.PowerTable.{tabled}
use Rattle.compile_weights.proofs.Passing.{passing-parts, low-by, low_small, met-by}
use Rattle.compile_weights.proofs.brought.weights_pass.Goals.{After-first_over, Start}
use Rattle.compile_weights.proofs.brought.weights_pass.Goals as goal

wide : (c : Start) → length c.args.v ≡ 16
wide c = search rules

not_not : (b : Bool) → not (not b) ≡ b
not_not true = refl
not_not false = refl

-- the weights are at most cap where none over it is found
lows : (c : After-first_over) → let a = c.args in all (low a.cap a.v) (range a.k) ≡ not (is_some c.first_over.result)
lows c =
    let a = c.args in low-by a.cap a.k a.v c.first_over.result c.first_over.ensures.answer c.first_over.ensures.there

pub returns-then-is_some : goal.returns-then-is_some
returns-then-is_some c =
    let a = c.args in
    let m = all (meets a.n (tabled a.power.now a.words a.k) (take a.k a.v)) (range a.k) in
    record {
      answer = sym (passing-parts a.n a.cap a.k (tabled a.power.now a.words a.k) a.v c.requires.0.states
          (wide (goal.at.returns-then-is_some c).Start)
          ∙ ap (λ b. b && (any (weighty a.v) (range a.k) && m))
          (lows (goal.at.returns-then-is_some c).After-first_over ∙ ap not (sym c.is_some.ensures ∙ c.if-is_some.true)));
    }

pub first_unmet-requires : goal.first_unmet-requires
first_unmet-requires c =
    let a = c.args in (
      search rules,
      c.requires.0.states,
      c.requires.1,
      λ x h. (c.word_counts-count.ensures.answer x h).1,
      low_small a.cap a.k a.v
          (lows (goal.at.first_unmet-requires c).After-first_over ∙ ap not (sym c.is_some.ensures ∙ c.if-is_some.false))
          c.requires.2,
    )

pub returns-then-not-is_some : goal.returns-then-not-is_some
returns-then-not-is_some c =
    let a = c.args in
    let m = all (meets a.n (tabled a.power.now a.words a.k) (take a.k a.v)) (range a.k) in
    record {
      answer = sym (passing-parts a.n a.cap a.k (tabled a.power.now a.words a.k) a.v c.requires.0.states
          (wide (goal.at.returns-then-not-is_some c).Start)
          ∙ ap₂ (λ b d. b && (d && m))
          (lows (goal.at.returns-then-not-is_some c).After-first_over
          ∙ ap not (sym c.is_some.ensures ∙ c.if-is_some.false))
          (sym c.is_some-2.ensures.answer ∙ c.if-not-is_some.true));
    }

pub returns : goal.returns
returns c =
    let a = c.args in
    let m = all (meets a.n (tabled a.power.now a.words a.k) (take a.k a.v)) (range a.k) in
    let e = met-by a.power.now c.word_counts-count.result a.words a.k a.n c.requires.0.states c.requires.1
    (λ x h. (c.word_counts-count.ensures.answer x h).0) a.v (wide (goal.at.returns c).Start)
    c.first_unmet.result c.first_unmet.ensures.answer c.first_unmet.ensures.there in
    record {
      answer = sym (passing-parts a.n a.cap a.k (tabled a.power.now a.words a.k) a.v c.requires.0.states
          (wide (goal.at.returns c).Start)
          ∙ ap₂ (λ b d. b && (d && m))
          (lows (goal.at.returns c).After-first_over ∙ ap not (sym c.is_some.ensures ∙ c.if-is_some.false))
          (sym c.is_some-2.ensures.answer ∙ c.if-not-is_some.false)
          ∙ e ∙ ap not c.is_none.ensures ∙ not_not c.is_none.result);
    }

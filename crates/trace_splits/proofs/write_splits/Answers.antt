use Rattle.laws.proofs.All.{refl, sym, ◌∙◌}
use Rattle.text.proofs.Adding.{begun, ◌then◌}
use Rattle.trace_splits.specs.SplitText.{graph_line}
use Rattle.trace_splits.proofs.SplitTexts.{told-start, told-end, told-ripe, told-crowded, told_more, told-less}
use Rattle.trace_splits.proofs.write_splits.Goals as goal

pub loop-h-init : goal.loop-h-init
loop-h-init c = (refl, told-start c.requires.1 c.args.q (begun c.write_sentence.ensures.written))

pub write_split-requires : goal.write_split-requires
write_split-requires c = (
  c.requires.0,
  told-ripe c.requires.1 c.loop-h.invariant.1 (sym c.is_unfinished.ensures.answer ∙ c.loop-h-test.true),
)

pub split-requires : goal.split-requires
split-requires c =
    told-ripe c.requires.1 c.loop-h.invariant.1 (sym c.is_unfinished.ensures.answer ∙ c.loop-h-test.true)

pub returns-in_default-clause-written : goal.returns-in_default-clause-written
unfolding graph_line
returns-in_default-clause-written c =
    let u = sym c.is_unfinished.ensures.answer ∙ c.loop-h-test.true in
    c.write_sentence.ensures.written then
    (told-crowded c.requires.1 c.loop-h.invariant.1 u c.write_split.ensures.written c.in_default.ensures.answer)

pub loop-h-smaller : goal.loop-h-smaller
loop-h-smaller c =
    let u = sym c.is_unfinished.ensures.answer ∙ c.loop-h-test.true in
    told-less c.requires.1 c.loop-h.invariant.1 u c.write_split.ensures.written c.in-Some.ensures.answer

pub loop-h-preserved : goal.loop-h-preserved
loop-h-preserved c =
    let u = sym c.is_unfinished.ensures.answer ∙ c.loop-h-test.true in (
      c.write_split.ensures.lent ∙ c.loop-h.invariant.0,
      told_more c.requires.1 c.loop-h.invariant.1 u c.write_split.ensures.written c.in-Some.ensures.answer,
    )

pub returns-clause-written : goal.returns-clause-written
unfolding graph_line
returns-clause-written c =
    let u = sym c.is_unfinished.ensures.answer ∙ c.loop-h-test.false in
    c.write_sentence.ensures.written then (told-end c.requires.1 c.loop-h.invariant.1 u)

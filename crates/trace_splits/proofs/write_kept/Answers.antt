use Rattle.laws.proofs.All.{refl, ◌∙◌, arith}
use Rattle.text.proofs.Adding.{added_more, begun}
use Rattle.trace_splits.specs.SplitText.{kept_text}
use Rattle.trace_splits.proofs.Kept.{keys-more, kept-told}
use Rattle.trace_splits.proofs.write_kept.Goals as goal

pub loop-key-init : goal.loop-key-init
loop-key-init c = (refl, begun c.write_sentence.ensures.written)

pub loop-key-preserved : goal.loop-key-preserved
loop-key-preserved c =
    let l = c.loop-key in
    let a = c.args in (
      c.write_edge.ensures.lent ∙ l.invariant.0,
      keys-more a.q a.kept.now l.key-index l.invariant.1 c.write_edge.ensures.written,
    )

pub returns-clause-written : goal.returns-clause-written
unfolding kept_text
returns-clause-written c =
    let l = c.loop-key in
    let a = c.args in
    added_more c.write_sentence.ensures.written
    (kept-told a.q a.state a.kept.now l.key-index (omega arith) (omega arith) l.invariant.1)

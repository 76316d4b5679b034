use Rattle.std.proofs.Common.{◌≡◌, ◌++◌, ◌+◌, ◌<◌}
use Rattle.laws.proofs.All.{refl, sym, ap, subst, ◌∙◌, arith}
use Rattle.table.specs.Value.{word_at, next_at}
use Rattle.text.specs.Texts.{Added}
use Rattle.text.specs.declared.Writer.{Writer}
use Rattle.text.specs.Words.{binary}
use Rattle.text.proofs.Adding.{added-same, ◌then◌, begun}
use Rattle.view_draw.specs.Drawn.{others, arrow_head}
use Rattle.view_draw.proofs.Diagrams.{others-none, others-joined, others_apart}
use Rattle.view_draw.proofs.write_arrow.Goals.{then-is_joined, else-is_joined}
use Rattle.view_draw.proofs.write_arrow.Goals as goal

pub loop-j-init : goal.loop-j-init
loop-j-init c =
    let a = c.args in
    let t = a.code.now in (
      refl,
      added-same (others-none t.q (word_at t a.s) (next_at t a.s) a.d (a.d + 1) (omega arith))
          (begun c.write_label.ensures.written),
    )

pub loop-j-preserved : goal.loop-j-preserved
loop-j-preserved c =
    let l = c.loop-j in
    let a = c.args in
    let t = a.code.now in
    let word = word_at t a.s in
    let next = next_at t a.s in
    let b = c.write_label.new.to in
    let same = sym c.is_joined.ensures.answer in
    let past : a.d < l.j = omega (arith, l.auto.j) in
    let Kept = λ (w : Writer). (w.out.ghost_name ≡ b.out.ghost_name)
    × Added (others t.q word next a.d (l.j + 1)) b.at b.out.now w.out.now w.at in
    elim c.if-is_joined.branch [
      | then-is_joined w ↦ subst Kept (sym w.to-is) (
        w.write_label-then-is_joined.ensures.lent ∙ l.invariant.0,
        added-same (others-joined t.q word next a.d l.j past (same ∙ w.if-is_joined.true))
            (l.invariant.1 then w.write_label-then-is_joined.ensures.written),
      )
      | else-is_joined w ↦ subst Kept (sym w.to-is) (
        l.invariant.0,
        added-same (others_apart t.q word next a.d l.j (same ∙ w.if-is_joined.false)) l.invariant.1,
      )
    ]

pub returns-clause-written : goal.returns-clause-written
returns-clause-written c =
    let l = c.loop-j in
    let a = c.args in
    let t = a.code.now in
    let e : l.j ≡ a.n = omega (arith, c.loop-j-test.false) in
    added-same (ap (λ u. arrow_head a.s u a.d ++ binary t.q (word_at t a.s a.d)) c.next_at-t.ensures.answer)
    c.write_label.ensures.written
    then added-same (ap (others t.q (word_at t a.s) (next_at t a.s) a.d) e) l.invariant.1
    then c.put.ensures.written

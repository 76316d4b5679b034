use Rattle.std.proofs.Common.{◌≡◌}
use Rattle.laws.proofs.All.{ap, ◌∙◌, arith}
use Rattle.view_refusals.specs.TextLines.{rest}
use Rattle.view_refusals.proofs.TextLines.{rest-next}
use Rattle.view_refusals.proofs.lines.line_start.Goals as goal

pub loop-i-preserved : goal.loop-i-preserved
loop-i-preserved c =
    let l = c.loop-i in
    let a = c.args in (
      c.behind-from.ensures.answer.1,
      rest-next a.text.now l._i l.from c.line_end-end.result c.behind-from.result l.invariant.1
          c.line_end-end.ensures.answer.0
          c.behind-from.ensures.answer.0,
    )

pub returns : goal.returns
returns c =
    let l = c.loop-i in
    let a = c.args in
    let e : l._i ≡ a.n = omega arith in
    record { answer = (l.invariant.1 ∙ ap (λ m. rest m a.text.now) e, l.invariant.0) }

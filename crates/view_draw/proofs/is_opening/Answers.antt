use Rattle.std.proofs.Common.{◌≡◌}
use Rattle.laws.proofs.All.{sym, ap, ◌∙◌, false, arith}
use Rattle.table.specs.Marks.{some}
use Rattle.table.specs.Value.{next_at}
use Rattle.table.proofs.Marks.{none-start, none_more}
use Rattle.view_draw.specs.Drawn.{joined}
use Rattle.view_draw.proofs.Diagrams.{opens-so, opens_not}
use Rattle.view_draw.proofs.is_opening.Goals as goal

pub loop-j-init : goal.loop-j-init
loop-j-init c = let a = c.args in none-start (joined (next_at a.code.now a.s) a.d)

pub returns-then-is_joined : goal.returns-then-is_joined
returns-then-is_joined c =
    let a = c.args in
    record {
      answer = opens_not (next_at a.code.now a.s) a.d c.loop-j.j c.loop-j-test.true
          (sym c.is_joined.ensures.answer ∙ c.if-is_joined.true);
    }

pub loop-j-preserved : goal.loop-j-preserved
loop-j-preserved c =
    let a = c.args in
    let l = c.loop-j in
    none_more (joined (next_at a.code.now a.s) a.d) l.j l.invariant
    (sym c.is_joined.ensures.answer ∙ c.if-is_joined.false)

pub returns : goal.returns
returns c =
    let l = c.loop-j in
    let a = c.args in
    let e : a.d ≡ l.j = omega (arith, c.loop-j-test.false) in
    let next = next_at a.code.now a.s in
    record { answer = opens-so next a.d (ap (some (joined next a.d)) e ∙ l.invariant) }

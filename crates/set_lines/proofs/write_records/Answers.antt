use Rattle.std.proofs.Common.{◌≡◌}
use Rattle.laws.proofs.All.{refl, ap, ◌∙◌, arith}
use Rattle.text.proofs.Adding.{added-same, ◌then◌, begun}
use Rattle.set_lines.specs.SetText.{lines_to}
use Rattle.set_lines.proofs.SetText.{no_lines, lines_more}
use Rattle.set_lines.proofs.write_records.Goals as goal

pub loop-i-init : goal.loop-i-init
loop-i-init c = (refl, added-same (no_lines c.args.set.now) (begun c.put.ensures.written))

pub loop-i-preserved : goal.loop-i-preserved
loop-i-preserved c =
    let l = c.loop-i in (
      c.write_record.ensures.lent ∙ l.invariant.0,
      added-same (lines_more c.args.set.now l.i) (l.invariant.1 then c.write_record.ensures.written),
    )

pub returns-clause-written : goal.returns-clause-written
returns-clause-written c =
    let l = c.loop-i in
    let a = c.args in
    let e : l.i ≡ a.n = omega (arith, c.loop-i-test.false) in
    added-same (ap (lines_to a.set.now) e) (c.put.ensures.written then l.invariant.1)

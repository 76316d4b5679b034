use Rattle.std.proofs.Common.{◌≤◌}
use Rattle.laws.proofs.All.{sym, ◌∙◌, arith}
use Rattle.codec_steps.specs.BlockParts.{no_place}
use Rattle.codec_block.proofs.Scans.{scan-yes, scan-no, scan-end, into-scan}
use Rattle.codec_block.proofs.entries.first_into.Goals as goal

pub returns-then-enters : goal.returns-then-enters
returns-then-enters c =
    let a = c.args in
    record {
      answer = sym (into-scan a.word.now a.next.now a.w a.ahead a.e a.end ∙ c.loop-j.invariant
          ∙ scan-yes _ no_place _ _ c.loop-j-test.true _ c.enters.ensures.answer c.if-enters.true);
      below = omega (arith, c.loop-j-test.true, c.requires.0);
    }

pub loop-j-preserved : goal.loop-j-preserved
loop-j-preserved c =
    c.loop-j.invariant ∙ scan-no _ no_place _ _ c.loop-j-test.true _ c.enters.ensures.answer c.if-enters.false

pub returns : goal.returns
returns c =
    let a = c.args in
    let ends : a.end ≤ c.loop-j.j = omega (arith, c.loop-j-test.false) in
    record {
      answer = sym (into-scan a.word.now a.next.now a.w a.ahead a.e a.end ∙ c.loop-j.invariant
          ∙ scan-end _ no_place _ _ ends);
      below = tt;
    }

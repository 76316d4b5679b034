use Rattle.std.proofs.Common.{◌+◌, ◌≤◌}
use Rattle.laws.proofs.All.{sym, ◌∙◌, arith, get_or}
use Rattle.codec_steps.specs.BlockParts.{no_place}
use Rattle.codec_steps.proofs.GroupTurns.{room-held}
use Rattle.codec_block.proofs.Scans.{scan-yes, scan-no, scan-end, group-scan}
use Rattle.codec_block.proofs.blocks.first_group.Goals as goal

pub joins-requires : goal.joins-requires
joins-requires c =
    let g = c.args.groups.now in
    room-held g.start.now g.first.now g.sets.now g.grouped c.args.w c.loop-k.k
    (omega arith, omega arith, c.loop-k-test.true)

pub returns-then-joins : goal.returns-then-joins
returns-then-joins c =
    let a = c.args in
    let g = c.args.groups.now in
    record {
      answer = sym (group-scan _ _ _ a.past a.w a.ahead ∙ c.loop-k.invariant
          ∙ scan-yes _ no_place _ _ c.loop-k-test.true _ c.joins.ensures.answer c.if-joins.true);
      below = (room-held g.start.now g.first.now g.sets.now g.grouped c.args.w c.loop-k.k
          (omega arith, omega arith, c.loop-k-test.true)).0;
      byte = omega arith;
    }

pub loop-k-preserved : goal.loop-k-preserved
loop-k-preserved c =
    c.loop-k.invariant ∙ scan-no _ no_place _ _ c.loop-k-test.true _ c.joins.ensures.answer c.if-joins.false

pub returns : goal.returns
returns c =
    let a = c.args in
    let ends : get_or a.groups.now.start.now (a.w + 1) 0 ≤ c.loop-k.k = omega (arith, c.loop-k-test.false) in
    record {
      answer = sym (group-scan _ _ _ a.past a.w a.ahead ∙ c.loop-k.invariant
          ∙ scan-end _ no_place _ _ ends);
      below = tt;
      byte = omega arith;
    }

use Rattle.laws.proofs.All.{refl, arith}
use Rattle.codec_steps.proofs.SetSteps.{back-bits}
use Rattle.codec_steps.proofs.GroupTurns.{join-start, join-next, join-done, room-held}
use Rattle.codec_steps.proofs.back_by.Goals as goal

pub loop-k-init : goal.loop-k-init
loop-k-init c = join-start _ _ _ _ c.none-out.result refl c.none-out.ensures.answer

pub back_group-out-requires : goal.back_group-out-requires
back_group-out-requires c =
    let g = c.args.groups.now in
    room-held g.start.now g.first.now g.sets.now g.grouped c.args.w c.loop-k.k
    (omega arith, c.loop-k.invariant.low, c.loop-k-test.true)

pub loop-k-preserved : goal.loop-k-preserved
loop-k-preserved c =
    let l = c.loop-k in
    join-next _ _ _ l.k l.out l.invariant _ c.loop-k-test.true c.back_group-out.ensures.answer

pub returns : goal.returns
returns c =
    let l = c.loop-k in
    let g = c.args.groups.now in
    record {
      answer = λ t h.
          back-bits t g.start.now g.first.now g.sets.now h c.args.set l.out c.args.w
          (omega arith) (join-done _ _ _ l.k l.out l.invariant (omega (arith, c.loop-k-test.false)));
    }

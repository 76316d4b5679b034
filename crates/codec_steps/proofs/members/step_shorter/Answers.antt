-- The members are walked by their groups, or the groups of the word.
use Rattle.laws.proofs.All.{refl, arith}
use Rattle.codec_steps.proofs.Shorter.{room-short, short-step}
use Rattle.codec_steps.proofs.members.step_shorter.Goals as goal

pub step_members-requires : goal.step_members-requires
step_members-requires c =
    let g = c.args.groups.now in
    let (a, b) = room-short g.start.now g.first.now g.sets.now g.grouped c.args.w (omega arith) c.requires _ _ refl
    refl _ c.targets_at-have.ensures.answer (c.is_shorter.ensures.answer c.if-is_shorter.true) c.args.set _
    c.meet-members.ensures.answer in
    (a, λ s h q. (b s h q).0)

pub returns-then-is_shorter : goal.returns-then-is_shorter
returns-then-is_shorter c =
    let g = c.args.groups.now in
    record {
      answer = λ t h.
          short-step t g.start.now g.first.now g.sets.now h c.args.w (omega arith) c.requires _ _ refl refl _
          c.targets_at-have.ensures.answer (c.is_shorter.ensures.answer c.if-is_shorter.true) c.args.set _
          c.meet-members.ensures.answer _ c.step_members.ensures.answer;
    }

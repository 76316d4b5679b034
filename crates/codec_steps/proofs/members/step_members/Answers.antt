use Rattle.std.proofs.Common.{◌||◌}
use Rattle.laws.proofs.All.{ap, ◌∙◌, arith}
use Rattle.bitsets.specs.BitSets.{value_of, holds}
use Rattle.bitsets.proofs.Places.{places-each}
use Rattle.bitsets.proofs.Members.{walk_start, walk-in, walk-next}
use Rattle.codec_groups.specs.Groups.{targets_at}
use Rattle.codec_steps.proofs.members.step_members.Goals as goal

pub loop-s-init : goal.loop-s-init
loop-s-init c = walk_start _ _ _ _ (places-each 128 (value_of c.args.members)) c.none-out.ensures.answer

pub targets_at-requires : goal.targets_at-requires
targets_at-requires c =
    let (l, h) = walk-in _ _ _ _ _ c.loop-s.invariant _ _ c.in-Some.ensures.answer in
    omega (arith, c.group_of.ensures.answer, c.requires.1 c.in-Some.s l h)

pub loop-s-preserved : goal.loop-s-preserved
loop-s-preserved c =
    let l = c.loop-s in
    let a = c.args in
    walk-next _ _ _ _ _ l.invariant _ _ _ c.in-Some.ensures.answer
    (λ u. c.join-out.ensures.answer u ∙ ap (λ S. holds l.out u || holds S u) c.targets_at.ensures.answer
    ∙ ap (λ k. holds l.out u || holds (targets_at a.sets.now k) u) c.group_of.ensures.answer)

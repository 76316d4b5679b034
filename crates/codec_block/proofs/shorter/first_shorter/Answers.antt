-- The members are walked by their groups, or the groups of the word.
use Rattle.std.proofs.Math.Logic.{∥∥₁_elim}
use Rattle.std.proofs.Props.{props}
use Rattle.std.proofs.Common.{◌<◌}
use Rattle.laws.proofs.All.{refl, ◌∙◌, arith}
use Rattle.codec_steps.proofs.Shorter.{short-sources, room-short}
use Rattle.codec_block.proofs.MemberSearch.{member-first}
use Rattle.codec_block.proofs.shorter.first_shorter.Goals as goal

pub first_member-requires : goal.first_member-requires
first_member-requires c =
    let g = c.args.groups.now in
    room-short g.start.now g.first.now g.sets.now g.grouped c.args.w (omega arith) c.requires _ _ refl refl _
    c.targets_at-have.ensures.answer (c.is_shorter.ensures.answer c.if-is_shorter.true) c.args.past _
    c.meet-members.ensures.answer

pub returns-then-is_shorter-clause-answer : goal.returns-then-is_shorter-clause-answer
returns-then-is_shorter-clause-answer c =
    let a = c.args in
    let g = a.groups.now in
    let w : a.w < 256 = omega arith in
    c.first_member.ensures.answer
    ∙ ∥∥₁_elim g.grouped (hlevel props) (λ x.
    member-first g.start.now g.first.now g.sets.now a.past _ _ a.ahead a.w _ _ refl refl
    (short-sources x.0 g.start.now g.first.now g.sets.now x.1 a.w w c.requires _ _ refl refl _
    c.targets_at-have.ensures.answer (c.is_shorter.ensures.answer c.if-is_shorter.true))
    c.meet-members.ensures.answer)

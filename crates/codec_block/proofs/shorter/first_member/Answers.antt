use Rattle.std.proofs.Common.{◌≡◌, ◌<◌}
use Rattle.laws.proofs.All.{ap, ◌∙◌, arith, length}
use Rattle.bitsets.specs.BitSets.{value_of, meeting}
use Rattle.bitsets.proofs.Places.{places-each}
use Rattle.codec_groups.specs.Groups.{group_of}
use Rattle.codec_steps.specs.BlockParts.{into_at}
use Rattle.codec_block.proofs.MemberSearch.{sought-start, sought-none, sought-in, sought-yes, sought-no}
use Rattle.codec_block.proofs.MemberSearch.{member-sought}
use Rattle.codec_block.proofs.shorter.first_member.Goals.{In-Some, After-meets}
use Rattle.codec_block.proofs.shorter.first_member.Goals as goal

pub loop-s-init : goal.loop-s-init
loop-s-init c = sought-start _ _ _ _ _ (places-each 128 (value_of c.args.members))

-- the group of the member in hand stands in the arrays
placed : (i : In-Some)
    → let g = group_of i.args.at i.args.have i.in-Some.s in
    (g < length i.args.sets.now) × (g < 2048)
placed i =
    let (l, h) = sought-in _ _ _ _ _ _ i.loop-s.invariant _ _ i.in-Some.ensures.answer in
    i.requires.1 i.in-Some.s l h

pub targets_at-requires : goal.targets_at-requires
targets_at-requires c =
    omega (arith, c.group_of-k.ensures.answer, (placed (goal.at.targets_at-requires c).In-Some).0)

-- what the test of the group says
into : (c : After-meets)
    → let a = c.args in
    c.meets.result ≡ into_at a.sets.now a.ahead c.group_of-k.result
into c =
    let a = c.args in
    c.meets.ensures.answer ∙ ap (λ S. meeting 128 S a.ahead) c.targets_at.ensures.answer

pub returns-then-meets : goal.returns-then-meets
returns-then-meets c =
    let a = c.args in
    record {
      answer = sought-yes _ _ _ _ _ _ c.loop-s.invariant _ _ c.in-Some.ensures.answer _ c.group_of-k.ensures.answer _
          (into (goal.at.returns-then-meets c).After-meets) c.if-meets.true
          ∙ member-sought a.sets.now a.at a.have a.members a.ahead;
      below = omega (arith, c.group_of-k.ensures.answer, (placed (goal.at.returns-then-meets c).In-Some).1);
    }

pub loop-s-preserved : goal.loop-s-preserved
loop-s-preserved c =
    sought-no _ _ _ _ _ _ c.loop-s.invariant _ _ c.in-Some.ensures.answer _ c.group_of-k.ensures.answer _
    (into (goal.at.loop-s-preserved c).After-meets) c.if-meets.false

pub returns : goal.returns
returns c =
    let a = c.args in
    record {
      answer = sought-none _ _ _ _ _ _ c.loop-s.invariant c.in_default.ensures.answer.0
          ∙ member-sought a.sets.now a.at a.have a.members a.ahead;
      below = tt;
    }

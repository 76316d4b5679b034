use Rattle.std.proofs.Common.{◌≡◌, ◌-◌, ◌<◌}
use Rattle.laws.proofs.All.{sym, arith, T, length, get_or, refl, subst}
use Rattle.bitsets.specs.BitSets.{holds, members_of}
use Rattle.bitsets.proofs.Sets.{members-hold}
use Rattle.codec_groups.proofs.Puts.{putting-start, putting-at, putting-more, putting-done}
use Rattle.codec_groups.proofs.laying.put_groups.Goals.{In-Some}
use Rattle.codec_groups.proofs.laying.put_groups.Goals as goal

pub loop-s-init : goal.loop-s-init
loop-s-init c = putting-start _ _ _ _ _ _ c.requires.2

-- the state in hand by its place in the set
place : (i : In-Some)
    → let M = members_of i.args.have in
    let j = i.loop-s.k - i.args.at in
    (j < length M) × (i.in-Some.s ≡ get_or M j 0)
place i = putting-at _ _ _ _ _ _ _ _ _ _ i.loop-s.invariant _ _ i.in-Some.ensures.answer

-- it is in the set
held : (i : In-Some) → T (holds i.args.have i.in-Some.s)
held i =
    subst (λ x. T (holds i.args.have x)) (sym (place i).1)
    (members-hold i.args.have (i.loop-s.k - i.args.at) (place i).0).1

room : (i : In-Some) → i.loop-s.k < 2048
room i = omega (arith, (place i).0, i.loop-s.invariant.begun, i.requires.0)

pub put_group-requires : goal.put_group-requires
put_group-requires c =
    let l = c.loop-s in
    let i = (goal.at.put_group-requires c).In-Some in (
      room i,
      omega (arith, c.first_edge.ensures.answer, c.requires.1 c.in-Some.s c.in-Some.ensures.below (held i)),
      l.invariant.first_long,
      omega (arith, l.invariant.sets_long, (place i).0, l.invariant.begun, c.requires.3),
    )

pub loop-s-preserved : goal.loop-s-preserved
loop-s-preserved c =
    putting-more _ _ _ _ _ _ _ _ _ _ c.loop-s.invariant _ _ c.in-Some.ensures.answer _ _ _ _
    (room (goal.at.loop-s-preserved c).In-Some)
    c.first_edge.ensures.answer refl c.put_group.ensures.written

pub returns : goal.returns
returns c = record { written = putting-done _ _ _ _ _ _ _ _ _ _ c.loop-s.invariant c.in_default.ensures.answer.0 }

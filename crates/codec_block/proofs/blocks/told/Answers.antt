-- The first edge of the group, or the mark.
use Rattle.std.proofs.Math.Logic.{∥∥₁_elim}
use Rattle.std.proofs.Props.{props}
use Rattle.std.proofs.Common.{◌≡◌, ◌<◌, unwrap_or, IfSome}
use Rattle.laws.proofs.All.{sym, ap, subst, ◌∙◌, [], arith, get_or}
use Rattle.table.specs.Edges.{rows_of}
use Rattle.bitsets.specs.BitSets.{yes_no}
use Rattle.codec_groups.specs.Groups.{Grouped}
use Rattle.codec_groups.specs.Lent.{lent_edges}
use Rattle.codec_steps.specs.Reading.{readings, mark_for}
use Rattle.codec_steps.specs.BlockParts.{first_group}
use Rattle.codec_block.proofs.GroupReading.{end-small, entry_next, found_within, found-datum, entry-found, found_none}
use Rattle.codec_block.proofs.blocks.told.Goals.{In-Some, in-Some+in_default-first_into, in_default}
use Rattle.codec_block.proofs.blocks.told.Goals as goal

-- the group that was found
group-is : (c : In-Some) → let g = c.args.grouped.now.groups in
    c.in-Some.k ≡ first_group g.start.now g.first.now g.sets.now c.args.past c.args.w c.args.ahead
group-is c = sym (ap (λ o. unwrap_or o 2048) c.in-Some.is) ∙ c.requires.0

group-below : (c : In-Some) → c.in-Some.k < 2048
group-below c = subst (λ o. IfSome o (λ k. k < 2048)) c.in-Some.is c.requires.1

pub first_into-requires : goal.first_into-requires
first_into-requires c =
    let a = c.args in
    let g = a.grouped.now.groups in
    let t = lent_edges a.grouped.now in
    let k = c.in-Some.k in
    let w : a.w < 256 = omega arith in
    let e = group-is (goal.at.first_into-requires c).In-Some in
    let b = group-below (goal.at.first_into-requires c).In-Some in
    ∥∥₁_elim a.grouped.now.laid (hlevel props) (λ x.
    let i = found_within t g.start.now g.first.now g.sets.now x a.past a.ahead a.w w k e b in (
      end-small t g.start.now g.first.now g.sets.now x a.past a.ahead a.w w k i,
      entry_next t g.start.now g.first.now g.sets.now x a.past a.ahead a.w w k i,
    ))

pub returns-in-Some-first_into : goal.returns-in-Some-first_into
returns-in-Some-first_into c =
    let a = c.args in
    let g = a.grouped.now.groups in
    let t = lent_edges a.grouped.now in
    let k = c.in-Some.k in
    let w : a.w < 256 = omega arith in
    let e = group-is (goal.at.returns-in-Some-first_into c).In-Some in
    let b = group-below (goal.at.returns-in-Some-first_into c).In-Some in
    record {
      answer = ∥∥₁_elim a.grouped.now.laid (hlevel props) (λ x.
          found-datum t g.start.now g.first.now g.sets.now x a.past a.ahead a.w w k e b _
          (sym (ap (λ o. unwrap_or o 2048) c.in-Some-first_into.is) ∙ c.first_into.ensures.answer) _);
    }

pub returns : goal.returns
returns c =
    let a = c.args in
    let g = a.grouped.now.groups in
    let t = lent_edges a.grouped.now in
    let w : a.w < 256 = omega arith in
    let none : (x : Grouped t g.start.now g.first.now g.sets.now)
    → readings (rows_of t) (yes_no t.states a.past) a.w (yes_no t.states a.ahead) ≡ [] = λ x.
    elim c.match-group.branch [
      | in-Some+in_default-first_into v ↦
          let e : v.in-Some.k ≡ first_group g.start.now g.first.now g.sets.now a.past a.w a.ahead =
          sym (ap (λ o. unwrap_or o 2048) v.in-Some.is) ∙ c.requires.0 in
          let b : v.in-Some.k < 2048 = subst (λ o. IfSome o (λ k. k < 2048)) v.in-Some.is c.requires.1 in
          absurd (omega (
            arith,
            ap (λ o. unwrap_or o 2048) v.in_default-first_into.is,
            v.first_into.ensures.answer,
            entry-found t g.start.now g.first.now g.sets.now x a.past a.ahead a.w w v.in-Some.k e b,
          ))
      | in_default v ↦
          found_none t g.start.now g.first.now g.sets.now x a.past a.ahead a.w w 2048
          (sym (ap (λ o. unwrap_or o 2048) v.in_default.is) ∙ c.requires.0) (omega arith)
    ] in
    record {
      answer = ∥∥₁_elim a.grouped.now.laid (hlevel props) (λ x.
          c.mark_for.ensures.answer t x
          ∙ sym (ap (λ l. get_or l 0 (mark_for (rows_of t) (yes_no t.states a.past) a.w)) (none x)));
    }

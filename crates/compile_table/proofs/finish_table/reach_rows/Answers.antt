use Rattle.laws.proofs.All.{ap, ◌∙◌, true, false, arith, eqb, length, replicate, length-replicate}
use Rattle.laws.proofs.All.{length-set, member, put-member, member-blank}
use Rattle.compile_table.proofs.Closure.{forward-start, forward-step, forward-end}
use Rattle.compile_table.proofs.Marks.{missing-put, open-set, open_done}
use Rattle.std.proofs.Common.{◌≡◌, ◌||◌, rules}
use Rattle.compile_table.proofs.finish_table.reach_rows.Goals as goal

pub loop-s-init : goal.loop-s-init
loop-s-init c =
    let p = c.args in (
      c.requires,
      forward-start p.n p.g c.requires _ _
          (length-set (replicate 128 false) 0 true ∙ length-replicate 128 false)
          (length-replicate 128 false)
          (λ x. put-member (replicate 128 false) 0 x (omega (arith, length-replicate 128 false))
          ∙ ap (λ b. b || eqb 0 x) (member-blank 128 x))
          (member-blank 128),
    )

pub loop-s-smaller : goal.loop-s-smaller
loop-s-smaller c =
    let l = c.loop-s in
    let s = c.in-Some.s in
    let o = c.in-Some.ensures.answer in
    missing-put l.done s (omega (arith, l.invariant.1.long_d, o.0, c.requires.fits.few))
    (open_done (member l.set s) (member l.done s) o.1)

pub loop-s-preserved : goal.loop-s-preserved
loop-s-preserved c =
    let l = c.loop-s in
    let p = c.args in
    let s = c.in-Some.s in
    let o = c.in-Some.ensures.answer in
    let a : length c.mark_targets-set.result ≡ 128 = search rules in (
      l.invariant.0,
      forward-step p.n p.g l.invariant.0 l.set l.done l.invariant.1 s o.0
          (open-set (member l.set s) (member l.done s) o.1)
          c.as_slice.result.now (c.as_slice.ensures.answer ∙ c.first_edges-list.ensures.answer.0)
          c.mark_targets-set.result a c.mark_targets-set.ensures.answer,
    )

pub returns : goal.returns
returns c =
    let l = c.loop-s in
    let p = c.args in
    record { answer = forward-end p.n p.g l.invariant.0 l.set l.done l.invariant.1 c.in_default.ensures.answer }

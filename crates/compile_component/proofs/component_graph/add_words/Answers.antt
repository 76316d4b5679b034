use Rattle.laws.proofs.All.{refl, subst, arith, length}
use Rattle.compile_component.proofs.AppendedRows.{Rowed, rowed-yes, rowed-no, rowed-over, rowed-end}
use Rattle.compile_graph.proofs.Values.{appended-none}
use Rattle.std.proofs.Common.{◌≡◌, rules}
use Rattle.compile_component.proofs.component_graph.add_words.Goals as goal
use Rattle.compile_component.proofs.component_graph.add_words.Goals.{else-t-lt16, then-t-lt16+else-m-ge2048}

pub loop-w-init : goal.loop-w-init
loop-w-init c =
    let a : length c.args.g.source ≡ 2048 = search rules in
    let b : length c.args.g.word ≡ 2048 = search rules in
    let d : length c.args.g.target ≡ 2048 = search rules in
    (omega arith, refl, appended-none _ a b d)

pub returns-then-m-ge2048 : goal.returns-then-m-ge2048
returns-then-m-ge2048 c =
    let l = c.loop-w in
    let p = c.args in
    record {
      answer = rowed-over p.power.now p.index p.s p.g l.h l.m l.w l.invariant.2 p.words (omega arith)
          c.if-m-ge2048.true
          (omega (arith, c.place_of-t.ensures.answer, c.if-t-lt16.true));
    }

pub loop-w-preserved : goal.loop-w-preserved
loop-w-preserved c =
    let l = c.loop-w in
    let p = c.args in
    let e = c.place_of-t.ensures.answer in
    elim c.if-t-lt16.branch [
      | then-t-lt16+else-m-ge2048 u ↦ (
        omega (arith, u.if-m-ge2048.false, u.m-is),
        refl,
        rw (u.h-is, u.m-is)
            (rowed-yes p.power.now p.index p.s p.g l.h l.m l.w l.invariant.2
            c.place_of-t.result e
            (omega (arith, u.if-m-ge2048.false)) u.if-t-lt16.true),
      )
      | else-t-lt16 u ↦ (
        omega (arith, u.m-is),
        refl,
        rw (u.h-is, u.m-is)
            (rowed-no p.power.now p.index p.s p.g l.h l.m l.w l.invariant.2
            (omega (arith, u.if-t-lt16.false))),
      )
    ]

pub returns : goal.returns
returns c =
    let l = c.loop-w in
    let p = c.args in
    let e : l.w ≡ p.words = omega arith in
    record {
      answer = rowed-end p.power.now p.index p.s p.g l.h l.m p.words
          (subst (Rowed p.power.now p.index p.s p.g l.h l.m) e l.invariant.2) l.invariant.0;
    }

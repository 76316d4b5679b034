use Rattle.std.proofs.Common.{◌+◌, ◌*◌}
use Rattle.laws.proofs.All.{sym, ◌∙◌, eq-eqb, ne_eqb, arith}
use Rattle.codec_groups.proofs.FirstEdges.{sought-start, sought-here, sought-next, sought-end}
use Rattle.codec_groups.proofs.laying.first_edge.Goals as goal

pub loop-e-init : goal.loop-e-init
loop-e-init c =
    let a = c.args in
    sought-start a.edges.word.now a.w a.edges.ways a.s

pub returns-then-wide-w : goal.returns-then-wide-w
returns-then-wide-w c =
    let a = c.args in
    let l = c.loop-e in
    record {
      answer = sym (l.invariant ∙ sought-here a.edges.word.now a.w (a.s * 16 + a.edges.ways) l.e c.loop-e-test.true
          (eq-eqb _ _ (sym c.wide.ensures.answer.0 ∙ c.if-wide-w.true)));
    }

pub loop-e-preserved : goal.loop-e-preserved
loop-e-preserved c =
    let a = c.args in
    let l = c.loop-e in
    l.invariant ∙ sought-next a.edges.word.now a.w (a.s * 16 + a.edges.ways) l.e c.loop-e-test.true
    (ne_eqb _ _ (λ q. c.if-wide-w.false (c.wide.ensures.answer.0 ∙ q)))

pub returns : goal.returns
returns c =
    let a = c.args in
    let l = c.loop-e in
    record {
      answer = sym (l.invariant ∙ sought-end a.edges.word.now a.w (a.s * 16 + a.edges.ways) l.e (omega (arith, c.loop-e-test.false)));
    }

use Rattle.std.proofs.Common.{◌≡◌}
use Rattle.laws.proofs.All.{ap, ◌∙◌, arith, length}
use Rattle.compile_parts.proofs.Counts.{counted_none, counted-more, left}
use Rattle.compile_parts.proofs.out_counts.Goals as goal

pub loop-i-init : goal.loop-i-init
loop-i-init c = counted_none _

pub loop-i-preserved : goal.loop-i-preserved
loop-i-preserved c =
    counted-more c.args.g c.loop-i.i c.loop-i.counts
    (omega (arith, c.requires.few, c.requires.source c.loop-i.i (omega arith))) c.loop-i.invariant

pub returns : goal.returns
returns c =
    let l = c.loop-i in
    let e : l.i ≡ c.args.g.edges = omega arith in
    record {
      answer = λ s h. l.invariant.holds s (omega (arith, c.requires.few))
          ∙ ap (λ k. length (left c.args.g k s)) e;
    }

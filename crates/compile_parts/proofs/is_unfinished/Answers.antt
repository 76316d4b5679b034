use Rattle.laws.proofs.All.{sym, arith, below_more}
use Rattle.compile_parts.proofs.Counts.{unfinished-yes, unfinished-no}
use Rattle.compile_parts.proofs.is_unfinished.Goals as goal

pub returns-then-counts-s : goal.returns-then-counts-s
returns-then-counts-s c =
    let e = c.out_counts-counts.ensures.answer c.loop-s.s (omega arith) in
    record { answer = sym (unfinished-yes c.args.n c.args.g c.loop-s.s (omega arith) (omega arith)) }

pub loop-s-preserved : goal.loop-s-preserved
loop-s-preserved c = below_more _ _ c.loop-s.invariant c.if-counts-s.false

pub returns : goal.returns
returns c =
    record {
      answer = sym (unfinished-no c.args.n c.args.g
          (λ j h. let e = c.out_counts-counts.ensures.answer j h in
          omega (arith, c.loop-s.invariant j (omega arith))));
    }

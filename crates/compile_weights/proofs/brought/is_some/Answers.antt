use Rattle.std.proofs.Common.{◌≡◌}
use Rattle.laws.proofs.All.{sym, ap, ◌∙◌, arith, range, any, le-ltb, lt→ltb, T→true}
use Rattle.laws.proofs.All.{any-range-no, →any-below}
use Rattle.compile_graph.specs.Weights.{weighty}
use Rattle.compile_weights.proofs.brought.is_some.Goals as goal

pub returns-then-v-s-gt0 : goal.returns-then-v-s-gt0
returns-then-v-s-gt0 c =
    let a = c.args in
    record {
      answer = sym (T→true (any (weighty a.v) (range a.k))
          (→any-below (weighty a.v) a.k c.loop-s.s (omega arith) (lt→ltb 0 _ c.if-v-s-gt0.true)));
    }

pub loop-s-preserved : goal.loop-s-preserved
loop-s-preserved c =
    let l = c.loop-s in any-range-no (weighty c.args.v) l.s l.invariant (le-ltb 0 _ c.if-v-s-gt0.false)

pub returns : goal.returns
returns c =
    let l = c.loop-s in
    let a = c.args in
    let e : l.s ≡ a.k = omega arith in
    record { answer = sym (ap (λ k. any (weighty a.v) (range k)) (sym e) ∙ l.invariant) }

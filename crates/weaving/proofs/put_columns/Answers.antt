use Rattle.std.proofs.Common.{◌≡◌, ◌++◌, ◌+◌, ◌-◌, ◌*◌}
use Rattle.laws.proofs.All.{ap, ◌∙◌, map, mul_comm, arith, take}
use Rattle.laws.proofs.All.{drop, from, range, piece-more}
use Rattle.weaving.specs.Weaving.{transposed_at, transposed}
use Rattle.weaving.proofs.put_columns.Goals as goal

pub loop-j-preserved : goal.loop-j-preserved
loop-j-preserved c =
    let l = c.loop-j in
    let a = c.args in
    let f = transposed_at a.a a.b a.words.now in
    let o = a.out.now in
    let at = l.j * a.a in
    let n : at + a.a ≡ (l.j + 1) * a.a = omega arith in
    let k : a.a ≡ at + a.a - at = omega arith in
    piece-more f at (at + a.a) o l.out _ (omega arith) l.invariant
    (c.put_column.ensures.written ∙ ap (λ w. (take at l.out ++ map f (from at w)) ++ drop (at + a.a) l.out) k)
    ∙ ap (λ i. map f (range i) ++ drop i o) n

pub returns : goal.returns
unfolding transposed
returns c =
    let l = c.loop-j in
    let a = c.args in
    let e : l.j ≡ a.b = omega arith in
    record {
      written = l.invariant ∙ ap (λ k. map (transposed_at a.a a.b a.words.now) (range k) ++ drop k a.out.now)
          (ap (λ j. j * a.a) e ∙ mul_comm a.b a.a);
    }

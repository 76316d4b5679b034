use Rattle.std.proofs.Common.{◌≡◌}
use Rattle.std.specs.Option.{unwrap_or}
use Rattle.laws.proofs.All.{subst, arith, eq-eqb, ne_eqb, lt-ltb, le-ltb, get_or}
use Rattle.compile_choice.proofs.Choosing.{Lowest, lowest_hit, lowest_miss, lower_is, some_below, lightens, source_at}
use Rattle.compile_choice.proofs.Choosing.{choose-is}
use Rattle.compile_choice.proofs.choose.choose.Goals as goal
use Rattle.compile_choice.proofs.choose.choose.Goals.{then-g-source+then-g-target, else-g-source}
use Rattle.compile_choice.proofs.choose.choose.Goals.{else-g-source-via-then-g-source+else-g-target}
use Rattle.compile_choice.proofs.choose.choose.Goals.{else-g-source-via-else-g-source}

pub loop-i-preserved : goal.loop-i-preserved
loop-i-preserved c =
    let l = c.loop-i in
    let p = c.args in
    let g = p.g in
    let s = get_or g.source l.i 0 in
    elim c.if-g-source.branch [
      | then-g-source+then-g-target w ↦
          let e = lower_is l.lowest s (omega (arith, c.requires.0.few, c.requires.0.source l.i (omega arith))) in
          lowest_hit (lightens g p.m) (source_at g p.m) l.i (unwrap_or l.lowest 128) l.invariant _
          (simp (eq-eqb _ p.m w.if-g-source.true, lt-ltb _ p.m w.if-g-target.true))
          (rw w.lowest-is (cc))
      | else-g-source w ↦
          rw w.lowest-is (lowest_miss (lightens g p.m) (source_at g p.m) l.i (unwrap_or l.lowest 128) l.invariant
          (elim w.else-g-source.branch [
            | else-g-source-via-then-g-source+else-g-target w' ↦
                simp (eq-eqb _ p.m w'.if-g-source.true, le-ltb _ p.m w'.if-g-target.false)
            | else-g-source-via-else-g-source w' ↦ simp (ne_eqb _ p.m w'.if-g-source.false)
          ]))
    ]

pub unwrap-requires : goal.unwrap-requires
unwrap-requires c =
    let l = c.loop-i in
    let p = c.args in
    let e : l.i ≡ p.g.edges = omega arith in
    let h = choose-is p.g p.m c.requires.0 c.requires.1 c.requires.2 (unwrap_or l.lowest 128)
    (subst (λ k. Lowest (lightens p.g p.m) (source_at p.g p.m) k (unwrap_or l.lowest 128)) e l.invariant) in
    some_below l.lowest (omega (arith, h.1, c.requires.0.few))

pub returns : goal.returns
returns c =
    let l = c.loop-i in
    let p = c.args in
    let e : l.i ≡ p.g.edges = omega arith in
    let h = rw c.unwrap.ensures at l.invariant in
    record {
      answer = choose-is p.g p.m c.requires.0 c.requires.1 c.requires.2 c.unwrap.result
          (subst (λ k. Lowest (lightens p.g p.m) (source_at p.g p.m) k c.unwrap.result) e h);
    }

use Rattle.laws.proofs.All.{arith, length}
use Rattle.compile_reach.proofs.ReachRounds.{rounds-start, rounds-more, rounds-still, rounds-end, beq-Decides}
use Rattle.std.proofs.lemmas.Slice.Eq.{slice_eq-Decides}
use Rattle.std.proofs.Common.{◌≡◌, rules}
use Rattle.compile_reach.proofs.reaching.reach_all.Goals as goal

pub loop-round-init : goal.loop-round-init
loop-round-init c =
    let a : length c.themselves-m.result ≡ 256 = search rules in
    (c.requires.1, rounds-start c.args.edge.now c.args.k c.requires.1 c.themselves-m.result a c.themselves-m.ensures.answer)

pub reach_step-r-requires : goal.reach_step-r-requires
reach_step-r-requires c = (c.requires.0, c.loop-round.invariant.1.long, c.requires.1)

pub returns-then-eq : goal.returns-then-eq
returns-then-eq c =
    let l = c.loop-round in
    record {
      answer = rounds-still c.args.edge.now c.args.k l.invariant.0 l.m c.reach_step-r.result
          c.reach_step-r.ensures.answer l._round l.invariant.1
          ((slice_eq-Decides beq-Decides _ _ _ c.eq.ensures).0 c.if-eq.true);
    }

pub loop-round-preserved : goal.loop-round-preserved
loop-round-preserved c =
    let a : length c.reach_step-r.result ≡ 256 = search rules in
    let l = c.loop-round in
    let p = c.args in (
      l.invariant.0,
      rounds-more p.edge.now p.k l.invariant.0 l.m c.reach_step-r.result c.reach_step-r.ensures.answer l._round
          l.invariant.1 (omega arith) a,
    )

pub returns : goal.returns
returns c =
    let l = c.loop-round in
    record { answer = rounds-end c.args.edge.now c.args.k l.invariant.0 l.m l._round (omega arith) l.invariant.1 }

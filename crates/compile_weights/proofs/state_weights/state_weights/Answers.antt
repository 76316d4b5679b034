use Rattle.std.proofs.Common.{◌≡◌, ◌*◌, ◌≤◌, rules}
use Rattle.laws.proofs.All.{sym, subst, mul-le-mul, arith, length, get_or, take}
use Rattle.std.proofs.lemmas.Bool.Decides.{Decides-eqb}
use Rattle.std.proofs.lemmas.Slice.Eq.{slice_eq-Decides}
use Rattle.compile_weights.specs.PowerTable.{tabled}
use Rattle.compile_weights.proofs.WeightRounds.{round-start, round-more, round-still, round-end}
use Rattle.compile_weights.proofs.WeightRounds.{lowered_is, lower-le}
use Rattle.compile_weights.proofs.state_weights.state_weights.Goals as goal

pub overflow_mul-round-end : goal.overflow_mul-round-end
overflow_mul-round-end c =
    let h : c.args.k * c.args.cap ≤ 16 * 16 = mul-le-mul c.requires.0.states c.requires.2 in
    omega arith

pub loop-round-init : goal.loop-round-init
loop-round-init c = round-start _ _ _ _ c.requires.0.states

pub lower_weights-w-requires : goal.lower_weights-w-requires
lower_weights-w-requires c = (
  search rules,
  c.requires.0.states,
  c.requires.1,
  λ x h. (c.word_counts-count.ensures.answer x h).1,
  λ t h. omega (arith, c.loop-round.invariant.low t h, c.requires.2),
)

pub returns-then-eq : goal.returns-then-eq
returns-then-eq c =
    let l = c.loop-round in
    let p = c.args in
    let a : length c.lower_weights-w.result ≡ 16 = search rules in
    let e : take p.k c.lower_weights-w.result ≡ _ =
    lowered_is p.power.now c.word_counts-count.result p.words p.k c.requires.0.states
    (λ x h. (c.word_counts-count.ensures.answer x h).0) p.n l.v l.invariant.long c.lower_weights-w.result a
    c.lower_weights-w.ensures.answer in
    record {
      answer = (
        round-still p.n p.cap p.k (tabled p.power.now p.words p.k) l._round l.v c.requires.0.states l.invariant
            c.lower_weights-w.result a e ((slice_eq-Decides Decides-eqb _ _ _ c.eq.ensures).0 c.if-eq.true),
        l.invariant.low,
      );
    }

pub loop-round-preserved : goal.loop-round-preserved
loop-round-preserved c =
    let l = c.loop-round in
    let p = c.args in
    let a : length c.lower_weights-w.result ≡ 16 = search rules in
    let e : take p.k c.lower_weights-w.result ≡ _ =
    lowered_is p.power.now c.word_counts-count.result p.words p.k c.requires.0.states
    (λ x h. (c.word_counts-count.ensures.answer x h).0) p.n l.v l.invariant.long c.lower_weights-w.result a
    c.lower_weights-w.ensures.answer in
    round-more p.n p.cap p.k (tabled p.power.now p.words p.k) l._round l.v c.requires.0.states l.invariant
    c.lower_weights-w.result a e (omega arith)
    (λ s h. subst (λ x. x ≤ get_or l.v s 0) (sym (c.lower_weights-w.ensures.answer s h))
    (lower-le c.word_counts-count.result l.v p.k s p.n))

pub returns : goal.returns
returns c =
    let l = c.loop-round in
    let p = c.args in
    record {
      answer = (
        round-end p.n p.cap p.k (tabled p.power.now p.words p.k) l._round l.v (omega arith) l.invariant,
        l.invariant.low,
      );
    }

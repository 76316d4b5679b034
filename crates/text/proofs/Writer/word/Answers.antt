use Rattle.std.proofs.Common.{◌≡◌, ◌∷◌, ◌++◌, ◌-◌, ◌/◌, ◌%◌, ◌^◌}
use Rattle.laws.proofs.All.{refl, sym, ap, ◌∙◌, [], append-nil}
use Rattle.laws.proofs.All.{arith}
use Rattle.text.proofs.Adding.{added-same, ◌then◌, begun}
use Rattle.text.specs.Words.{digit, binary}
use Rattle.text.proofs.Words.{binary-more}
use Rattle.text.proofs.Writer.word.Goals as goal

pub loop-k-init : goal.loop-k-init
loop-k-init c = (refl, [], refl, begun c.put.ensures.written)

pub loop-k-preserved : goal.loop-k-preserved
loop-k-preserved c =
    let l = c.loop-k in
    let a = c.args in
    let X = l.invariant.1 in (
      c.bit.ensures.lent ∙ l.invariant.0,
      X ++ (digit (a.w / 2 ^ (l.k - 1) % 2) ∷ []),
      binary-more X a.q l.k a.w c.loop-k-test.true l.invariant.2,
      l.invariant.3 then c.bit.ensures.written,
    )

pub returns-clause-written : goal.returns-clause-written
returns-clause-written c =
    let l = c.loop-k in
    let a = c.args in
    let z : l.k ≡ 0 = omega (arith, c.loop-k-test.false) in
    let X = l.invariant.1 in
    let all : X ≡ binary a.q a.w =
    sym (append-nil X) ∙ ap (λ k. X ++ binary k a.w) (sym z) ∙ l.invariant.2 in
    added-same all (c.put.ensures.written then l.invariant.3)

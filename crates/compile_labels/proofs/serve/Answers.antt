use Rattle.laws.proofs.All.{refl, ap, sym, ◌∙◌, arith, length, take, drop, length-set}
use Rattle.laws.proofs.All.{slice_empty}
use Rattle.compile_labels.specs.Parts.{served}
use Rattle.compile_labels.proofs.Passes.{serve-kept, serve-put}
use Rattle.std.proofs.Common.{◌≡◌, ◌+◌, rules}
use Rattle.compile_labels.proofs.serve.Goals as goal
use Rattle.compile_labels.proofs.serve.Goals.{else-wide-n, then-wide-n}

pub loop-k-init : goal.loop-k-init
loop-k-init c =
    let a : length c.args.asked ≡ 16 = search rules in
    (omega arith, c.requires, a, refl)

pub loop-k-preserved : goal.loop-k-preserved
loop-k-preserved c =
    let l = c.loop-k in
    let a = c.args in
    let x = c.wide.ensures.answer.0 in
    elim c.if-wide-n.branch [
      | then-wide-n w ↦ (
        omega arith,
        l.invariant.1,
        ap length w.ds-is ∙ length-set l.ds l.k w.lowest_free.result ∙ l.invariant.2,
        ap (λ ds. served a.n (take (l.k + 1) ds) (drop (l.k + 1) (take a.n ds))) w.ds-is
            ∙ sym (serve-put a.n l.k l.ds (omega arith) (omega arith) (rw x at w.if-wide-n.true) w.lowest_free.result
            w.lowest_free.ensures.answer.0) ∙ l.invariant.3,
      )
      | else-wide-n w ↦ (
        omega arith,
        l.invariant.1,
        ap length w.ds-is ∙ l.invariant.2,
        ap (λ ds. served a.n (take (l.k + 1) ds) (drop (l.k + 1) (take a.n ds))) w.ds-is
            ∙ sym (serve-kept a.n l.k l.ds (omega arith) (omega arith) (rw x at w.if-wide-n.false)) ∙ l.invariant.3,
      )
    ]

pub returns : goal.returns
returns c =
    let l = c.loop-k in
    let a = c.args in
    let e : l.k ≡ a.n = omega arith in
    record {
      answer = sym (ap (λ k. served a.n (take k l.ds) (drop k (take a.n l.ds))) e
          ∙ ap (served a.n (take a.n l.ds)) (slice_empty a.n l.ds))
          ∙ l.invariant.3;
    }

pub overflow_cast-ds : goal.overflow_cast-ds
overflow_cast-ds c = omega (arith, c.lowest_free.ensures.answer.1)

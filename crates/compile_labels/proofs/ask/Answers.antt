use mir.Syntax.{w8}
use mir.Val.{Fits}
use Rattle.laws.proofs.All.{refl, sym, ap, subst, ◌∙◌, [], arith, length, get_or, take}
use Rattle.laws.proofs.All.{length-set, first, extend}
use Rattle.compile_labels.specs.Labels.{free, asked}
use Rattle.compile_labels.proofs.Homes.{given-home}
use Rattle.compile_labels.proofs.Passes.{extend-put}
use Rattle.std.proofs.Common.{◌≡◌, ◌<◌, rules}
use Rattle.compile_labels.proofs.ask.Goals.{In-loop-k}
use Rattle.compile_labels.proofs.ask.Goals as goal

pub loop-k-init : goal.loop-k-init
loop-k-init c = (omega arith, refl, λ t W H. refl)

word_small : (c : In-loop-k) → get_or c.args.words c.loop-k.k 0 < 256
word_small c = let b : Fits w8 (get_or c.args.words c.loop-k.k 0) = search rules in omega arith

pub loop-k-preserved : goal.loop-k-preserved
loop-k-preserved c =
    let l = c.loop-k in
    let a = c.args in
    let b : length a.words ≡ 16 = search rules in
    let few = c.requires.1 in (
      omega arith,
      length-set l.ds l.k c.asked_datum.result ∙ l.invariant.1,
      λ t W H. extend-put (asked a.n t) a.words l.ds l.k c.asked_datum.result (omega arith) (omega arith)
          (l.invariant.2 t W H)
          (c.asked_datum.ensures.answer.0
          ∙ ap (first (free (take l.k l.ds)) a.n)
          (sym (given-home a.n t a.column.now few W (get_or a.words l.k 0) _
          (H _ (word_small (goal.at.loop-k-preserved c).In-loop-k))))),
    )

pub returns : goal.returns
returns c =
    let l = c.loop-k in
    let a = c.args in
    let e : l.k ≡ a.n = omega arith in
    record {
      answer = λ t W H. subst (λ k. take k l.ds ≡ extend (asked a.n t) [] (take k a.words)) e
          (l.invariant.2 t W H);
    }

pub overflow_cast-ds : goal.overflow_cast-ds
overflow_cast-ds c = omega (arith, c.asked_datum.ensures.answer.1)

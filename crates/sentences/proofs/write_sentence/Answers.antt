use Rattle.laws.proofs.All.{refl, ap, ◌∙◌, arith, take_all}
use Rattle.text.proofs.Adding.{added-same, ◌then◌, begun}
use Rattle.sentences.specs.Sentences.{sentence}
use Rattle.sentences.proofs.Sentences.{sentence-next, used-next, used-fits}
use Rattle.sentences.proofs.write_sentence.Goals as goal

pub loop-b-init : goal.loop-b-init
loop-b-init c = (refl, refl, begun c.put.ensures.written)

pub overflow_add-k : goal.overflow_add-k
overflow_add-k c =
    let l = c.loop-b in
    let u = used-fits c.args.pattern.now l.b-index l.k c.loop-b-test.true l.invariant.0 _ c.takes-k.ensures.answer in
    omega arith

pub loop-b-preserved : goal.loop-b-preserved
loop-b-preserved c =
    let l = c.loop-b in
    let p = c.args.pattern.now in
    let h = c.loop-b-test.true in
    let n = c.args.numbers.now in (
      used-next p l.b-index l.k h l.invariant.0 _ c.takes-k.ensures.answer,
      c.write_shown.ensures.lent ∙ l.invariant.1,
      added-same (sentence-next p l.b-index l.k h l.invariant.0 n _ c.number_at.ensures.answer)
          (l.invariant.2 then c.write_shown.ensures.written),
    )

pub returns-clause-written : goal.returns-clause-written
returns-clause-written c =
    let l = c.loop-b in
    let a = c.args in
    let all = take_all l.b-index a.pattern.now (omega arith) in
    added-same (ap (λ p. sentence p a.numbers.now) all) (c.put.ensures.written then l.invariant.2)

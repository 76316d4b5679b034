use Rattle.std.proofs.Common.{◌+◌}
use Rattle.laws.proofs.All.{refl, sym, ◌∙◌, arith, get_or, drop, length-drop, get_or-drop}
use Rattle.laws.proofs.All.{fill_more, take_same}
use Rattle.compile_job.proofs.bringing.weights_at.Goals as goal

pub overflow_cast-weight : goal.overflow_cast-weight
overflow_cast-weight c =
    omega (arith, c.type_inv.bytes (c.args.start + c.loop-s.s))

pub loop-s-preserved : goal.loop-s-preserved
loop-s-preserved c =
    let l = c.loop-s in
    let a = c.args in
    fill_more 0 (λ x. get_or a.bytes.now (a.start + x) 0) 16 l.s l.weight _ (omega arith) refl l.invariant

pub returns : goal.returns
returns c =
    let l = c.loop-s in
    let a = c.args in
    record {
      answer = take_same l.weight (drop a.start a.bytes.now) a.count
          (length-drop a.start a.bytes.now ∙ omega (arith, c.requires.2)) (let e = l.invariant.long in omega arith)
          (λ i h. l.invariant.holds i (omega arith) ∙ sym (get_or-drop a.start a.bytes.now i 0));
    }

use Rattle.laws.proofs.All.{subst, arith, length}
use Rattle.compile_choice.proofs.RunSearch.{Without, first_found, first-nowhere}
use Rattle.std.proofs.Common.{◌≡◌}
use Rattle.compile_choice.proofs.find_run.first_run.Goals as goal

pub returns-in-Some : goal.returns-in-Some
returns-in-Some c =
    let p = c.args in
    let l = c.loop-j in
    record {
      answer = first_found p.n p.weight.now l.j _ c.in-Some.ensures.answer (omega arith) l.invariant;
    }

pub returns : goal.returns
returns c =
    let p = c.args in
    let l = c.loop-j in
    let e : l.j ≡ length p.weight.now = omega arith in
    record { answer = first-nowhere p.n p.weight.now (subst (Without p.n p.weight.now) e l.invariant) }

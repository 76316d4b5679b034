use Rattle.std.proofs.Common.{◌≡◌, sym, arith, length}
use Rattle.answer.specs.FirstBad.{first_bad}
use Rattle.answer.proofs.FirstBad.{bad-le, below-done}
use Rattle.answer.proofs.bytes.check_below.Goals as goal

pub returns : goal.returns
returns c =
    let n = c.args.n in
    let bytes = c.args.bytes.now in
    let e : first_bad n bytes ≡ length bytes = omega (arith, bad-le n bytes, c.first_bad-place.ensures.answer) in
    record { answer = λ xs. sym (below-done n bytes xs e) }

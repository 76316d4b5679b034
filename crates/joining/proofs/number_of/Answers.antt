use Rattle.std.proofs.Common.{unwrap_or, ◌≡◌}
use Rattle.laws.proofs.All.{ap, ◌∙◌, length, arith, index_of}
use Rattle.joining.proofs.PairLists.{placed, index-le}
use Rattle.joining.proofs.number_of.Goals as goal

pub returns : goal.returns
returns c =
    let l = c.args.list.now in
    let z = c.args.z in
    let e : c.unwrap_or.result ≡ index_of z l =
    c.unwrap_or.ensures ∙ ap (λ p. unwrap_or p (length l)) c.place_of.ensures.answer ∙ placed z l in
    record { answer = e; past = omega (arith, e, index-le z l) }

-- `stream_pack::is_filled` meets its contract: the bits after the place are one field.
use Rattle.laws.proofs.All.{ap, eqb}
use Rattle.stream_pack.proofs.is_filled.Goals as goal

pub returns : goal.returns
returns c = record { answer = ap (λ x. eqb x 0) c.get.ensures.answer }

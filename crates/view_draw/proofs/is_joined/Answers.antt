-- `is_joined` meets its contract.
use Rattle.laws.proofs.All.{ap₂, eqb}
use Rattle.view_draw.proofs.is_joined.Goals as goal

pub returns : goal.returns
returns c = record { answer = ap₂ eqb c.next_at.ensures.answer c.next_at-2.ensures.answer }

-- `place` meets its contract: in the other arm the refusal is none of the cases with a place.
use Rattle.laws.proofs.All.{sym}
use Rattle.answer.proofs.Cases.{place-unless}
use Rattle.answer.proofs.Refusal.place.Goals as goal

pub returns-in_default : goal.returns-in_default
returns-in_default c = record { answer = sym (place-unless c.args.self c.in_default.not-BadByte) }

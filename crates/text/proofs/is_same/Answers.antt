-- The answer is true exactly of the same text.
use Rattle.laws.proofs.All.{◌∙◌}
use Rattle.text.proofs.Words.{same_pointwise}
use Rattle.text.proofs.is_same.Goals as goal

pub returns : goal.returns
returns c = record { answer = c.eq.ensures ∙ same_pointwise c.args.a.now c.args.b.now }

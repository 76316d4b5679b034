-- The digits are the fewest that hold the number.
use Rattle.laws.proofs.All.{◌∙◌}
use Rattle.text.proofs.Adding.{added-same}
use Rattle.text.proofs.Numbers.{hex-is}
use Rattle.text.proofs.Writer.hex.Goals as goal

pub returns-clause-written : goal.returns-clause-written
returns-clause-written c =
    let k = c.hex-k in
    let a = c.args in
    added-same (k.ensures.digits ∙ hex-is a.width a.n k.result c.ranges.n.fits k.ensures.len) c.put.ensures.written

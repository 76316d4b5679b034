-- The digits are the fewest that hold the number.
use Rattle.laws.proofs.All.{◌∙◌}
use Rattle.text.proofs.Adding.{added-same}
use Rattle.text.proofs.Numbers.{decimal-is}
use Rattle.text.proofs.Writer.decimal.Goals as goal

pub returns-clause-written : goal.returns-clause-written
returns-clause-written c =
    let k = c.decimal-k in
    added-same (k.ensures.digits ∙ decimal-is c.args.n k.result c.ranges.n.fits k.ensures.len) c.put.ensures.written

-- `row_y` meets its contract.
use Rattle.laws.proofs.All.{arith}
use Rattle.view_matrix.proofs.Cells.{row_small, row_is}
use Rattle.view_matrix.proofs.row_y.Goals as goal

pub overflow_mul-result-2 : goal.overflow_mul-result-2
overflow_mul-result-2 c = omega (arith, row_small c.args.n c.args.s c.requires.0 c.requires.1)

pub overflow_add-result-2 : goal.overflow_add-result-2
overflow_add-result-2 c = omega (arith, row_small c.args.n c.args.s c.requires.0 c.requires.1)

pub returns : goal.returns
returns c = record { answer = row_is c.args.n c.args.s c.requires.0 c.requires.1 }

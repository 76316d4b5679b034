-- `column_x` meets its contract.
use Rattle.view_matrix.proofs.Cells.{column-is}
use Rattle.view_matrix.proofs.column_x.Goals as goal

pub returns : goal.returns
returns c = record { answer = column-is c.args.w c.requires }

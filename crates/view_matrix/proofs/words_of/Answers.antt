-- `words_of` meets its contract.
use Rattle.laws.proofs.All.{arith}
use Rattle.view_matrix.proofs.Cells.{words-few}
use Rattle.view_matrix.proofs.words_of.Goals as goal

pub power-requires : goal.power-requires
power-requires c = omega (arith, c.requires)

pub returns : goal.returns
returns c = record {
  answer = (
    c.power.ensures.answer,
    words-few c.args.q c.power.result c.requires
        c.power.ensures.answer,
  );
}

-- What two edges with one word lead to is the pairs that a clash leads to, where data differ.
use Rattle.table.specs.Lent.{edges_in}
use Rattle.window_test.proofs.ReadyWords.{bytes-lent}
use Rattle.window_test.proofs.StepPairs.{hits-pairs}
use Rattle.window_test.proofs.steps.clashes.Goals as goal

pub returns : goal.returns
returns c =
    let e = c.args.chains.now.edges in
    record {
      written = (
        c.clash_pairs.ensures.written.0,
        hits-pairs (edges_in e) e.fits (bytes-lent e) c.args.pairs.now _ c.clash_pairs.ensures.written.1,
      );
    }

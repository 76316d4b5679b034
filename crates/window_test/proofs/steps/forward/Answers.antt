-- What two edges with one word lead to is one step forward.
use Rattle.table.specs.Lent.{edges_in}
use Rattle.window_test.proofs.ReadyWords.{bytes-lent}
use Rattle.window_test.proofs.StepPairs.{step-pairs}
use Rattle.window_test.proofs.steps.forward.Goals as goal

pub returns : goal.returns
returns c =
    let e = c.args.chains.now.edges in
    record {
      written = (
        c.step_pairs.ensures.written.0,
        step-pairs (edges_in e) e.fits (bytes-lent e) c.args.pairs.now _ c.step_pairs.ensures.written.1,
      );
    }

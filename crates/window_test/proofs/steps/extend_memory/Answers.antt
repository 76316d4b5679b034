-- One step forward, with the start's pair.
use Rattle.laws.proofs.All.{◌∙◌}
use Rattle.table.specs.Edges.{rows_of}
use Rattle.table.specs.Lent.{edges_in}
use Rattle.table.proofs.RowsOf.{length-rows}
use Rattle.window_pairs.proofs.SetLaws.{replaced}
use Rattle.window_test.proofs.SetsOf.{start-put}
use Rattle.window_test.proofs.steps.extend_memory.Goals as goal

pub returns : goal.returns
returns c =
    let r = c.replace.ensures in
    let e = c.args.chains.now.edges in
    let t = edges_in e in
    let put = start-put (rows_of t) e.states (length-rows t) c.args.past.now _ _ c.add_start.ensures.written.1
    c.forward.ensures.written.1 in
    record {
      answer = λ h. replaced e.states _ _ _ (r.answer.0 h) r.written.1;
      written = r.written.1 ∙ put;
      kept = (r.written.0, c.add_start.ensures.written.0);
    }

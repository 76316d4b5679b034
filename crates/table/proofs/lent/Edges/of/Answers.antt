use Rattle.table.proofs.RowsOf.{fits-lent, words-lent}
use Rattle.table.proofs.lent.Edges.of.Goals as goal

pub invariant_of-result : goal.invariant_of-result
invariant_of-result c =
    let t = c.args.t.now in
    let e = c.ways.ensures.answer.0 in
    record {
      fits = fits-lent t c.ways.result c.requires e;
      narrow = c.requires.short;
      reading = words-lent t c.ways.result c.requires e;
    }

-- `list` meets its contract: the listing fits the bytes that it is put into, and fills the output.
use Rattle.laws.proofs.All.{}
use Rattle.text.proofs.Adding.{added-whole}
use Rattle.view_listing.proofs.Filled.{fill-same}
use Rattle.view_listing.proofs.Listings.{listing-most, ready-small}
use Rattle.view_listing.proofs.listing.list.Goals as goal

pub returns : goal.returns
returns c =
    let short = listing-most _ (ready-small _ c.requires) in
    let w = fill-same c.args.out.now (added-whole c.put_listing-end.ensures.written short).0
    (c.fill.ensures.answer, c.fill.ensures.written) in
    record { answer = w.0; written = w.1 }

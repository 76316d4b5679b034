-- The first line and the lines of all edges are put in a row.
use Rattle.text.proofs.Adding.{added-same, ◌then◌}
use Rattle.view_listing.proofs.Listings.{listing-is}
use Rattle.view_listing.proofs.listing.write_listing.Goals as goal

pub returns-clause-written : goal.returns-clause-written
returns-clause-written c =
    added-same (listing-is _ _ c.ways.ensures.answer.0)
    (c.write_sentence.ensures.written then c.write_entries.ensures.written)

-- The numbers are put around the word.
use Rattle.text.proofs.Adding.{◌then◌}
use Rattle.view_listing.specs.Listing.{entry}
use Rattle.view_listing.proofs.listing.write_entry.Goals as goal

pub returns-clause-written : goal.returns-clause-written
unfolding entry
returns-clause-written c =
    c.write_sentence.ensures.written then c.word.ensures.written then c.write_sentence-2.ensures.written

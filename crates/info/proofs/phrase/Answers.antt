-- `phrase` meets its contract: the words fit the bytes that they are put into, and fill the output.
use Rattle.std.proofs.Common.{◌≡◌, rules}
use Rattle.laws.proofs.All.{◌∙◌, take}
use Rattle.text.proofs.Adding.{added-whole}
use Rattle.view_listing.proofs.Filled.{fill-same}
use Rattle.view_refusals.proofs.Rows.{words-short}
use Rattle.info.specs.Info.{phrase_into}
use Rattle.info.proofs.phrase.Goals as goal

pub returns : goal.returns
unfolding phrase_into
returns c =
    let a = c.args in
    let begin = c.new-writer.ensures in
    let put = rw (begin.place, begin.bytes) at c.write_words.ensures.written in
    let front = (added-whole put (words-short _)).0 in
    let put_at = c.write_words.new.to in
    let same : take put_at.at _ ≡ take put_at.at put_at.out.now = search rules in
    let w = fill-same a.out.now (same ∙ front) (c.fill.ensures.answer, c.fill.ensures.written) in
    record { answer = w.0; written = w.1 }

-- The number and the condition are put in a row.
use Rattle.laws.proofs.All.{ap}
use Rattle.text.specs.Words.{told}
use Rattle.text.proofs.Adding.{added-same, ◌then◌}
use Rattle.view_refusals.specs.Phrases.{refusal_words}
use Rattle.view_refusals.proofs.write_refusal.Goals as goal

pub returns-clause-written : goal.returns-clause-written
unfolding refusal_words
returns-clause-written c =
    let same = ap (told "refused ") c.number.ensures.answer in
    added-same same c.number-2.ensures.written then c.put.ensures.written then c.write_phrase.ensures.written

-- The sentence and the word are put in a row.
use Rattle.laws.proofs.All.{ap}
use Rattle.text.specs.Words.{binary}
use Rattle.text.proofs.Adding.{added-same, ◌then◌}
use Rattle.view_draw.proofs.write_label.Goals as goal

pub returns-clause-written : goal.returns-clause-written
returns-clause-written c =
    c.write_sentence.ensures.written
    then added-same (ap (binary c.args.code.now.q) c.word_at.ensures.answer.0) c.word.ensures.written

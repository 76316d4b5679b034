-- The count is put after the lines.
use Rattle.text.proofs.Adding.{added_more}
use Rattle.set_lines.specs.SetText.{set_text}
use Rattle.set_lines.proofs.write_set.Goals as goal

pub returns-clause-written : goal.returns-clause-written
unfolding set_text
returns-clause-written c = added_more c.write_records.ensures.written c.write_sentence.ensures.written

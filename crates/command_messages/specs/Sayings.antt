-- What the command says of refusals.
-- In order: saying, set_saying.
-- Assumes nothing.
use Rattle.std.specs.Prelude.{List, [], ◌∷◌, ◌++◌, ℕ}
use Rattle.text.specs.Texts.{bytes}
use Rattle.sentences.specs.Sentences.{said}
use Rattle.answer.specs.declared.Refusal.{Refusal}
use Rattle.view_refusals.specs.Phrases.{refusal_words, refusal_line}

-- what is said of a refusal
unfoldable pub saying : Refusal → List ℕ
saying r = bytes "sbc: " ++ refusal_line r

-- what is said of the refusal of a set, with the number of the record
unfoldable pub set_saying : ℕ → Refusal → List ℕ
set_saying i r = bytes "sbc: " ++ refusal_words r ++ said ", at record #\n" (i ∷ [])

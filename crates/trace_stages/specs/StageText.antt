-- The lines of a trace before the splits.
-- In order: listed; weights_line, component_line.
-- Assumes nothing.
use Rattle.std.specs.Prelude.{List, [], ◌∷◌, ◌++◌, map, ℕ, get_or}
use Rattle.laws.specs.Lists.{concat}
use Rattle.text.specs.Texts.{bytes}
use Rattle.text.specs.Words.{told}
use Rattle.sentences.specs.Sentences.{said}

-- numbers, a blank in front of each
unfoldable pub listed : List ℕ → List ℕ
listed xs = concat (map (told " ") xs)

-- "weights 2 1"
unfoldable pub weights_line : List ℕ → List ℕ
weights_line v = bytes "weights" ++ listed v ++ bytes "\n"

-- "component of states 0 1, start 0, total weight 3"
unfoldable pub component_line : List ℕ → ℕ → List ℕ
component_line C weight =
    bytes "component of states" ++ listed C ++ said ", start #, total weight #\n" (get_or C 0 0 ∷ weight ∷ [])

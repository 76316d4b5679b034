-- What is said of the marks in the blocks that decoding gives.
-- In order: marks_said, with the numbers; marks_line, of blocks.
-- Assumes nothing.
use Rattle.std.specs.Prelude.{List, [], ◌∷◌, ℕ, ◌+◌, length}
use Rattle.laws.specs.Sums.{times}
use Rattle.sentences.specs.Sentences.{said}
use Rattle.codec_steps.specs.Reading.{mark_before, mark_ahead}

-- of n blocks `before` have the mark for what went before, and `ahead` that for the words ahead
abbrev pub marks_said : ℕ → ℕ → ℕ → List ℕ
marks_said before ahead n =
    said "sbc: # of # blocks marked: # for the words up to it (254), # for the words ahead (255)\n"
    ((before + ahead) ∷ n ∷ before ∷ ahead ∷ [])

-- how many of the blocks are marked, and how many with each mark
abbrev pub marks_line : List ℕ → List ℕ
marks_line bs = marks_said (times mark_before bs) (times mark_ahead bs) (length bs)

-- What is printed of a good set: a line for each record, and how many there are.
-- In order: good_line, record_line, placed_line; record_text, lines_to, set_text.
-- Assumes nothing.
use Rattle.std.specs.Prelude.{List, [], ◌∷◌, ◌++◌, map, ℕ, length, take, drop, Option, Some, None}
use Rattle.laws.specs.Lists.{range, concat}
use Rattle.sentences.specs.Sentences.{said}
use Rattle.answer.specs.Outcomes.{Outcome, done, refused}
use Rattle.table.specs.Rows.{Code}
use Rattle.record_check.specs.Parse.{parse}
use Rattle.set_places.specs.declared.Place.{Place}
use Rattle.set_places.specs.Offsets.{record_place}

-- the number of a record, its first byte and its length; p, q, states, m and a of its code
abbrev pub good_line : ℕ → ℕ → ℕ → ℕ → ℕ → ℕ → ℕ → ℕ → List ℕ
good_line i start len p q states m a =
    said "record # at byte #, # bytes: p #, q #, # states, m #, a #\n"
    (i ∷ start ∷ len ∷ p ∷ q ∷ states ∷ m ∷ a ∷ [])

-- a record at a place, if it is good
abbrev pub record_line : ℕ → ℕ → ℕ → Outcome Code → List ℕ
record_line i start len (done c) =
    good_line i start len c.p c.q (length c.table) c.window.memory c.window.lookahead
record_line i start len (refused r) = []

-- the record at a place of a set
abbrev pub placed_line : List ℕ → ℕ → Option Place → List ℕ
placed_line s i (Some p) = record_line i p.start p.len (parse (take p.len (drop p.start s)))
placed_line s i None = []

-- record i of a set
unfoldable pub record_text : List ℕ → ℕ → List ℕ
record_text s i = placed_line s i (record_place s i)

-- the first n records of a set
unfoldable pub lines_to : List ℕ → ℕ → List ℕ
lines_to s n = concat (map (record_text s) (range n))

-- what is printed of a good set of n records
unfoldable pub set_text : List ℕ → ℕ → List ℕ
set_text s n = lines_to s n ++ said "# records, all good\n" (n ∷ [])

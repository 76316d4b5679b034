-- A code as `show` prints it: its rate, its window with the reach of damage, its constraint, the datum with which its
-- recordings close, and the listing.
-- In order: rate_line, window_line, closing_line; shown; whole, a table that a record can give; show_text, of a table
-- by
-- value.
-- Assumes nothing.
use Rattle.std.specs.Prelude.{if◌then◌else◌, Bool, ◌&&◌, List, [], ◌∷◌, ◌++◌, ℕ, eqb, leb, length}
use Rattle.table.specs.declared.Table.{Table}
use Rattle.table.specs.Rows.{Code}
use Rattle.table.specs.Value.{code_in, ready}
use Rattle.view_listing.specs.Listing.{listing}
use Rattle.view_show.specs.Limits.{constraint_lines}
use Rattle.sentences.specs.Sentences.{said}

-- "2 data bits to 3 channel bits, 3 states"
abbrev pub rate_line : ℕ → ℕ → ℕ → List ℕ
rate_line p q states = said "# data bit~ to # channel bit~, # state~\n" (p ∷ p ∷ q ∷ q ∷ states ∷ states ∷ [])

-- the window and the blocks that a bad word at i can spoil
unfoldable pub window_line : ℕ → ℕ → List ℕ
window_line m a =
    if eqb m 0 && eqb a 0 then said "memory #, lookahead #: a bad word at i can spoil block i\n" (m ∷ a ∷ [])
    else said "memory #, lookahead #: a bad word at i can spoil blocks i - # to i + #\n" (m ∷ a ∷ a ∷ m ∷ [])

-- "tail datum 0"
abbrev pub closing_line : ℕ → List ℕ
closing_line k = said "tail datum #\n" (k ∷ [])

-- what `show` prints of a code
unfoldable pub shown : Code → List ℕ
shown c =
    rate_line c.p c.q (length c.table) ++ window_line c.window.memory c.window.lookahead
    ++ constraint_lines c.constraint c.start ++ closing_line c.tail ++ listing c

-- the table is one that a record can give, with its window
abbrev pub whole : Table → Bool
whole t = leb t.memory 15 && (leb t.lookahead 15 && ready t)

-- what `show` prints of a table by value; nothing where no record gives it
unfoldable pub show_text : Table → List ℕ
show_text t = if whole t then shown (code_in t) else []

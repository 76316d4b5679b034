-- "Recording and decoding": the reading rule and decoding. What recording is stands with the table's paths.
-- In order: readings_of, readings, the data that the rule can read; some_edge, mark_before, mark_ahead, mark_for, the
-- marks; reading; past, block, decode.
-- Assumes nothing.
use Rattle.std.specs.Prelude.{if◌then◌else◌, Bool, ◌&&◌, List, map, ℕ, ◌+◌, ◌-◌, ltb, length, get_or, take, drop}
use Rattle.laws.specs.Lists.{range, filter, concat, any}
use Rattle.laws.specs.Sets.{member}
use Rattle.table.specs.Rows.{Rows, edges, at, has_word, Code}
use Rattle.codec_steps.specs.StateSets.{every_state, one_state, along_all, enters, able}

-- the data of state s whose edges have the word w and lead into A
abbrev pub readings_of : Rows → List Bool → ℕ → List Bool → ℕ → List ℕ
readings_of t S w A s = filter (λ d. member S s && enters A w (at t s d)) (range (length (edges t s)))

-- the data of "Edges from that set with word i, whose target can read the next a words"
abbrev pub readings : Rows → List Bool → ℕ → List Bool → List ℕ
readings t S w A = concat (map (readings_of t S w A) (range (length t)))

-- an edge from a state of S has the word w; the empty set has no edges
abbrev pub some_edge : Rows → List Bool → ℕ → Bool
some_edge t S w = any (λ s. member S s && has_word w (edges t s)) (range (length t))

-- the mark of a block that is "dark because of what went before" (in the field: an erasure)
abbrev pub mark_before : ℕ
mark_before = 254

-- the mark of a block that is dark because of "the words ahead"
abbrev pub mark_ahead : ℕ
mark_ahead = 255

-- "If the past set is empty, or no edge from it has word i, the mark is now 254. If such edges exist but none of their
-- targets can read the words ahead, it stays 255."
abbrev pub mark_for : Rows → List Bool → ℕ → ℕ
mark_for t S w = if some_edge t S w then mark_ahead else mark_before

-- the datum of edges from S with the word w whose target can read the words ahead, or the mark where there is none
abbrev pub reading : Rows → List Bool → ℕ → List ℕ → ℕ
reading t S w ahead = get_or (readings t S w (able t ahead)) 0 (mark_for t S w)

-- "the past set holds the states reachable by words i − m to i − 1 from any state, or by words 0 to i − 1 from state 0
-- if i < m"
abbrev pub past : Code → List ℕ → ℕ → List Bool
past c ws i =
    let t = c.table in
    let m = c.window.memory in
    if ltb i m then along_all t (one_state t 0) (take i ws) else along_all t (every_state t) (take m (drop (i - m) ws))

-- block i, read from its window of words
abbrev pub block : Code → List ℕ → ℕ → ℕ
block c ws i = reading c.table (past c ws i) (get_or ws i 0) (take c.window.lookahead (drop (i + 1) ws))

-- "From W words come W − a blocks."
abbrev pub decode : Code → List ℕ → List ℕ
decode c ws = map (block c ws) (range (length ws - c.window.lookahead))

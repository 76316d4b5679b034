-- The power table that the crate `constraint` gives: "one place for each state and word", 255 for none.
-- In order: entry_at, word_at, words_at, tabled; Powers, what it keeps to; word_leads, word_count; term_by, sum_by,
-- lower_by, one weight of a round by the counts of words.
-- Assumes nothing.
use Rattle.std.specs.Prelude.{◌≡◌, Bool, List, map, ℕ, ◌+◌, ◌*◌, ◌/◌, ◌≤◌, ◌<◌, min, eqb, length, get_or}
use Rattle.laws.specs.Lists.{range, filter, concat}
use Rattle.laws.specs.Sums.{tot}
use Rattle.constraint.specs.Walking.{Target}
use Rattle.compile_graph.specs.Arcs.{Arc, arc, leads_on}

-- the state to which the word w leads from s, or 255
abbrev pub entry_at : List ℕ → ℕ → ℕ → ℕ
entry_at P s w = get_or P (s * 256 + w) 0

-- the word w from s
abbrev pub word_at : List ℕ → ℕ → ℕ → Arc
word_at P s w = arc s w (entry_at P s w)

-- all words from s
abbrev pub words_at : List ℕ → ℕ → ℕ → List Arc
words_at P words s = map (word_at P s) (range words)

-- the words that lead to a state, from each of K states: the graph of words, read off the table
unfoldable pub tabled : List ℕ → ℕ → ℕ → List Arc
tabled P words K = filter leads_on (concat (map (words_at P words) (range K)))

-- a table for at most 16 states and 256 words, each of which leads to a state or to none: no caller can fail it,
-- since it holds of every power table of a constraint
pub record Powers (P : List ℕ) (words K : ℕ) : Type 0 where
  pub long : length P ≡ 4096
  pub states : K ≤ 16
  pub few : words ≤ 256
  pub leads : (s w : ℕ) → s < K → w < words → Target K (entry_at P s w)

-- the word w leads from s to t
abbrev pub word_leads : List ℕ → ℕ → ℕ → ℕ → Bool
word_leads P s t w = eqb (entry_at P s w) t

-- how many words lead from s to t
unfoldable pub word_count : List ℕ → ℕ → ℕ → ℕ → ℕ
word_count P words s t = length (filter (word_leads P s t) (range words))

-- A(s, t) × weight(t), with A(s, t) at s * 16 + t of a list
abbrev pub term_by : List ℕ → List ℕ → ℕ → ℕ → ℕ
term_by A v s t = get_or A (s * 16 + t) 0 * get_or v t 0

-- "the sum over t of A(s, t) × weight(t)", over the first k states
unfoldable pub sum_by : List ℕ → List ℕ → ℕ → ℕ → ℕ
sum_by A v k s = tot (term_by A v s) (range k)

-- the smaller of the old weight and that sum, divided by n and rounded down
unfoldable pub lower_by : List ℕ → List ℕ → ℕ → ℕ → ℕ → ℕ
lower_by A v k s n = min (get_or v s 0) (sum_by A v k s / n)

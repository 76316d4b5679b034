-- A constraint as `show` prints it: its (d, k) if it is one, otherwise its next states.
-- In order: alike, alike_at, is_runs, least_run; state_line, state_of, states_to; runs_line, count_line;
-- constraint_lines.
-- Assumes nothing.
use Rattle.std.specs.Prelude.{if◌then◌else◌, Bool, ◌&&◌, List, [], ◌∷◌, ◌++◌, map, ℕ, ◌-◌, eqb, ltb, length, get_or}
use Rattle.laws.specs.Lists.{range, all, first, concat}
use Rattle.constraint.specs.Walking.{NextStates, Constraint, none, nowhere, run_length}
use Rattle.text.specs.Texts.{bytes}
use Rattle.sentences.specs.Sentences.{said}

-- the same next states
abbrev pub alike : NextStates → NextStates → Bool
alike a b = eqb a.zero b.zero && eqb a.one b.one

-- state i has the same next states in both constraints
abbrev pub alike_at : Constraint → Constraint → ℕ → Bool
alike_at a b i = alike (get_or a i nowhere) (get_or b i nowhere)

-- a constraint is the run-length constraint (d, k) of as many states
abbrev pub is_runs : Constraint → ℕ → Bool
is_runs c d = all (alike_at c (run_length d (length c - 1))) (range (length c))

-- the d with which it is one, or the number of states where it is none
unfoldable pub least_run : Constraint → ℕ
least_run c = first (is_runs c) (length c) (range (length c))

-- "state 1: bit 0 to none, bit 1 to 0"
unfoldable pub state_line : ℕ → ℕ → ℕ → List ℕ
state_line s z o =
    (if eqb z none then said "state #: bit 0 to none" (s ∷ []) else said "state #: bit 0 to #" (s ∷ z ∷ []))
    ++ (if eqb o none then bytes ", bit 1 to none\n" else said ", bit 1 to #\n" (o ∷ []))

-- the line of a state of a constraint
abbrev pub state_of : Constraint → ℕ → List ℕ
state_of c s = let r = get_or c s nowhere in state_line s r.zero r.one

-- the lines of the first n states
unfoldable pub states_to : Constraint → ℕ → List ℕ
states_to c n = concat (map (state_of c) (range n))

-- "constraint (0,1), start 0"
abbrev pub runs_line : ℕ → ℕ → ℕ → List ℕ
runs_line d k start = said "constraint (#,#), start #\n" (d ∷ k ∷ start ∷ [])

-- "constraint of 2 states, start 0"
abbrev pub count_line : ℕ → ℕ → List ℕ
count_line K start = said "constraint of # state~, start #\n" (K ∷ K ∷ start ∷ [])

-- what `show` prints of a constraint and its start
unfoldable pub constraint_lines : Constraint → ℕ → List ℕ
constraint_lines c start =
    let K = length c in
    let d = least_run c in
    if ltb d K then runs_line d (K - 1) start else count_line K start ++ states_to c K

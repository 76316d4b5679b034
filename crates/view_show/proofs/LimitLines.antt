-- A constraint in words: which run-length constraint it is, and its next states line by line.
-- In order: states-none, states-more; same_runs; run-least, run_none; runs-told, states-told;
-- runs_so, runs-found.
-- Assumes nothing.
use Rattle.std.proofs.Common.{◌≡◌, ◌++◌, ◌+◌, ◌-◌, ◌≤◌, ◌<◌}
use Rattle.laws.proofs.All.{refl, sym, ap, ap₂, subst, ◌∙◌, true, false, and-false, [], ℕ}
use Rattle.laws.proofs.All.{arith, eqb-true, eq-eqb, lt-ltb, le-ltb, lt-leb, le-leb, T, eqb, length, get_or}
use Rattle.laws.proofs.All.{range, all, and→, T→true, bool_eq, all-below→, →all-below, map-range-at}
use Rattle.laws.proofs.All.{length-map-range, is-map, all-range-true, all-range-false, first-range-none}
use Rattle.laws.proofs.All.{first-least, concat-more}
use Rattle.constraint.specs.declared.Constraint.{Constraint}
use Rattle.constraint.specs.Walking.{NextStates, Constraint as Limits, nowhere, run_length_state, run_length}
use Rattle.constraint.specs.Value.{next_states_at, constraint_of}
use Rattle.constraint.proofs.Values.{length-constraint_of}
use Rattle.view_show.specs.Limits.{alike, alike_at, is_runs, least_run, state_line, state_of, states_to}
use Rattle.view_show.specs.Limits.{runs_line, count_line, constraint_lines}

module _ (c : Constraint) where
  at-state : (s : ℕ) → s < c.states → get_or (constraint_of c) s nowhere ≡ next_states_at c s
  at-state s h = map-range-at (next_states_at c) c.states s nowhere h

  -- ---- the lines of the states
  pub states-none : [] ≡ states_to (constraint_of c) 0
  unfolding states_to
  states-none = refl

  pub states-more : (s : ℕ) → s < c.states
      → states_to (constraint_of c) s ++ state_line s (get_or c.zero s 0) (get_or c.one s 0)
      ≡ states_to (constraint_of c) (s + 1)
  unfolding states_to
  states-more s h =
      ap (λ r. states_to (constraint_of c) s ++ state_line s r.zero r.one) (sym (at-state s h))
      ∙ sym (concat-more (state_of (constraint_of c)) s)

  -- ---- which run-length constraint it is
  -- a constraint with the states of (d, k) is compared with it
  pub same_runs : (b : Constraint) (d : ℕ) → 1 ≤ c.states → constraint_of b ≡ run_length d (c.states - 1)
      → all (λ i. alike (next_states_at c i) (next_states_at b i)) (range c.states) ≡ is_runs (constraint_of c) d
  same_runs b d some e = rw (length-constraint_of c)
      (bool_eq _ _
      (λ t. →all-below (alike_at (constraint_of c) (run_length d (c.states - 1))) c.states (λ i h.
      subst T (here i h) (all-below→ (λ i. alike (next_states_at c i) (next_states_at b i)) c.states t i h)))
      (λ t. →all-below (λ i. alike (next_states_at c i) (next_states_at b i)) c.states (λ i h.
      subst T (sym (here i h))
      (all-below→ (alike_at (constraint_of c) (run_length d (c.states - 1))) c.states t i h))))
    where
      long : b.states ≡ c.states
      long =
          let k : c.states - 1 + 1 ≡ c.states = omega arith in
          sym (length-constraint_of b) ∙ ap length e
          ∙ length-map-range (run_length_state d (c.states - 1)) (c.states - 1 + 1) ∙ k

      here : (i : ℕ) → i < c.states → alike (next_states_at c i) (next_states_at b i)
          ≡ alike_at (constraint_of c) (run_length d (c.states - 1)) i
      here i h =
          let l : i < b.states = subst (λ n. i < n) (sym long) h in
          ap₂ alike (sym (at-state i h)) (sym (map-range-at (next_states_at b) b.states i nowhere l)
          ∙ ap (λ x. get_or x i nowhere) e)

  pub run-least : (d : ℕ) → ((j : ℕ) → j < d → is_runs (constraint_of c) j ≡ false) → d < c.states
      → is_runs (constraint_of c) d ≡ true → d ≡ least_run (constraint_of c)
  unfolding least_run
  run-least d h l e =
      sym (first-least (is_runs (constraint_of c)) (length (constraint_of c)) (length (constraint_of c)) d h
      (subst (λ n. d < n) (sym (length-constraint_of c)) l) e)

  pub run_none : ((j : ℕ) → j < c.states → is_runs (constraint_of c) j ≡ false) → c.states ≡ least_run (constraint_of c)
  unfolding least_run
  run_none h =
      sym (length-constraint_of c)
      ∙ sym (first-range-none (is_runs (constraint_of c)) (length (constraint_of c)) (length (constraint_of c)) (λ j l.
      h j (subst (λ n. j < n) (length-constraint_of c) l)))

  -- ---- the lines
  pub runs-told : (d start : ℕ) → d ≡ least_run (constraint_of c) → d < c.states
      → runs_line d (c.states - 1) start ≡ constraint_lines (constraint_of c) start
  unfolding constraint_lines
  runs-told d start e h = rw (← e, length-constraint_of c, lt-ltb d c.states h)

  pub states-told : (d start : ℕ) → d ≡ least_run (constraint_of c) → c.states ≤ d
      → count_line c.states start ++ states_to (constraint_of c) c.states ≡ constraint_lines (constraint_of c) start
  unfolding constraint_lines
  states-told d start e h = rw (← e, length-constraint_of c, le-ltb d c.states h)

-- ---- what is told is so
alike-so : (a b : NextStates) → T (alike a b) → a ≡ b
alike-so a b t =
    let (z, o) = and→ (eqb a.zero b.zero) (eqb a.one b.one) t in
    ap₂ (λ x y. record { zero = x; one = y }) (eqb-true _ _ (T→true _ z)) (eqb-true _ _ (T→true _ o))

alike-own : (a : NextStates) → alike a a ≡ true
alike-own a = rw (eq-eqb a.zero a.zero refl, eq-eqb a.one a.one refl)

-- THEOREM: a constraint that is told as (d, k) is the run-length constraint (d, k)
pub runs_so : (c : Limits) (d : ℕ) → is_runs c d ≡ true → 1 ≤ length c → c ≡ run_length d (length c - 1)
runs_so c d e some = is-map nowhere (run_length_state d (length c - 1)) (length c - 1 + 1) c long (λ i h. at i h)
  where
    long : length c ≡ length c - 1 + 1
    long = omega arith

    at : (i : ℕ) → i < length c - 1 + 1 → get_or c i nowhere ≡ run_length_state d (length c - 1) i
    at i h = alike-so (get_or c i nowhere) (get_or (run_length d (length c - 1)) i nowhere)
        (all-below→ (alike_at c (run_length d (length c - 1))) (length c) (subst T (sym e) tt) i (omega arith))
        ∙ map-range-at (run_length_state d (length c - 1)) (length c - 1 + 1) i nowhere h

-- THEOREM: the run-length constraint (d, k) is told with its d
pub runs-found : (d k : ℕ) → d ≤ k → least_run (run_length d k) ≡ d
unfolding least_run
runs-found d k h =
    first-least (is_runs (run_length d k)) (length (run_length d k)) (length (run_length d k)) d lower
    (subst (λ n. d < n) (sym long) (omega arith)) own
  where
    long : length (run_length d k) ≡ k + 1
    long = length-map-range (run_length_state d k) (k + 1)

    less : length (run_length d k) - 1 ≡ k
    less = let l = long in omega arith

    own : is_runs (run_length d k) d ≡ true
    own = all-range-true (alike_at (run_length d k) (run_length d (length (run_length d k) - 1)))
        (length (run_length d k))
        (λ i l. ap (λ n. alike_at (run_length d k) (run_length d n) i) less
        ∙ alike-own (get_or (run_length d k) i nowhere))

    lower : (j : ℕ) → j < d → is_runs (run_length d k) j ≡ false
    lower j l =
        all-range-false (alike_at (run_length d k) (run_length j (length (run_length d k) - 1)))
        (length (run_length d k)) j
        (subst (λ n. j < n) (sym long) (omega arith))
        (ap (λ n. alike_at (run_length d k) (run_length j n) j) less
        ∙ ap₂ alike (map-range-at (run_length_state d k) (k + 1) j nowhere (omega arith))
        (map-range-at (run_length_state j k) (k + 1) j nowhere (omega arith))
        ∙ rw (lt-leb d j l, le-leb j j (omega arith))
        (and-false (eqb (run_length_state d k j).zero (run_length_state j k j).zero)))

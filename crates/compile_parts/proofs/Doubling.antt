-- Doubling the edges into a state.
-- In order: entered, entered-yes, entered-no, count_yes, count-taken, count_left,
-- entered_all; Grown, grown-room, grown-yes, grown-no,
-- turn-yes, turn-no; arc-kept, target-kept, here-yes, here-no; grown-end.
-- Assumes nothing.
use Rattle.std.proofs.Common.{◌≡◌, ◌∷◌, ◌++◌, ◌+◌, ◌≤◌, ◌<◌, if◌then◌else◌}
use Rattle.laws.proofs.All.{sym, ap, subst, ◌∙◌, List, [], map, append-nil, ℕ, arith}
use Rattle.laws.proofs.All.{eq-eqb, ne_eqb, length, get_or, length-append, length-map, range, filter}
use Rattle.laws.proofs.All.{map-append, filter-append, map-range-more, map-range-at, length-map-range, get_or-append}
use Rattle.compile_graph.specs.declared.Graph.{Graph}
use Rattle.compile_graph.specs.Arcs.{Arc, arc, enters}
use Rattle.compile_graph.specs.Splitting.{redirected}
use Rattle.compile_graph.specs.Value.{arc_at, arcs_in}
use Rattle.compile_parts.specs.Parts.{entering, Doubled}
use Rattle.compile_graph.proofs.Values.{with_arc, Appended, appended-count, appended-more, climbs}

-- ---- counting and doubling
module _ (g : Graph) (s : ℕ) where
  -- how many of the edges below i lead into s
  abbrev pub entered : ℕ → List Arc
  entered i = filter (enters s) (map (arc_at g) (range i))

  entered-snoc : (i : ℕ) → entered (i + 1) ≡ entered i ++ filter (enters s) (arc_at g i ∷ [])
  entered-snoc i =
      ap (filter (enters s)) (map-range-more (arc_at g) i)
      ∙ filter-append (enters s) (map (arc_at g) (range i)) (arc_at g i ∷ [])

  pub entered-yes : (i : ℕ) → get_or g.target i 0 ≡ s → entered (i + 1) ≡ entered i ++ (arc_at g i ∷ [])
  entered-yes i q =
      entered-snoc i ∙ ap (λ b. entered i ++ (if b then arc_at g i ∷ [] else [])) (eq-eqb (get_or g.target i 0) s q)

  pub entered-no : (i : ℕ) → (get_or g.target i 0 ≡ s → ⊥) → entered (i + 1) ≡ entered i
  entered-no i q =
      entered-snoc i ∙ ap (λ b. entered i ++ (if b then arc_at g i ∷ [] else [])) (ne_eqb (get_or g.target i 0) s q)
      ∙ append-nil (entered i)

  pub count_yes : (i : ℕ) → get_or g.target i 0 ≡ s → length (entered (i + 1)) ≡ length (entered i) + 1
  count_yes i q = ap length (entered-yes i q) ∙ length-append (entered i) (arc_at g i ∷ [])

  -- one turn of the loop that counts
  pub count-taken : (i k k' : ℕ) → k ≤ i → k ≡ length (entered i) → k' ≡ k + 1 → get_or g.target i 0 ≡ s
      → (k' ≤ i + 1) × (k' ≡ length (entered (i + 1)))
  count-taken i k k' l e f q = (omega arith, f ∙ ap (λ k. k + 1) e ∙ sym (count_yes i q))

  pub count_left : (i k k' : ℕ) → k ≤ i → k ≡ length (entered i) → k' ≡ k → (get_or g.target i 0 ≡ s → ⊥)
      → (k' ≤ i + 1) × (k' ≡ length (entered (i + 1)))
  count_left i k k' l e f q = (omega arith, f ∙ e ∙ sym (ap length (entered-no i q)))

  entered_all : (i n : ℕ) → i ≤ n → length (entered i) ≤ length (entered n)
  entered_all = climbs (λ i. length (entered i)) (λ i. omega (
    arith,
    ap length (entered-snoc i),
    length-append (entered i) (filter (enters s) (arc_at g i ∷ [])),
  ))

-- the first m edges of h are those of g, and after them those that the edges below i into s become
abbrev pub Grown : Graph → ℕ → Graph → ℕ → ℕ → Type 0
Grown g s h m i = Appended g h m (map (redirected g.states) (entered g s i))

module _ (g : Graph) (s : ℕ) (h : Graph) (m i : ℕ) (c : Grown g s h m i) where
  abbrev here : List Arc
  here = map (redirected g.states) (entered g s i)

  pub grown-room : i < g.edges → get_or g.target i 0 ≡ s → m < g.edges + entering (arcs_in g) s
  grown-room l q =
      omega (
        arith,
        appended-count g h m here c,
        length-map (entered g s i) (redirected g.states),
        count_yes g s i q,
        entered_all g s (i + 1) g.edges (omega arith),
      )

  pub grown-yes : m < 2048 → get_or g.target i 0 ≡ s
      → Grown g s (with_arc h m (get_or g.source i 0) (get_or g.word i 0) g.states) (m + 1) (i + 1)
  grown-yes l q =
      subst (Appended g (with_arc h m (get_or g.source i 0) (get_or g.word i 0) g.states) (m + 1))
      (sym (ap (map (redirected g.states)) (entered-yes g s i q)
      ∙ map-append (redirected g.states) (entered g s i) (arc_at g i ∷ [])))
      (appended-more g h m here c l (get_or g.source i 0) (get_or g.word i 0) g.states)

  pub grown-no : (get_or g.target i 0 ≡ s → ⊥) → Grown g s h m (i + 1)
  grown-no q = subst (λ L. Appended g h m (map (redirected g.states) L)) (sym (entered-no g s i q)) c

  -- one turn of the loop, and what it leaves
  pub turn-yes : (h' : Graph) (m' : ℕ) → h' ≡ with_arc h m (get_or g.source i 0) (get_or g.word i 0) g.states
      → m' ≡ m + 1 → m < 2048 → get_or g.target i 0 ≡ s → (m' ≤ 2048) × Grown g s h' m' (i + 1)
  turn-yes h' m' e f l q = (omega arith, rw (e, f) (grown-yes l q))

  pub turn-no : (h' : Graph) (m' : ℕ) → h' ≡ h → m' ≡ m → m ≤ 2048 → (get_or g.target i 0 ≡ s → ⊥)
      → (m' ≤ 2048) × Grown g s h' m' (i + 1)
  turn-no h' m' e f l q = (omega arith, rw (e, f) (grown-no q))

-- the edges of g stand in h as they were, so a turn may read them there
module _ (g : Graph) (s : ℕ) (h : Graph) (m i : ℕ) (c : Grown g s h m i) (k : i < g.edges) where
  pub arc-kept : arc_at h i ≡ arc_at g i
  arc-kept =
      let n = appended-count g h m _ c in
      let l : i < m = omega arith in
      let a : i < length (arcs_in g) = subst (λ x. i < x) (sym (length-map-range (arc_at g) g.edges)) k in
      sym (map-range-at (arc_at h) m i (arc 0 0 0) l) ∙ ap (λ L. get_or L i (arc 0 0 0)) c.arcs
      ∙ get_or-append (arcs_in g) _ (arc 0 0 0) i a ∙ map-range-at (arc_at g) g.edges i (arc 0 0 0) k

  pub target-kept : get_or h.target i 0 ≡ get_or g.target i 0
  target-kept = ap (λ a. a.target) arc-kept

  pub here-yes : (h' : Graph) (m' : ℕ) → h' ≡ with_arc h m (get_or h.source i 0) (get_or h.word i 0) g.states
      → m' ≡ m + 1 → m < 2048 → get_or h.target i 0 ≡ s → (m' ≤ 2048) × Grown g s h' m' (i + 1)
  here-yes h' m' e f l q =
      turn-yes g s h m i c h' m'
      (e ∙ ap (λ a. with_arc h m a.source a.word g.states) arc-kept) f l (sym target-kept ∙ q)

  pub here-no : (h' : Graph) (m' : ℕ) → h' ≡ h → m' ≡ m → m ≤ 2048 → (get_or h.target i 0 ≡ s → ⊥)
      → (m' ≤ 2048) × Grown g s h' m' (i + 1)
  here-no h' m' e f l q = turn-no g s h m i c h' m' e f l (λ z. q (target-kept ∙ z))

pub grown-end : (g : Graph) (s : ℕ) (h : Graph) (m : ℕ) → m ≤ 2048 → Grown g s h m g.edges
    → Doubled g s (record {
      states = h.states;
      edges = m;
      weight = h.weight;
      source = h.source;
      word = h.word;
      target = h.target;
    })
grown-end g s h m l c = record { arcs = c.arcs; room = l; states = c.states; weight = c.weight }

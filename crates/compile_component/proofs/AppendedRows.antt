-- The component's edges, appended word by word and state by state.
-- In order: row-yes, row-no, row-all; Rowed, rowed-yes, rowed-no, rowed-over, rowed-end; rows, rows_all; Done,
-- done_none, done_more, done-over, done_end; added_none.
-- Assumes nothing.
use Rattle.std.proofs.Common.{◌≡◌, ◌∷◌, ◌++◌, ◌+◌, ◌≤◌, ◌<◌}
use Rattle.laws.proofs.All.{refl, sym, ap, subst, ◌∙◌, List, [], map, append_assoc}
use Rattle.laws.proofs.All.{append-nil, ℕ, arith, lt-ltb, le-ltb, ltb-true, ltb-false, length, get_or}
use Rattle.laws.proofs.All.{length-append, range, filter, concat, range-more, concat-more, map-append}
use Rattle.laws.proofs.All.{filter-append}
use Rattle.compile_graph.specs.declared.Graph.{Graph}
use Rattle.std.proofs.Common.{None, Some}
use Rattle.compile_graph.specs.Arcs.{Arc}
use Rattle.compile_graph.specs.Value.{arcs_in}
use Rattle.compile_weights.specs.PowerTable.{entry_at}
use Rattle.compile_component.specs.ComponentParts.{place_of, row_keeps, row_arc, row_arcs, Added}
use Rattle.compile_graph.proofs.Values.{with_arc, Appended, appended-count, appended-more, arcs-count, climbs}

module _ (P I : List ℕ) (s : ℕ) where
  row_snoc : (w : ℕ) → row_arcs P I s (w + 1) ≡ row_arcs P I s w ++ map (row_arc P I s)
      (filter (row_keeps P I s) (w ∷ []))
  row_snoc w = rw (range-more w, filter-append (row_keeps P I s) (range w))
      (map-append (row_arc P I s) (filter (row_keeps P I s) (range w)) (filter (row_keeps P I s) (w ∷ [])))

  row-yes : (w : ℕ) → place_of I (entry_at P s w) < 16 → row_arcs P I s (w + 1) ≡ row_arcs P I s w
      ++ (row_arc P I s w ∷ [])
  row-yes w h = row_snoc w ∙ rw (lt-ltb (place_of I (entry_at P s w)) 16 h)

  row-no : (w : ℕ) → 16 ≤ place_of I (entry_at P s w) → row_arcs P I s (w + 1) ≡ row_arcs P I s w
  row-no w h = row_snoc w ∙ rw (le-ltb (place_of I (entry_at P s w)) 16 h) (append-nil (row_arcs P I s w))

  row-all : (w words : ℕ) → w ≤ words → length (row_arcs P I s w) ≤ length (row_arcs P I s words)
  row-all = climbs (λ w. length (row_arcs P I s w)) (λ w. omega (
    arith,
    ap length (row_snoc w),
    length-append (row_arcs P I s w) (map (row_arc P I s) (filter (row_keeps P I s) (w ∷ []))),
  ))

  -- the first m edges of h are those of g and the words below w
  abbrev pub Rowed : Graph → Graph → ℕ → ℕ → Type 0
  Rowed g h m w = Appended g h m (row_arcs P I s w)

  module _ (g h : Graph) (m w : ℕ) (c : Rowed g h m w) where
    pub rowed-yes : (t : ℕ) → t ≡ place_of I (entry_at P s w) → m < 2048 → t < 16
        → Rowed g (with_arc h m (get_or I s 0) w t) (m + 1) (w + 1)
    rowed-yes t e l q =
        rw (row-yes w (rw e at q), ← e) (appended-more g h m (row_arcs P I s w) c l (get_or I s 0) w t)

    pub rowed-no : 16 ≤ place_of I (entry_at P s w) → Rowed g h m (w + 1)
    rowed-no q = subst (Appended g h m) (sym (row-no w q)) c

    pub rowed-over : (words : ℕ) → w < words → 2048 ≤ m → place_of I (entry_at P s w) < 16
        → Added g (row_arcs P I s words) None
    rowed-over words l k q = record {
      crowds = sym (lt-ltb 2048 (g.edges + length (row_arcs P I s words))
          (omega (
            arith,
            appended-count g h m (row_arcs P I s w) c,
            row-all (w + 1) words (omega arith),
            ap length (row-yes w q),
            length-append (row_arcs P I s w) (row_arc P I s w ∷ []),
          )));
      extends = tt;
    }

    pub rowed-end : m ≤ 2048 → Added g (row_arcs P I s w) (Some (record {
      states = h.states;
      edges = m;
      weight = h.weight;
      source = h.source;
      word = h.word;
      target = h.target;
    }))
    rowed-end l = record {
      crowds = sym (le-ltb 2048 (g.edges + length (row_arcs P I s w))
          (omega (arith, appended-count g h m (row_arcs P I s w) c)));
      extends = record { arcs = c.arcs; states = c.states; weight = c.weight };
    }

-- ---- state by state
module _ (row : ℕ → List Arc) where
  abbrev pub rows : ℕ → List Arc
  rows k = concat (map row (range k))

  rows_all : (i k : ℕ) → i ≤ k → length (rows i) ≤ length (rows k)
  rows_all = climbs (λ k. length (rows k))
      (λ k. omega (arith, ap length (concat-more row k), length-append (rows k) (row k)))

  pub record Done (g h : Graph) (i : ℕ) : Type 0 where
    pub arcs : arcs_in h ≡ arcs_in g ++ rows i
    pub room : h.edges ≤ 2048
    pub states : h.states ≡ g.states
    pub weight : h.weight ≡ g.weight

  pub done_none : (g : Graph) → g.edges ≤ 2048 → Done g g 0
  done_none g h = record { arcs = sym (append-nil (arcs_in g)); room = h; states = refl; weight = refl }

  module _ (g h : Graph) (i : ℕ) (c : Done g h i) where
    done-count : h.edges ≡ g.edges + length (rows i)
    done-count = arcs-count g h h.edges (rows i) c.arcs

    more-count : length (rows (i + 1)) ≡ length (rows i) + length (row i)
    more-count = ap length (concat-more row i) ∙ length-append (rows i) (row i)

    pub done_more : (q : Graph) → Added h (row i) (Some q) → Done g q (i + 1)
    done_more q a =
        let e = a.extends in
        record {
          arcs = e.arcs ∙ rw (c.arcs, concat-more row i) (append_assoc (arcs_in g) (rows i) (row i));
          room =
              let l = arcs-count h q q.edges (row i) e.arcs in
              omega (arith, ltb-false 2048 (h.edges + length (row i)) (sym a.crowds));
          states = e.states ∙ c.states;
          weight = e.weight ∙ c.weight;
        }

    pub done-over : (k : ℕ) → i < k → Added h (row i) None → Added g (rows k) None
    done-over k l a = record {
      crowds =
          sym (lt-ltb 2048 (g.edges + length (rows k))
          (omega (
            arith,
            ltb-true 2048 (h.edges + length (row i)) (sym a.crowds),
            done-count,
            more-count,
            rows_all (i + 1) k (omega arith),
          )));
      extends = tt;
    }

    pub done_end : Added g (rows i) (Some h)
    done_end = record {
      crowds = sym (le-ltb 2048 (g.edges + length (rows i)) (omega (arith, done-count, c.room)));
      extends = record { arcs = c.arcs; states = c.states; weight = c.weight };
    }

pub added_none : (g : Graph) → g.edges ≤ 2048 → Added g [] (Some g)
added_none g h = record {
  crowds = sym (le-ltb 2048 (g.edges + 0) (omega arith));
  extends = record { arcs = sym (append-nil (arcs_in g)); states = refl; weight = refl };
}

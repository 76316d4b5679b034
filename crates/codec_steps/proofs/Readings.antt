-- The readings of a block, edge by edge.
-- In order: readings→, →readings; some→, a block with no words ahead, →some.
-- Assumes nothing.
use Rattle.std.proofs.Common.{◌&&◌, ◌<◌}
use Rattle.laws.proofs.All.{subst, Bool, true, List, ℕ, arith, T, eqb, eqb→eq, eqb_refl, length}
use Rattle.laws.proofs.All.{range, elem, and→, →and, any→, →any, any-below→, →any-below, →tab, member, any-map}
use Rattle.laws.proofs.All.{any-concat, elem-filter, →elem-filter, elem-range}
use Rattle.table.specs.Rows.{edge, Rows, edges, at, has_word}
use Rattle.table.specs.Paths.{Closed}
use Rattle.codec_steps.specs.StateSets.{every_state, enters}
use Rattle.codec_steps.specs.Reading.{readings_of, readings, some_edge}

module _ (g : Rows) (S : List Bool) (w : ℕ) where
  module _ (A : List Bool) where
    -- a reading is the datum of an edge from S with the word w into A
    pub readings→ : (d : ℕ) → T (elem d (readings g S w A))
        → (s : ℕ) × (s < length g) × T (member S s) × (d < length (edges g s)) × T (enters A w (at g s d))
    readings→ d h =
        let (s, n, u) = any-below→ (λ s. elem d (readings_of g S w A s)) (length g) (simp (any-concat, any-map) at h) in
        let (p, q) = elem-filter (λ d. member S s && enters A w (at g s d)) d (range (length (edges g s))) u in
        let (m, e) = and→ (member S s) (enters A w (at g s d)) p in
        let (i, l, k) = any-below→ (eqb d) (length (edges g s)) q in
        (s, n, m, omega (arith, eqb→eq d i k), e)

    pub →readings : (s d : ℕ) → s < length g → T (member S s) → d < length (edges g s) → T (enters A w (at g s d))
        → T (elem d (readings g S w A))
    →readings s d n m l e =
        simp (any-concat, any-map) (→any-below (λ s. elem d (readings_of g S w A s)) (length g) s n
        (→elem-filter (λ d. member S s && enters A w (at g s d)) d (range (length (edges g s)))
        (elem-range (length (edges g s)) d l) (→and (member S s) (enters A w (at g s d)) m e)))

  -- where an edge from S has the word w, wherever it leads, there is a reading with no words ahead
  pub some→ : Closed g → T (some_edge g S w) → (d : ℕ) × T (elem d (readings g S w (every_state g)))
  some→ closed h =
      let (s, n, u) = any-below→ _ (length g) h in
      let (m, k) = and→ (member S s) _ u in
      let q : T (has_word w (edges g s)) = k in
      let (d, l, e) = any→ (λ e. eqb w e.word) (edge 0 0) (edges g s)
      (subst T (any-map (eqb w) (λ e. e.word) (edges g s)) q) in (
        d,
        →readings (every_state g) s d n m l
            (→and (eqb (at g s d).word w) (member (every_state g) (at g s d).next)
            (subst (λ x. T (eqb x w)) (eqb→eq w (at g s d).word e) (eqb_refl w))
            (→tab (λ s. true) (length g) (at g s d).next (closed s d l) tt)),
      )

  -- where there is a reading, an edge from S has the word w
  pub →some : (A : List Bool) (d : ℕ) → T (elem d (readings g S w A)) → T (some_edge g S w)
  →some A d h =
      let (s, n, m, l, e) = readings→ A d h in
      let (k, _) = and→ (eqb (at g s d).word w) (member A (at g s d).next) e in
      →any-below _ (length g) s n (→and (member S s) (has_word w (edges g s)) m
      (simp any-map (→any (λ e. eqb w e.word) (edge 0 0) (edges g s) d l
      (rw (eqb→eq (at g s d).word w k) (eqb_refl w)))))

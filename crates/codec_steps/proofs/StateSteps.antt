-- Sets of states in two machine words, stepped by a word edge by edge.
-- In order: states-every, states-one; test-place, place-test, a test over the edges of a state; leads_at, along-places;
-- enters_at, back-places.
-- Assumes nothing.
use Rattle.std.proofs.Common.{◌≡◌, ◌&&◌, ◌+◌, ◌*◌, ◌/◌, ◌%◌, ◌<◌}
use Rattle.laws.proofs.All.{sym, ap, subst, ◌∙◌, Bool, true, map, ℕ, arith}
use Rattle.laws.proofs.All.{ltb-true, T, eqb, eqb→eq, eqb_refl, length, range, any, member, and→, →and, T→true}
use Rattle.laws.proofs.All.{bool_eq, any→, →any, any-below→, →any-below}
use Rattle.table.specs.Rows.{Edge, edge, Rows, edges}
use Rattle.table.specs.Marks.{some}
use Rattle.table.specs.Edges.{Arrays, edge_of, rows_of, places, is_edge, word_of, next_of, Fits, bears}
use Rattle.table.proofs.Marks.{found, some_at}
use Rattle.table.proofs.Edges.{bears-edge, bears-word}
use Rattle.table.proofs.RowsOf.{length-rows, row-long, edge-at, place, place-state, place-lt, place-edge, place-next}
use Rattle.bitsets.specs.declared.BitSet.{BitSet}
use Rattle.bitsets.specs.BitSets.{holds, yes_no}
use Rattle.bitsets.proofs.Sets.{yes-member, yes-same}
use Rattle.codec_steps.specs.StateSets.{every_state, one_state, leads_by, leads, reachable, along, enters, back}

-- ---- a set of all states, and of one
module _ (n : ℕ) (t : Rows) (e : length t ≡ n) (S : BitSet) where
  pub states-every : ((s : ℕ) → s < n → holds S s ≡ true) → yes_no n S ≡ every_state t
  states-every h = yes-same n S (λ s. true) h ∙ ap (λ m. map (λ s. true) (range m)) (sym e)

  pub states-one : ((s : ℕ) → holds S s ≡ eqb 0 s) → yes_no n S ≡ one_state t 0
  states-one h = yes-same n S (eqb 0) (λ s l. h s) ∙ ap (λ m. map (eqb 0) (range m)) (sym e)

-- ---- a test over the edges of a state
module _ (t : Arrays) (p : Edge → Bool) where
  pub test-place : (e : ℕ) → e < places t → is_edge t e ≡ true → T (p (edge (word_of t e) (next_of t e)))
      → T (any p (edges (rows_of t) (e / 16)))
  test-place e l q h =
      let hs : e / 16 < t.states = omega arith in
      let hd : e % 16 < t.ways = ltb-true _ _ q in
      →any p (edge 0 0) (edges (rows_of t) (e / 16)) (e % 16) (rw (row-long t (e / 16) hs) hd)
      (subst (λ x. T (p x)) (sym (edge-at t (e / 16) (e % 16) hs hd
      ∙ ap (λ k. edge (word_of t k) (next_of t k)) (place e))) h)

  pub place-test : (s : ℕ) → s < t.states → T (any p (edges (rows_of t) s))
      → (d : ℕ) × (d < t.ways) × T (p (edge_of t s d))
  place-test s hs h =
      let (d, hd, g) = any→ p (edge 0 0) (edges (rows_of t) s) h in
      let l : d < t.ways = rw (row-long t s hs) at hd in
      (d, l, subst (λ x. T (p x)) (edge-at t s d hs l) g)

-- an edge that bears the word w, by its state and its datum
bears-at : (t : Arrays) → Fits t → (w s d : ℕ) → s < t.states → d < t.ways → word_of t (s * 16 + d) ≡ w
    → T (bears t w (s * 16 + d))
bears-at t g w s d hs hd v =
    →and (is_edge t (s * 16 + d)) (eqb (word_of t (s * 16 + d)) w) (rw (place-edge t s d g hs hd) tt)
    (rw v (eqb_refl w))

-- ---- forward
-- the edge e has the word w and leads from a state of S to x
abbrev pub leads_at : Arrays → BitSet → ℕ → ℕ → ℕ → Bool
leads_at t S w x e = bears t w e && (holds S (e / 16) && eqb (next_of t e) x)

module _ (t : Arrays) (g : Fits t) (S : BitSet) (w x : ℕ) where
  lead→ : T (some (leads_at t S w x) (places t)) → T (reachable (rows_of t) (yes_no t.states S) w x)
  lead→ h =
      let (e, l, f) = found (leads_at t S w x) (places t) h in
      let (b, m) = and→ (bears t w e) (holds S (e / 16) && eqb (next_of t e) x) f in
      let (i, y) = and→ (holds S (e / 16)) (eqb (next_of t e) x) m in
      let q : bears t w e ≡ true = T→true (bears t w e) b in
      let hs : e / 16 < t.states = omega arith in
      →any-below _ (length (rows_of t)) (e / 16) (rw (length-rows t) hs)
      (→and (member (yes_no t.states S) (e / 16)) (leads (rows_of t) (e / 16) w x)
      (rw (yes-member t.states S (e / 16) hs) i)
      (test-place t (leads_by w x) e l (bears-edge t w e q)
      (→and (eqb (word_of t e) w) (eqb (next_of t e) x) (rw (bears-word t w e q) (eqb_refl w)) y)))

  →lead : T (reachable (rows_of t) (yes_no t.states S) w x) → T (some (leads_at t S w x) (places t))
  →lead h =
      let (s, l, f) = any-below→ _ (length (rows_of t)) h in
      let hs : s < t.states = omega (arith, length-rows t) in
      let (i, k) = and→ (member (yes_no t.states S) s) (leads (rows_of t) s w x) f in
      let (d, hd, p) = place-test t (leads_by w x) s hs k in
      let (v, y) = and→ (eqb (word_of t (s * 16 + d)) w) (eqb (next_of t (s * 16 + d)) x) p in
      some_at (leads_at t S w x) (places t) (s * 16 + d) (place-lt t s d g hs hd)
      (→and (bears t w (s * 16 + d)) (holds S ((s * 16 + d) / 16) && eqb (next_of t (s * 16 + d)) x)
      (bears-at t g w s d hs hd (eqb→eq (word_of t (s * 16 + d)) w v))
      (→and (holds S ((s * 16 + d) / 16)) (eqb (next_of t (s * 16 + d)) x)
      (rw (place-state t s d g hs hd) (rw (yes-member t.states S s hs) at i)) y))

-- a set of all states to which edges lead is the step
pub along-places : (t : Arrays) → Fits t → (S R : BitSet) (w : ℕ)
    → ((x : ℕ) → holds R x ≡ some (leads_at t S w x) (places t))
    → yes_no t.states R ≡ along (rows_of t) (yes_no t.states S) w
along-places t g S R w h =
    yes-same t.states R (reachable (rows_of t) (yes_no t.states S) w)
    (λ x l. h x ∙ bool_eq (some (leads_at t S w x) (places t)) (reachable (rows_of t) (yes_no t.states S) w x)
    (lead→ t g S w x) (→lead t g S w x))
    ∙ ap (λ k. map (reachable (rows_of t) (yes_no t.states S) w) (range k)) (sym (length-rows t))

-- ---- back
-- the edge e has the word w and leads from x into S
abbrev pub enters_at : Arrays → BitSet → ℕ → ℕ → ℕ → Bool
enters_at t S w x e = bears t w e && (holds S (next_of t e) && eqb (e / 16) x)

module _ (t : Arrays) (g : Fits t) (S : BitSet) (w x : ℕ) (hx : x < t.states) where
  enter→ : T (some (enters_at t S w x) (places t)) → T (any (enters (yes_no t.states S) w) (edges (rows_of t) x))
  enter→ h =
      let (e, l, f) = found (enters_at t S w x) (places t) h in
      let (b, m) = and→ (bears t w e) (holds S (next_of t e) && eqb (e / 16) x) f in
      let (i, y) = and→ (holds S (next_of t e)) (eqb (e / 16) x) m in
      let q : bears t w e ≡ true = T→true (bears t w e) b in
      let k : next_of t e < t.states = g.inside e l (bears-edge t w e q) in
      subst (λ s. T (any (enters (yes_no t.states S) w) (edges (rows_of t) s))) (eqb→eq (e / 16) x y)
      (test-place t (enters (yes_no t.states S) w) e l (bears-edge t w e q)
      (→and (eqb (word_of t e) w) (member (yes_no t.states S) (next_of t e)) (rw (bears-word t w e q) (eqb_refl w))
      (rw (yes-member t.states S (next_of t e) k) i)))

  →enter : T (any (enters (yes_no t.states S) w) (edges (rows_of t) x)) → T (some (enters_at t S w x) (places t))
  →enter h =
      let (d, hd, p) = place-test t (enters (yes_no t.states S) w) x hx h in
      let (v, i) = and→ (eqb (word_of t (x * 16 + d)) w) (member (yes_no t.states S) (next_of t (x * 16 + d))) p in
      some_at (enters_at t S w x) (places t) (x * 16 + d) (place-lt t x d g hx hd)
      (→and (bears t w (x * 16 + d)) (holds S (next_of t (x * 16 + d)) && eqb ((x * 16 + d) / 16) x)
      (bears-at t g w x d hx hd (eqb→eq (word_of t (x * 16 + d)) w v))
      (→and (holds S (next_of t (x * 16 + d))) (eqb ((x * 16 + d) / 16) x)
      (rw (yes-member t.states S (next_of t (x * 16 + d)) (place-next t x d g hx hd)) at i)
      (rw (place-state t x d g hx hd) (eqb_refl x))))

-- a set of all states whose edges lead into S is the step back
pub back-places : (t : Arrays) → Fits t → (S R : BitSet) (w : ℕ)
    → ((x : ℕ) → holds R x ≡ some (enters_at t S w x) (places t))
    → yes_no t.states R ≡ back (rows_of t) (yes_no t.states S) w
back-places t g S R w h =
    yes-same t.states R (λ s. any (enters (yes_no t.states S) w) (edges (rows_of t) s))
    (λ x l. h x ∙ bool_eq (some (enters_at t S w x) (places t))
    (any (enters (yes_no t.states S) w) (edges (rows_of t) x))
    (enter→ t g S w x l) (→enter t g S w x l))
    ∙ ap (λ k. map (λ s. any (enters (yes_no t.states S) w) (edges (rows_of t) s)) (range k)) (sym (length-rows t))

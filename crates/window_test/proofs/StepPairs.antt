-- Two edges with one word are what the definitions step by.
-- In order: step→, →step, one word on; hit→, →hit, a clash; by_two; step-pairs, a step forward; hits-pairs, a step by
-- a clash.
-- Assumes nothing.
use Rattle.std.proofs.Common.{None, ◌≡◌, ◌<◌}
use Rattle.laws.proofs.All.{sym, ap, subst₂, ◌∙◌, Bool, true, false, List, ℕ, T, length, Pairs, has, grid}
use Rattle.laws.proofs.All.{bool_eq}
use Rattle.table.specs.Rows.{edges}
use Rattle.window.specs.Works.{into, reversed}
use Rattle.window.specs.Search.{hits}
use Rattle.table.specs.Marks.{some}
use Rattle.table.specs.Edges.{Arrays, Fits, rows_of}
use Rattle.window.proofs.Same.{onward}
use Rattle.window.proofs.Complete.{back_one}
use Rattle.window.proofs.Clashes.{Hit, hits→, →hits}
use Rattle.table.proofs.RowsOf.{length-rows, row-long, edge-at, closed-rows}
use Rattle.table.proofs.EqualGrids.{grid-has}
use Rattle.bitsets.specs.declared.BitSet.{BitSet}
use Rattle.bitsets.specs.BitSets.{holds, set_at}
use Rattle.window_pairs.specs.PairSets.{pairs_in, joins_by, clashes_by}
use Rattle.window_pairs.proofs.PairSets.{has-pairs, pairs-grid}
use Rattle.window.proofs.PastSets.{into-grid}
use Rattle.window_test.proofs.TwoEdges.{Bytes, Two, join→, →join, clash→, →clash}

-- ---- the definitions' two edges
module _ (t : Arrays) (g : Fits t) (P : List BitSet) (x y : ℕ) (hx : x < t.states) (hy : y < t.states) where
  -- the edges are there
  there : (s d : ℕ) → s < t.states → d < t.ways → d < length (edges (rows_of t) s)
  there s d hs hd = rw (row-long t s hs) hd

  state : (s : ℕ) → s < t.states → s < length (rows_of t)
  state s hs = rw (length-rows t) hs

  held : (s u : ℕ) → s < t.states → u < t.states → has (pairs_in t.states P) s u ≡ holds (set_at P s) u
  held s u hs hu = has-pairs t.states P s u hs hu

  step→ : Two t P false x y → T (has (into (reversed (rows_of t)) (pairs_in t.states P)) x y)
  step→ r =
      let a = edge-at t r.s r.d r.hs r.hd in
      let b = edge-at t r.u r.e r.hu r.he in
      subst₂ (λ k l. T (has (into (reversed (rows_of t)) (pairs_in t.states P)) k l))
      (ap (λ k. k.next) a ∙ r.next) (ap (λ k. k.next) b ∙ r.next')
      (onward (rows_of t) (pairs_in t.states P) r.s r.u r.d r.e (closed-rows t g) (state r.s r.hs)
      (state r.u r.hu) (there r.s r.d r.hs r.hd) (there r.u r.e r.hu r.he)
      (ap (λ k. k.word) a ∙ r.word ∙ sym (ap (λ k. k.word) b))
      (rw (held r.s r.u r.hs r.hu) r.inside))

  →step : T (has (into (reversed (rows_of t)) (pairs_in t.states P)) x y) → Two t P false x y
  →step h =
      let (s, u, d, e, ks, ku, i, kd, ke, w, p, q) =
      back_one (rows_of t) (pairs_in t.states P) x y (state x hx) (state y hy) h in
      let hs : s < t.states = rw (length-rows t) at ks in
      let hu : u < t.states = rw (length-rows t) at ku in
      let hd : d < t.ways = rw (row-long t s hs) at kd in
      let he : e < t.ways = rw (row-long t u hu) at ke in
      let a = edge-at t s d hs hd in
      let b = edge-at t u e hu he in
      record {
        s = s;
        u = u;
        d = d;
        e = e;
        hs = hs;
        hu = hu;
        hd = hd;
        he = he;
        inside = rw (held s u hs hu) at i;
        differ = λ k. absurd k;
        word = sym (ap (λ k. k.word) a) ∙ w ∙ ap (λ k. k.word) b;
        next = sym (ap (λ k. k.next) a) ∙ p;
        next' = sym (ap (λ k. k.next) b) ∙ q;
      }

  hit→ : Two t P true x y → T (has (hits (rows_of t) (pairs_in t.states P)) x y)
  hit→ r =
      let a = edge-at t r.s r.d r.hs r.hd in
      let b = edge-at t r.u r.e r.hu r.he in
      subst₂ (λ k l. T (has (hits (rows_of t) (pairs_in t.states P)) k l))
      (ap (λ k. k.next) a ∙ r.next) (ap (λ k. k.next) b ∙ r.next')
      (→hits (rows_of t) (closed-rows t g) (pairs_in t.states P) r.s r.u r.d r.e (state r.s r.hs)
      (state r.u r.hu) (there r.s r.d r.hs r.hd) (there r.u r.e r.hu r.he)
      (rw (held r.s r.u r.hs r.hu) r.inside) (r.differ tt)
      (ap (λ k. k.word) a ∙ r.word ∙ sym (ap (λ k. k.word) b)))

  →hit : T (has (hits (rows_of t) (pairs_in t.states P)) x y) → Two t P true x y
  →hit h =
      let k : Hit (rows_of t) (pairs_in t.states P) x y = hits→ (rows_of t) (pairs_in t.states P) x y h in
      let hs : k.s < t.states = rw (length-rows t) at k.hs in
      let hu : k.t < t.states = rw (length-rows t) at k.ht in
      let hd : k.x < t.ways = rw (row-long t k.s hs) at k.hx in
      let he : k.y < t.ways = rw (row-long t k.t hu) at k.hy in
      let a = edge-at t k.s k.x hs hd in
      let b = edge-at t k.t k.y hu he in
      record {
        s = k.s;
        u = k.t;
        d = k.x;
        e = k.y;
        hs = hs;
        hu = hu;
        hd = hd;
        he = he;
        inside = rw (held k.s k.t hs hu) at k.inside;
        differ = λ l. k.apart;
        word = sym (ap (λ k. k.word) a) ∙ k.word ∙ ap (λ k. k.word) b;
        next = sym (ap (λ k. k.next) a) ∙ k.next;
        next' = sym (ap (λ k. k.next) b) ∙ k.next';
      }

-- ---- what the code's array holds
module _ (t : Arrays) (P R : List BitSet) (apart : Bool) (f : ℕ → ℕ → Bool)
    (h : (x y : ℕ) → x < t.states → holds (set_at R x) y ≡ f x y)
    (f→ : (x y : ℕ) → T (f x y) → Two t P apart x y) (→f : (x y : ℕ) → Two t P apart x y → T (f x y)) where
  by_two : (Q : Pairs) → ((x y : ℕ) → x < t.states → y < t.states → Two t P apart x y → T (has Q x y))
      → ((x y : ℕ) → x < t.states → y < t.states → T (has Q x y) → Two t P apart x y)
      → pairs_in t.states R ≡ grid t.states t.states (has Q)
  by_two Q q→ →q = pairs-grid t.states R (has Q) (λ x y hx hy. h x y hx
      ∙ bool_eq (f x y) (has Q x y) (λ v. q→ x y hx hy (f→ x y v)) (λ v. →f x y (→q x y hx hy v)))

pub step-pairs : (t : Arrays) → Fits t → Bytes t → (P R : List BitSet)
    → ((u v : ℕ) → u < t.states → holds (set_at R u) v ≡ some (joins_by t P None u v) 256)
    → pairs_in t.states R ≡ into (reversed (rows_of t)) (pairs_in t.states P)
step-pairs t g l P R h =
    let Q = into (reversed (rows_of t)) (pairs_in t.states P) in
    by_two t P R false (λ u v. some (joins_by t P None u v) 256) h (join→ t g l P) (→join t g l P) Q (step→ t g P)
    (→step t g P)
    ∙ sym (into-grid (rows_of t) (pairs_in t.states P) ∙ ap (λ n. grid n n (has Q)) (length-rows t))

pub hits-pairs : (t : Arrays) → Fits t → Bytes t → (P R : List BitSet)
    → ((u v : ℕ) → u < t.states → holds (set_at R u) v ≡ some (clashes_by t P u v) 256)
    → pairs_in t.states R ≡ hits (rows_of t) (pairs_in t.states P)
hits-pairs t g l P R h =
    let Q = hits (rows_of t) (pairs_in t.states P) in
    by_two t P R true (λ u v. some (clashes_by t P u v) 256) h (clash→ t g l P) (→clash t g l P) Q (hit→ t g P)
    (→hit t g P)
    ∙ sym (grid-has (length (rows_of t)) (length (rows_of t)) _ ∙ ap (λ n. grid n n (has Q)) (length-rows t))

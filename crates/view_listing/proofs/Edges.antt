-- The lines of all edges in a row are those of the code that a table stands for.
-- In order: edges_few; EdgeAt, edge-good; rows-flat; edges_are; lines_none, lines_more, line_of, lines_are.
-- Assumes nothing.
use Rattle.std.proofs.Common.{◌≡◌, ◌++◌, ◌+◌, ◌*◌, ◌/◌, ◌%◌, ◌^◌, ◌≤◌, ◌<◌}
use Rattle.laws.proofs.All.{refl, sym, ap, ap₂, subst, ◌∙◌, List, [], map, append_assoc, append-nil, ℕ}
use Rattle.laws.proofs.All.{zero, suc, mod-lt, mod-eq_of_lt, div-lt_iff_lt-mul}
use Rattle.laws.proofs.All.{add-mul-div_right, mul-add-mod_self_right, div-eq_of_lt, add_comm, mul-le-mul, arith}
use Rattle.laws.proofs.All.{pow_pos, pow_mono, range, concat, concat-more}
use Rattle.constraint.proofs.Values.{map_below}
use Rattle.table.specs.declared.Table.{Table}
use Rattle.table.specs.Edges.{lent}
use Rattle.table.specs.Value.{word_at, next_at, code_in, Ready}
use Rattle.table.proofs.RowsOf.{length-rows, row-long, edge-at, ways-small}
use Rattle.view_listing.specs.Edges.{row_edges, all_edges, Line, edge_line, edge_lines, line_at, lines_to}

-- ---- the edges of a table, counted over all states
pub edges_few : (t : Table) → Ready t → (n : ℕ) → n ≡ 2 ^ t.p → t.states * n ≤ 2048
edges_few t ready n p =
    let l = ways-small t.p ready.narrow in
    mul-le-mul {n₁ = t.states} {m₁ = n} {n₂ = 128} {m₂ = 16} ready.few (omega arith)

-- where edge e of a table with n edges a state stands
pub record EdgeAt (t : Table) (n e : ℕ) : Type 0 where
  pub some : 1 ≤ n
  pub narrow : n ≤ 16
  pub datum : e % n < 16
  pub few : t.states * n ≤ 2048
  pub state : e / n < 128
  pub place : e / n * 16 + e % n < 2048
  pub word : word_at t (e / n) (e % n) < 256
  pub next : next_at t (e / n) (e % n) < 1000

pub edge-good : (t : Table) (n e : ℕ) → Ready t → n ≡ 2 ^ t.p → e < t.states * n → EdgeAt t n e
edge-good t n e good p h =
    let one : 1 ≤ n = let l = pow_pos t.p in omega arith in
    let few : n ≤ 16 = let l = ways-small t.p good.narrow in omega arith in
    let state : e / n < t.states = (div-lt_iff_lt-mul {k = n} {x = e} {y = t.states} one).1 h in
    let small : e % n < n = mod-lt e one in
    let datum : e % n < 2 ^ t.p = subst (λ m. e % n < m) p small in
    let k = good.few in
    record {
      some = one;
      narrow = few;
      datum = omega arith;
      few = edges_few t good n p;
      state = omega arith;
      place = omega arith;
      word = omega (arith, good.reading (e / n) (e % n) state datum, pow_mono {i = t.q} {j = 8} good.short);
      next = omega (arith, good.inside (e / n) (e % n) state datum);
    }

-- ---- rows of n lines in one row
flat-more : (F : ℕ → List ℕ) (m j : ℕ)
    → concat (map F (range (m + j))) ≡ concat (map F (range m)) ++ concat (map (λ d. F (m + d)) (range j))
flat-more F m zero =
    let z : m + 0 ≡ m = omega arith in
    ap (λ k. concat (map F (range k))) z ∙ sym (append-nil (concat (map F (range m))))
flat-more F m (suc j) =
    let z : m + suc j ≡ m + j + 1 = omega arith in
    let y : suc j ≡ j + 1 = omega arith in
    let G : ℕ → List ℕ = λ d. F (m + d) in
    ap (λ k. concat (map F (range k))) z ∙ concat-more F (m + j) ∙ ap (λ l. l ++ F (m + j)) (flat-more F m j)
    ∙ append_assoc (concat (map F (range m))) (concat (map G (range j))) (G j)
    ∙ ap (λ l. concat (map F (range m)) ++ l) (sym (concat-more G j) ∙ ap (λ k. concat (map G (range k))) (sym y))

pub rows-flat : (f : ℕ → ℕ → List ℕ) (n k : ℕ) → 1 ≤ n
    → concat (map (λ s. concat (map (f s) (range n))) (range k)) ≡ concat
    (map (λ e. f (e / n) (e % n)) (range (k * n)))
rows-flat f n zero h = let z : 0 * n ≡ 0 = omega arith in rw z
rows-flat f n (suc k) h =
    let z : suc k * n ≡ k * n + n = omega arith in
    let y : suc k ≡ k + 1 = omega arith in
    let row : ℕ → List ℕ = λ s. concat (map (f s) (range n)) in
    let F : ℕ → List ℕ = λ e. f (e / n) (e % n) in
    ap (λ m. concat (map row (range m))) y ∙ concat-more row k ∙ ap₂ ◌++◌ (rows-flat f n k h) (last k)
    ∙ sym (flat-more F (k * n) n) ∙ ap (λ m. concat (map F (range m))) (sym z)
  where
    last : (k : ℕ) → concat (map (f k) (range n)) ≡ concat (map (λ d. f ((k * n + d) / n) ((k * n + d) % n)) (range n))
    last k = ap concat (map_below [] (f k) (λ d. f ((k * n + d) / n) ((k * n + d) % n)) n (λ d l.
        let z : d / n + k ≡ k = rw (div-eq_of_lt l) (omega arith) in
        let q : (k * n + d) / n ≡ k =
        ap (λ m. m / n) (add_comm (k * n) d) ∙ add-mul-div_right d k {z = n} (omega arith) ∙ z in
        let r : (k * n + d) % n ≡ d = mul-add-mod_self_right k n d ∙ mod-eq_of_lt l in
        ap₂ f (sym q) (sym r)))

-- ---- a text for each edge
module _ (t : Table) (F G : ℕ → ℕ → List ℕ)
    (same : (s d : ℕ) → s < t.states → d < 2 ^ t.p → F s d ≡ G s d) where
  row_is : (s : ℕ) → s < t.states → row_edges F (code_in t) s ≡ concat (map (G s) (range (2 ^ t.p)))
  row_is s h =
      ap (λ n. concat (map (F s) (range n))) (row-long (lent t) s h)
      ∙ ap concat (map_below [] (F s) (G s) (2 ^ t.p) (λ d l. same s d h l))

  -- THEOREM: the edges of all states in order
  pub edges_are : (n : ℕ) → n ≡ 2 ^ t.p
      → concat (map (λ e. G (e / 2 ^ t.p) (e % 2 ^ t.p)) (range (t.states * n))) ≡ all_edges F (code_in t)
  edges_are n p =
      ap (λ m. concat (map (λ e. G (e / 2 ^ t.p) (e % 2 ^ t.p)) (range (t.states * m)))) p ∙ sym
      (ap (λ n. concat (map (row_edges F (code_in t)) (range n))) (length-rows (lent t))
      ∙ ap concat (map_below [] (row_edges F (code_in t)) (λ s. concat (map (G s) (range (2 ^ t.p)))) t.states row_is)
      ∙ rows-flat G (2 ^ t.p) t.states (pow_pos t.p))

-- ---- the lines of all edges
module _ (line : Line) (t : Table) where
  pub lines_none : [] ≡ lines_to line t 0
  unfolding lines_to
  lines_none = refl

  pub lines_more : (e : ℕ) → lines_to line t e ++ line_at line t e ≡ lines_to line t (e + 1)
  unfolding lines_to
  lines_more e = sym (concat-more (line_at line t) e)

  -- the line of edge e
  pub line_of : (n e : ℕ) → n ≡ 2 ^ t.p
      → line t.q (e / n) (e % n) (word_at t (e / n) (e % n)) (next_at t (e / n) (e % n)) ≡ line_at line t e
  line_of n e p =
      ap (λ m. line t.q (e / m) (e % m) (word_at t (e / m) (e % m)) (next_at t (e / m) (e % m))) p

  -- THEOREM: the lines of the edges of all states in order
  pub lines_are : (n : ℕ) → n ≡ 2 ^ t.p → lines_to line t (t.states * n) ≡ edge_lines line (code_in t)
  unfolding lines_to
  lines_are n p =
      edges_are t (edge_line line (code_in t)) (λ s d. line t.q s d (word_at t s d) (next_at t s d)) (λ s d h l.
      rw (edge-at (lent t) s d h l)) n p

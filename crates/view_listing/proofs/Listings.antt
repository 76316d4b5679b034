-- The listing as it is put, and how long it can be: 43,028 bytes hold that of every record.
-- In order: listing-is; Small, listing-short, listing-most; ready-small, formed-short.
-- Assumes nothing.
use Rattle.std.proofs.Common.{◌≡◌, ◌∷◌, ◌++◌, ◌+◌, ◌*◌, ◌^◌, ◌≤◌, ◌<◌}
use Rattle.laws.proofs.All.{sym, ap, subst, ◌∙◌, List, [], ℕ, arith}
use Rattle.laws.proofs.All.{length, length-append}
use Rattle.table.specs.declared.Table.{Table}
use Rattle.table.specs.Rows.{edges, at, Code}
use Rattle.table.specs.Edges.{lent}
use Rattle.table.specs.Value.{code_in, Ready}
use Rattle.table.specs.Formed.{Formed}
use Rattle.table.proofs.RowsOf.{length-rows, row-long, edge-at, ways-small}
use Rattle.table.proofs.Shape.{full, targets}
use Rattle.text.specs.Texts.{decimal}
use Rattle.text.specs.Words.{binary}
use Rattle.text.proofs.Numbers.{decimal-short, decimal-long}
use Rattle.text.proofs.Words.{length-binary}
use Rattle.text.proofs.Rows.{rows_short}
use Rattle.view_listing.specs.Edges.{edge_line, row_lines, edge_lines, lines_to}
use Rattle.view_listing.specs.Listing.{heading, entry, listing}
use Rattle.view_listing.proofs.Edges.{lines_are}

-- THEOREM: the first line, then all edges in order
pub listing-is : (t : Table) (n : ℕ) → n ≡ 2 ^ t.p
    → heading t.p t.q t.states t.memory t.lookahead ++ lines_to entry t (t.states * n)
    ≡ listing (code_in t)
unfolding listing
listing-is t n p =
    ap (λ k. heading t.p t.q k t.memory t.lookahead ++ lines_to entry t (t.states * n))
    (sym (length-rows (lent t)))
    ∙ ap (λ l. heading t.p t.q (length (code_in t).table) t.memory t.lookahead ++ l) (lines_are entry t n p)

-- ---- how long a listing can be
-- at most 128 states of at most 16 edges, and no word above eight bits
pub record Small (c : Code) : Type 0 where
  pub p : c.p < 1000
  pub q : c.q ≤ 8
  pub states : length c.table ≤ 128
  pub few : (s : ℕ) → s < length c.table → length (edges c.table s) ≤ 16
  pub next : (s d : ℕ) → s < length c.table → d < length (edges c.table s) → (at c.table s d).next < 1000

heading-long : (p q s m a : ℕ) → length (heading p q s m a)
    ≡ length (decimal p) + length (decimal q) + length (decimal s) + length (decimal m) + length (decimal a) + 5
heading-long p q s m a = go (decimal p) (decimal q) (decimal s) (decimal m) (decimal a)
  where
    go : (v w x y z : List ℕ) → length (v ++ (32 ∷ (w ++ (32 ∷ (x ++ (32 ∷ (y ++ (32 ∷ (z ++ (10 ∷ []))))))))))
        ≡ length v + length w + length x + length y + length z + 5
    go v w x y z = simp length-append (omega arith)

entry-short : (q s d w t : ℕ) → q ≤ 8 → s < 1000 → d < 1000 → t < 1000 → length (entry q s d w t) ≤ 21
unfolding entry
entry-short q s d w t q₁ s₁ d₁ t₁ =
    let b = length-binary q w in
    go (decimal s) (decimal d) (binary q w) (decimal t) (decimal-short s s₁) (decimal-short d d₁) (omega arith)
    (decimal-short t t₁)
  where
    go : (x y v z : List ℕ) → length x ≤ 3 → length y ≤ 3 → length v ≤ 8 → length z ≤ 3
        → length (x ++ (32 ∷ (y ++ (32 ∷ []))) ++ v ++ (32 ∷ (z ++ (10 ∷ [])))) ≤ 21
    go x y v z a b c d = simp length-append (omega arith)

module _ (c : Code) (ok : Small c) where
  row-short : (s : ℕ) → s < length c.table → length (row_lines entry c s) ≤ 336
  row-short s h =
      let k = ok.few s h in
      let n = ok.states in
      let l = rows_short (edge_line entry c s) 21 (length (edges c.table s)) (λ d g.
      entry-short c.q s d (at c.table s d).word (at c.table s d).next ok.q (omega arith) (omega arith)
      (ok.next s d h g)) in
      omega arith

  parts-long : (k : ℕ) → length (decimal c.window.memory) + length (decimal c.window.lookahead) ≤ k
      → length (listing c) ≤ 43022 + k
  unfolding listing
  parts-long k h =
      let n = ok.states in
      let q = ok.q in
      let H = heading c.p c.q (length c.table) c.window.memory c.window.lookahead in
      let l = rows_short (row_lines entry c) 336 (length c.table) row-short in
      omega (
        arith,
        length-append H (edge_lines entry c),
        heading-long c.p c.q (length c.table) c.window.memory c.window.lookahead,
        decimal-short c.p ok.p,
        decimal-short c.q (let e : c.q < 1000 = omega arith in e),
        decimal-short (length c.table) (let e : length c.table < 1000 = omega arith in e),
      )

  -- THEOREM: 43,028 bytes hold the listing with a window of up to three digits
  pub listing-short : c.window.memory < 1000 → c.window.lookahead < 1000 → length (listing c) ≤ 43028
  listing-short m a =
      parts-long 6 (omega (arith, decimal-short c.window.memory m, decimal-short c.window.lookahead a))

  -- THEOREM: 43,062 bytes hold the listing with any window
  pub listing-most : length (listing c) ≤ 43062
  listing-most =
      parts-long 40 (omega (arith, decimal-long c.window.memory, decimal-long c.window.lookahead))

pub ready-small : (t : Table) → Ready t → Small (code_in t)
ready-small t r =
    let n = length-rows (lent t) in
    record {
      p = omega (arith, r.narrow);
      q = r.short;
      states = omega (arith, r.few);
      few = λ s h. let l = row-long (lent t) s (omega arith) in omega (arith, ways-small t.p r.narrow);
      next = λ s d h g.
          let h' : s < t.states = omega arith in
          let g' : d < 2 ^ t.p = let l = row-long (lent t) s h' in omega arith in
          let e = edge-at (lent t) s d h' g' in
          subst (λ x. x.next < 1000) (sym e) (omega (arith, r.inside s d h' g', r.few));
    }

-- THEOREM: 43,028 bytes hold the listing of a code whose fields are in range
pub formed-short : (c : Code) → Formed c → length (listing c) ≤ 43028
formed-short c ok =
    let r = ok.range in
    let small : Small c = record {
      p = omega (arith, r.p₂);
      q = r.q₂;
      states = r.s₂;
      few = λ s h. let l = full c.p c.q (length c.table) c.table ok.rows s h in
          omega (arith, ways-small c.p r.p₂);
      next = λ s d h g.
          omega (arith, targets c.p c.q (length c.table) c.table ok.rows s d g, r.s₂);
    } in
    listing-short c small (omega (arith, r.m)) (omega (arith, r.a))

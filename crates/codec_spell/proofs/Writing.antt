-- The words of a path written byte by byte; closing words after those of blocks; copies of the tail datum after the
-- blocks.
-- In order: Writes, the words of a path written so far, with writes_start, writes_more, writes_end; recorded, blocks and
-- closing words; closed, length-closed, closed-datum, closed-below; recorded-in, a recording under a table by value.
-- Assumes nothing.
use Rattle.std.proofs.Common.{◌≡◌, ◌∷◌, ◌++◌, ◌+◌, ◌-◌, ◌*◌, ◌≤◌, ◌<◌}
use Rattle.laws.proofs.All.{refl, sym, ap, ap₂, ◌∙◌, List, [], append_assoc, append-nil, ℕ}
use Rattle.laws.proofs.All.{arith, length, take, drop, get_or, set, length-set}
use Rattle.laws.proofs.All.{length-append, length-replicate, take_all, take_at, drop_at, drop-drop, length-take-le}
use Rattle.laws.proofs.All.{put-more, replicate}
use Rattle.laws.proofs.All.{below-append, below_at, below-replicate, get_d_any, get_or-padded, Below}
use Rattle.table.specs.declared.Table.{Table}
use Rattle.table.specs.Rows.{Rows}
use Rattle.table.specs.Paths.{ends, spells, recording}
use Rattle.table.specs.Value.{code_in}
use Rattle.table.specs.Edges.{Arrays, Fits, lent, rows_of}
use Rattle.table.proofs.Paths.{length-spells, spells-append}
use Rattle.table.proofs.RowsOf.{place-next, next-state, next-words}

-- ---- the words of a path
-- after the front, out holds the words of the first k data of the path; i is the next place and s the state there
pub record Writes (t : Arrays) (front : List ℕ) (first : ℕ) (ds out₀ : List ℕ) (k i s : ℕ) (out : List ℕ)
    : Type 0 where
  pub place : length front + k ≡ i
  pub long : length out ≡ length out₀
  pub inside : s < t.states
  pub state : s ≡ ends (rows_of t) first (take k ds)
  pub bytes : out ≡ (front ++ spells (rows_of t) first (take k ds)) ++ drop i out₀

module _ (t : Arrays) (front : List ℕ) (first : ℕ) (ds out₀ : List ℕ) where
  pub writes_start : (i : ℕ) → length front ≡ i → first < t.states → out₀ ≡ front ++ drop i out₀
      → Writes t front first ds out₀ 0 i first out₀
  writes_start i e h q = record {
    place = omega arith;
    long = refl;
    inside = h;
    state = refl;
    bytes = q ∙ ap (λ l. l ++ drop i out₀) (sym (append-nil front));
  }

  pub writes_more : (k i s : ℕ) (out : List ℕ) → Writes t front first ds out₀ k i s out → Fits t → (k' e : ℕ)
      → k' ≡ k + 1 → e ≡ s * 16 + get_or ds k 0 → k < length ds → get_or ds k 0 < t.ways → i < length out₀
      → Writes t front first ds out₀ k' (i + 1) (get_or t.next e 0) (set out i (get_or t.word e 0))
  writes_more k i s out m g k' e q r h d l = rw (q, r) (record {
    place = omega (arith, m.place);
    long = length-set out i (get_or t.word (s * 16 + get_or ds k 0) 0) ∙ m.long;
    inside = place-next t s (get_or ds k 0) g m.inside d;
    state = next-state t first ds k s m.state m.inside h d;
    bytes = ap (λ o. set o i (get_or t.word (s * 16 + get_or ds k 0) 0)) m.bytes
        ∙ put-more (front ++ spells (rows_of t) first (take k ds)) out₀ i (get_or t.word (s * 16 + get_or ds k 0) 0)
        long-so-far l
        ∙ ap (λ x. x ++ drop (i + 1) out₀) (append_assoc front (spells (rows_of t) first (take k ds))
        (get_or t.word (s * 16 + get_or ds k 0) 0 ∷ [])
        ∙ ap (λ x. front ++ x) (sym (next-words t first ds k s m.state m.inside h d)));
  })
    where
      long-so-far : length (front ++ spells (rows_of t) first (take k ds)) ≡ i
      long-so-far =
          length-append front (spells (rows_of t) first (take k ds))
          ∙ ap (λ x. length front + x) (length-spells (rows_of t) (take k ds) first ∙ length-take-le k ds (omega arith))
          ∙ m.place

  pub writes_end : (k i s : ℕ) (out : List ℕ) → Writes t front first ds out₀ k i s out → (j : ℕ) → i ≡ j
      → length ds ≤ k
      → (s ≡ ends (rows_of t) first ds) × (out ≡ (front ++ spells (rows_of t) first ds) ++ drop j out₀)
  writes_end k i s out m j q h =
      let e : take k ds ≡ ds = take_all k ds h in (rw e at m.state, rw (e, q) at m.bytes)

-- ---- blocks, and closing words after them
pub recorded : (t : Rows) (ds zs out₀ out₁ out₂ : List ℕ) (n s e : ℕ) → n ≡ length ds → s ≡ ends t 0 ds → n ≤ e
    → out₁ ≡ spells t 0 ds ++ drop n out₀ → out₂ ≡ (take n out₁ ++ spells t s zs) ++ drop e out₁
    → out₂ ≡ spells t 0 (ds ++ zs) ++ drop e out₀
recorded t ds zs out₀ out₁ out₂ n s e h q l b₁ b₂ =
    b₂ ∙ ap₂ (λ x y. x ++ y)
    (ap₂ (λ x y. x ++ spells t y zs) (ap (take n) b₁ ∙ take_at (spells t 0 ds) (drop n out₀) n long) q
    ∙ sym (spells-append t ds zs 0))
    (ap (drop e) b₁ ∙ past)
  where
    long : length (spells t 0 ds) ≡ n
    long = length-spells t ds 0 ∙ sym h

    past : drop e (spells t 0 ds ++ drop n out₀) ≡ drop e out₀
    past =
        let z : e ≡ n + (e - n) = omega arith in
        rw z (rw (← drop-drop (e - n) n (spells t 0 ds ++ drop n out₀), drop_at (spells t 0 ds) (drop n out₀) n long)
        (drop-drop (e - n) n out₀))

-- ---- blocks with copies of the datum d after them, n in all
abbrev pub closed : List ℕ → ℕ → ℕ → List ℕ
closed ds d n = ds ++ replicate (n - length ds) d

module _ (ds : List ℕ) (d n : ℕ) (g : length ds ≤ n) where
  pub length-closed : length (closed ds d n) ≡ n
  length-closed =
      length-append ds (replicate (n - length ds) d) ∙ ap (λ k. length ds + k) (length-replicate (n - length ds) d)
      ∙ omega arith

  -- the datum at a place, read from the blocks
  pub closed-datum : (i : ℕ) → i < n → get_or ds i d ≡ get_or (closed ds d n) i 0
  closed-datum i l =
      sym (get_or-padded ds (n - length ds) d i) ∙ get_d_any (closed ds d n) i d 0 (rw length-closed l)

  pub closed-below : (m i : ℕ) → Below m ds → d < m → i < n → get_or (closed ds d n) i 0 < m
  closed-below m i b h l =
      below_at m (closed ds d n) i
      (below-append m ds (replicate (n - length ds) d) b (below-replicate m (n - length ds) d h))
      (rw length-closed l)

-- ---- under a table by value, with the edges that the code has lent
pub recorded-in : (t : Table) (a : Arrays) (ds out₀ out : List ℕ) → a ≡ lent t → let n = length ds + t.lookahead in
    out ≡ spells (rows_of a) 0 (closed ds t.tail n) ++ drop n out₀ → out ≡ recording (code_in t) ds ++ drop n out₀
recorded-in t a ds out₀ out e w =
    let z : length ds + t.lookahead - length ds ≡ t.lookahead = omega arith in w ∙ rw (e, z)

-- The words that come back, counted one by one.
-- In order: agreed-bad, agreed-other, agreed-more, agreed-end; other_word, same_word, in arrays; length-followed,
-- followed-block, followed-tail.
-- Assumes nothing.
use Rattle.std.proofs.Common.{◌≡◌, ◌++◌, ◌+◌, ◌-◌, ◌*◌, ◌≤◌, ◌<◌}
use Rattle.laws.proofs.All.{sym, ap, ◌∙◌, List, [], map, ℕ, suc, arith}
use Rattle.laws.proofs.All.{add-one, eq-eqb, ne_eqb, lt-ltb, le-ltb, length, get_or, drop, drop-cons, drop-length}
use Rattle.laws.proofs.All.{range, length-append, length-map-range, length-replicate, replicate, map-range-at}
use Rattle.laws.proofs.All.{get_or-replicate, get_or-append-add, get_or-append}
use Rattle.table.specs.Rows.{Rows, at}
use Rattle.table.specs.Edges.{Arrays, edge_of, rows_of, word_of, next_of}
use Rattle.table.proofs.RowsOf.{edge-at}
use Rattle.codec_steps.specs.Reading.{block}
use Rattle.codec_steps.specs.BlockParts.{under}
use Rattle.codec_verify.specs.Counting.{followed, agreed}

module _ (t : Rows) (n s : ℕ) (ds ws : List ℕ) (i : ℕ) (h : i < length ds) (l : i < length ws) where
  abbrev d : ℕ
  d = get_or ds i 0

  -- a datum that is none ends the count
  pub agreed-bad : n ≤ d → agreed t n s (drop i ds) (drop i ws) ≡ 0
  unfolding agreed
  agreed-bad b = rw (drop-cons ds i 0, le-ltb _ _ b)

  -- and so does another word
  pub agreed-other : d < n → ((at t s d).word ≡ get_or ws i 0 → ⊥) → agreed t n s (drop i ds) (drop i ws) ≡ 0
  unfolding agreed
  agreed-other b f = rw (drop-cons ds i 0, drop-cons ws i 0, lt-ltb _ _ b, ne_eqb _ _ f)

  pub agreed-more : d < n → (at t s d).word ≡ get_or ws i 0 → agreed t n s (drop i ds) (drop i ws)
      ≡ suc (agreed t n (at t s d).next (drop (i + 1) ds) (drop (i + 1) ws))
  unfolding agreed
  agreed-more b e = rw (drop-cons ds i 0, drop-cons ws i 0, lt-ltb _ _ b, eq-eqb _ _ e, add-one)

pub agreed-end : (t : Rows) (n s : ℕ) (ds ws : List ℕ) (i : ℕ) → length ds ≡ length ws → i ≡ length ws
    → agreed t n s (drop i ds) (drop i ws) ≡ 0
unfolding agreed
agreed-end t n s ds ws i h e =
    let p : drop i ds ≡ [] = ap (λ k. drop k ds) (e ∙ sym h) ∙ drop-length ds in
    rw p

-- ---- a turn in a table's arrays
shift : (i k : ℕ) → i + suc k ≡ i + 1 + k
shift i k = omega arith

module _ (t : Arrays) (s : ℕ) (ds ws : List ℕ) (i d : ℕ) (h : i < length ds) (l : i < length ws)
    (e : d ≡ get_or ds i 0) (hs : s < t.states) (hd : d < t.ways) where
  edge_here : at (rows_of t) s (get_or ds i 0) ≡ edge_of t s d
  edge_here = ap (at (rows_of t) s) (sym e) ∙ edge-at t s d hs hd

  small : get_or ds i 0 < t.ways
  small = omega arith

  pub other_word : (word_of t (s * 16 + d) ≡ get_or ws i 0 → ⊥)
      → agreed (rows_of t) t.ways s (drop i ds) (drop i ws) ≡ 0
  other_word f =
      agreed-other (rows_of t) t.ways s ds ws i h l small (λ q. f (sym (ap (λ x. x.word) edge_here) ∙ q))

  pub same_word : word_of t (s * 16 + d) ≡ get_or ws i 0 → i + agreed (rows_of t) t.ways s (drop i ds) (drop i ws)
      ≡ i + 1 + agreed (rows_of t) t.ways (next_of t (s * 16 + d)) (drop (i + 1) ds) (drop (i + 1) ws)
  same_word q =
      ap (λ k. i + k) (agreed-more (rows_of t) t.ways s ds ws i h l small (ap (λ x. x.word) edge_here ∙ q)
      ∙ ap (λ u. suc (agreed (rows_of t) t.ways u (drop (i + 1) ds) (drop (i + 1) ws)))
      (ap (λ x. x.next) edge_here)) ∙ shift i _

-- ---- the data whose words the list should have
module _ (t : Rows) (m a tail : ℕ) (ws : List ℕ) (h : a ≤ length ws) where
  abbrev blocks : List ℕ
  blocks = map (block (under t m a) ws) (range (length ws - a))

  length-blocks : length blocks ≡ length ws - a
  length-blocks = length-map-range (block (under t m a) ws) (length ws - a)

  pub length-followed : length (followed t m a tail ws) ≡ length ws
  unfolding followed
  length-followed =
      let e : length blocks + length (replicate a tail) ≡ length ws =
      omega (arith, length-blocks, length-replicate a tail) in
      length-append blocks (replicate a tail) ∙ e

  pub followed-block : (i : ℕ) → i < length ws - a → get_or (followed t m a tail ws) i 0 ≡ block (under t m a) ws i
  unfolding followed
  followed-block i l =
      get_or-append blocks (replicate a tail) 0 i (omega (arith, length-blocks))
      ∙ map-range-at (block (under t m a) ws) (length ws - a) i 0 l

  pub followed-tail : (i : ℕ) → length ws - a ≤ i → i < length ws → get_or (followed t m a tail ws) i 0 ≡ tail
  unfolding followed
  followed-tail i l k =
      let e : i ≡ length blocks + (i - (length ws - a)) = omega (arith, length-blocks) in
      ap (λ j. get_or (blocks ++ replicate a tail) j 0) e
      ∙ get_or-append-add blocks (replicate a tail) (i - (length ws - a)) 0
      ∙ get_or-replicate a (i - (length ws - a)) tail 0 (omega arith)

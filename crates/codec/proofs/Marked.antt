-- What a decoded block says of paths: 254 exactly where no path reads the words up to it, 255 exactly where one does
-- but none the words ahead too, a datum exactly where one reads both. Blocks that stand clear of damage show no mark.
-- In order: window-parts; Begun, begun; follows→, →follows; carried; Shows, settled, shows; marks, read-datum,
-- no-mark-ahead, clear-unmarked.
-- Assumes nothing.
use Rattle.std.proofs.Common.{◌≡◌, ◌↔◌, ◌⊎◌, ◌∷◌, ◌++◌, ◌+◌, ◌-◌, ◌^◌, ◌≤◌, ◌<◌, if◌then◌else◌}
use Rattle.laws.proofs.All.{refl, sym, ap, subst, ◌∙◌, inl, inr, Bool, true, false, List, []}
use Rattle.laws.proofs.All.{ℕ, min, min-eq_left, min-eq_right}
use Rattle.laws.proofs.All.{suc, arith, dec_lt, lt-ltb, le-ltb, T, length, get_or, take, drop}
use Rattle.laws.proofs.All.{length-drop, length-take-le, split_at, elem, member, tab→, →tab, Below}
use Rattle.laws.proofs.All.{below_at}
use Rattle.answer.specs.Outcomes.{done}
use Rattle.table.specs.Rows.{Rows, Code}
use Rattle.table.specs.Paths.{Blocks, recording}
use Rattle.table.proofs.Paths.{length-spells}
use Rattle.table.proofs.RowsOf.{ways-small}
use Rattle.record_check.specs.Accepted.{Sound}
use Rattle.record_check.specs.Parse.{parse}
use Rattle.record_check.proofs.Acceptance.{sound}
use Rattle.codec_steps.specs.StateSets.{every_state, one_state, along_all, able}
use Rattle.codec_steps.specs.Reading.{readings, some_edge, mark_before, mark_ahead, mark_for, past, block, decode}
use Rattle.codec_steps.proofs.Readings.{readings→, some→, →some}
use Rattle.codec.specs.Answers.{decode_under}
use Rattle.codec.specs.Damage.{StandsClear}
use Rattle.codec.specs.Found.{found}
use Rattle.codec.specs.Follows.{window_words, Follows}
use Rattle.codec.proofs.Reading.{Reads, path→reads, reads→path, one→, →one, first_or_none, reading→path}
use Rattle.codec.proofs.Reading.{path→reading}
use Rattle.codec.proofs.Local.{cut-window, past-later, past-early}
use Rattle.codec.proofs.OneDatum.{one-path}
use Rattle.codec.proofs.Damage.{recovered}
use Rattle.codec.proofs.Answers.{decoded→}
use Rattle.codec.proofs.Promises.{facts}

-- words n to j + k: those before word j, which is i words after word n, the word, and those after it
window-parts : (L : List ℕ) (n i j k : ℕ) → n + i ≡ j → j + k < length L
    → take (i + 1 + k) (drop n L) ≡ take i (drop n L) ++ get_or L j 0 ∷ take k (drop (j + 1) L)
window-parts L n i j k e h =
    let W = take (suc i + k) (drop n L) in
    let wide : i + 1 + k ≡ suc i + k = omega arith in
    let next : n + suc i ≡ j + 1 = omega arith in
    let long : length W ≡ suc i + k = length-take-le (suc i + k) (drop n L) (rw (length-drop n L) (omega arith)) in
    rw wide (split_at W i 0 (omega (arith, long)) ∙ cut-window (λ pre w ws. pre ++ w ∷ ws) L n i k ∙ rw (e, next))

-- ---- paths that read the words about block j and k words ahead
module _ (c : Code) (good : Sound c) (L : List ℕ) (j k : ℕ) (h : j + k < length L) where
  abbrev t : Rows
  t = c.table

  abbrev m : ℕ
  m = c.window.memory

  -- the states that such a path may start from, and its words before word j
  record Begun : Type 0 where
    start : List Bool
    front : List ℕ
    set : past c L j ≡ along_all t start front
    words : window_words c L j k ≡ front ++ get_or L j 0 ∷ take k (drop (j + 1) L)
    holds : (s : ℕ) → T (member start s) ↔ ((s < length t) × (j < m → s ≡ 0))

  begun : Begun
  begun = elim (dec_lt j m) [
    | yes q ↦ record {
      start = one_state t 0;
      front = take j L;
      set = past-early c L j q;
      words = rw (lt-ltb j m q) (window-parts L 0 j j k (omega arith) h);
      holds = λ s. (
        (λ i. (rw (← one→ t 0 s i) good.some, λ _. sym (one→ t 0 s i))),
        (λ (n, z). rw (z q) (→one t 0 good.some)),
      );
    }
    | no q ↦ record {
      start = every_state t;
      front = take m (drop (j - m) L);
      set = past-later c L j (omega arith);
      words = rw (le-ltb j m (omega arith)) (window-parts L (j - m) m j k (omega arith) h);
      holds = λ s. (
        (λ i. ((tab→ (λ s. true) (length t) s i).0, λ l. absurd (q l))),
        (λ (n, _). →tab (λ s. true) (length t) s n tt),
      );
    }
  ]

  -- an edge from P with word j has a target that can read the k words ahead
  abbrev Read : List Bool → Type 0
  Read P = (d : ℕ) × T (elem d (readings t P (get_or L j 0) (able t (take k (drop (j + 1) L)))))

  -- the past set has such an edge exactly where a path reads the words up to block j and k words ahead
  follows→ : Follows c L j k → Read (past c L j)
  follows→ f =
      let b = begun in
      subst Read (sym b.set)
      (path→reading t good.closed b.start b.front (take k (drop (j + 1) L)) (get_or L j 0) f.state f.blocks
      f.inside ((b.holds f.state).1 (f.inside, f.begin))
      (subst (Reads t f.state f.blocks) (f.words ∙ b.words) (path→reads t f.blocks f.state f.path)))

  →follows : Read (past c L j) → Follows c L j k
  →follows r =
      let b = begun in
      let (d, i) = subst Read b.set r in
      let (s, xs, n, q) =
      reading→path t good.closed b.start b.front (take k (drop (j + 1) L)) (get_or L j 0) d i in
      let (p, e) = reads→path q in
      let (l, z) = (b.holds s).0 n in
      record { state = s; blocks = xs; inside = l; begin = z; path = p; words = e ∙ sym b.words }

-- ---- the block is the datum of every path that reads its window
module _ (c : Code) (good : Sound c) (L : List ℕ) (j : ℕ) (h : j + c.window.lookahead < length L)
    (f : Follows c L j c.window.lookahead) where
  abbrev a : ℕ
  a = c.window.lookahead

  -- a path from word b on, where block j is its datum k
  from-word : (b k : ℕ) → b + k ≡ j → window_words c L j a ≡ take (k + 1 + a) (drop b L)
      → ((b ≡ 0) × (f.state ≡ 0)) ⊎ (b + c.window.memory ≤ j) → block c L j ≡ get_or f.blocks k 0
  from-word b k p e w =
      let long : length f.blocks ≡ k + 1 + a =
      sym (length-spells c.table f.blocks f.state) ∙ ap length (f.words ∙ e)
      ∙ length-take-le (k + 1 + a) (drop b L) (rw (length-drop b L) (omega arith)) in
      let q : j - b ≡ k = omega arith in
      one-path c good L f.blocks b f.state f.path
      (f.words ∙ e ∙ ap (λ x. take x (drop b L)) (sym long)) j f.inside w (omega arith) (omega (arith, long))
      ∙ ap (λ x. get_or f.blocks x 0) q

  carried : block c L j ≡ get_or f.blocks (min j c.window.memory) 0
  carried = let m = c.window.memory in elim (dec_lt j m) [
    | yes q ↦ from-word 0 j (omega arith) (rw (lt-ltb j m q)) (inl (refl, f.begin q))
        ∙ ap (λ x. get_or f.blocks x 0) (sym (min-eq_left (omega arith)))
    | no q ↦ from-word (j - m) m (omega arith) (rw (le-ltb j m (omega arith))) (inr (omega arith))
        ∙ ap (λ x. get_or f.blocks x 0) (sym (min-eq_right (omega arith)))
  ]

-- ---- the block
-- a block b that is one of n data or a mark, where A says that the words up to it can be read, and B those ahead too
data Shows (b n : ℕ) (A B : Type 0) : Type 0 where
  datum : b < n → A → B → Shows b n A B
  ahead : b ≡ mark_ahead → A → (B → ⊥) → Shows b n A B
  before : b ≡ mark_before → (A → ⊥) → (B → ⊥) → Shows b n A B

-- each of the three shuts out the others
settled : (b n : ℕ) (A B : Type 0) → n ≤ 16 → Shows b n A B
    → ((b ≡ 254) ↔ (A → ⊥)) × ((b ≡ 255) ↔ (A × (B → ⊥))) × ((b < n) ↔ B)
settled b n A B few (datum l x y) = (
  ((λ e. absurd (omega arith)), (λ nx. absurd (nx x))),
  ((λ e. absurd (omega arith)), (λ (_, ny). absurd (ny y))),
  ((λ _. y), (λ _. l)),
)
settled b n A B few (ahead e x ny) = (
  ((λ e'. absurd (omega arith)), (λ nx. absurd (nx x))),
  ((λ _. (x, ny)), (λ _. e)),
  ((λ l. absurd (omega arith)), (λ y. absurd (ny y))),
)
settled b n A B few (before e nx ny) = (
  ((λ _. nx), (λ _. e)),
  ((λ e'. absurd (omega arith)), (λ (x, _). absurd (nx x))),
  ((λ l. absurd (omega arith)), (λ y. absurd (ny y))),
)

module _ (c : Code) (good : Sound c) (L : List ℕ) (j : ℕ) (h : j + c.window.lookahead < length L) where
  abbrev w : ℕ
  w = get_or L j 0

  abbrev P : List Bool
  P = past c L j

  abbrev A : Type 0
  A = Follows c L j 0

  abbrev B : Type 0
  B = Follows c L j c.window.lookahead

  -- where an edge from the past set has word j, a path reads the words up to it, and the other way round
  up_to : T (some_edge c.table P w) → A
  up_to k = →follows c good L j 0 (omega arith) (some→ c.table P w good.closed k)

  read-up-to : A → T (some_edge c.table P w)
  read-up-to f = let (d, i) = follows→ c good L j 0 (omega arith) f in →some c.table P w (able c.table []) d i

  shows : Shows (block c L j) (2 ^ c.p) A B
  shows = elim (first_or_none (found c L j) (mark_for c.table P w)) [
    | inl i ↦
        let ws = take c.window.lookahead (drop (j + 1) L) in
        let (s, n, _, l, _) = readings→ c.table P w (able c.table ws) (block c L j) i in
        datum (rw (good.full s n) at l)
        (up_to (→some c.table P w (able c.table ws) (block c L j) i))
        (→follows c good L j c.window.lookahead h (block c L j, i))
    | inr (none, e) ↦
        go (some_edge c.table P w) refl e
        (λ f. let (d, i) = follows→ c good L j c.window.lookahead h f in none d i)
  ]
    where
      go : (s : Bool) → some_edge c.table P w ≡ s → block c L j ≡ (if s then mark_ahead else mark_before) → (B → ⊥)
          → Shows (block c L j) (2 ^ c.p) A B
      go true q e ny = ahead e (up_to (subst T (sym q) tt)) ny
      go false q e ny = before e (λ f. subst T q (read-up-to f)) ny

-- ---- under an accepted record
module _ (xs : List ℕ) (bytes : Below 256 xs) (c : Code) (read : parse xs ≡ done c) where
  -- each mark says what it says of paths, exactly
  pub marks : (L : List ℕ) (j : ℕ) → j + c.window.lookahead < length L
      → ((block c L j ≡ 254) ↔ (Follows c L j 0 → ⊥))
      × ((block c L j ≡ 255) ↔ (Follows c L j 0 × (Follows c L j c.window.lookahead → ⊥)))
      × ((block c L j < 2 ^ c.p) ↔ Follows c L j c.window.lookahead)
  marks L j h =
      let (f, w) = facts xs bytes c read in
      settled (block c L j) (2 ^ c.p) (Follows c L j 0) (Follows c L j c.window.lookahead)
      (ways-small c.p f.range.p₂) (shows c (sound c f w) L j h)

  -- the block is the datum, at the block's place, of every path that reads its window
  pub read-datum : (L : List ℕ) (j : ℕ) → j + c.window.lookahead < length L
      → (f : Follows c L j c.window.lookahead) → block c L j ≡ get_or f.blocks (min j c.window.memory) 0
  read-datum L j h f =
      let (g, w) = facts xs bytes c read in
      carried c (sound c g w) L j h f

  -- with no words ahead they are never at fault
  pub no-mark-ahead : c.window.lookahead ≡ 0 → (L : List ℕ) (j : ℕ) → j < length L → block c L j ≡ 255 → ⊥
  no-mark-ahead z L j h e =
      let (f, none) = (marks L j (omega arith)).1.0 e in
      none (subst (Follows c L j) (sym z) f)

  -- a block that stands clear of damage is the datum that was written, and no mark
  pub clear-unmarked : (ds L : List ℕ) (room : ℕ) → Blocks c ds → Below (2 ^ c.q) L → (out : List ℕ)
      → decode_under xs room L ≡ done out → (i j : ℕ) → i < length ds → StandsClear c (recording c ds) L i j
      → (get_or out j 254 ≡ get_or ds i 0) × (get_or out j 254 < 16)
  unfolding decode_under
  clear-unmarked ds L room b _ out e i j l k =
      let (f, w) = facts xs bytes c read in
      let d : decode c L ≡ out = decoded→ c room L out (rw read at e) in
      let q : get_or out j 254 ≡ get_or ds i 0 =
      ap (λ o. get_or o j 254) (sym d) ∙ recovered c (sound c f w) ds L b i j 254 l k in
      (q, omega (arith, q, below_at (2 ^ c.p) ds i b l, ways-small c.p f.range.p₂))

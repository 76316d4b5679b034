-- The data of a state's edges go by the rule: an edge takes the lowest free datum that the lowest earlier state with
-- its word gave it, and the edges that find none take the free data, rising.
-- In order: asked-at, asked-home, asked-none, taken, new-one, fits, what an edge asks for; ds-edge, ds-kept, ds-rise,
-- the data; given-rule, none-rule, labels-rule.
-- Assumes nothing.
use Rattle.std.proofs.Common.{◌≡◌, ◌&&◌, ◌≤◌, ◌<◌}
use Rattle.laws.proofs.All.{refl, sym, ap, subst, ◌∙◌, Bool, true, false, List, [], ℕ, zero-add}
use Rattle.laws.proofs.All.{arith, dec_lt, T, T_not, T→true, eqb→eq, eq-eqb, length, get_or, take, length-map}
use Rattle.laws.proofs.All.{length-take-le, get_or-take, get_or-map-lt, range, filter, first, any, elem, index_of}
use Rattle.laws.proofs.All.{extend}
use Rattle.laws.proofs.All.{length-extend, extend-at, Once, each_map, each-filter, each-range, each_at, each-elem}
use Rattle.laws.proofs.All.{below_at, map-range-at, index_at, index-lt, at-index, and→, →and, first-place}
use Rattle.laws.proofs.All.{first-filter}
use Rattle.table.specs.Rows.{Edge, edge, Rows, edges, at, words_of, has_word}
use Rattle.table.specs.Paths.{Full}
use Rattle.compile_graph.proofs.InOrder.{lowest-place, filter-rises}
use Rattle.compile_labels.specs.Labels.{carries, gave, free, asked, data_of, bearer, relabelled}
use Rattle.compile_labels.proofs.Data.{data-length, data-below, data-once}
use Rattle.compile_labels.proofs.Answered.{first-not, first-low, answered-kept, answered-rises}
use Rattle.compile_labels.proofs.Labels as labels

-- ---- the edges of state s
module _ (n : ℕ) (t : Rows) (full : Full n t) (s : ℕ) (pos : 0 < s) (hs : s < length t) where
  abbrev new : Rows
  new = relabelled n t

  abbrev E : Rows
  E = take s (relabelled n t)

  abbrev es : List Edge
  es = edges t s

  -- what the edges ask for, and the data that they have
  abbrev xs : List ℕ
  xs = extend (asked n (take s (relabelled n t))) [] (words_of (edges t s))

  abbrev ds : List ℕ
  ds = data_of n (take s (relabelled n t)) (words_of (edges t s))

  words_long : length (words_of es) ≡ n
  words_long = length-map es (λ e. e.word) ∙ full s hs

  xs-long : length xs ≡ n
  xs-long = length-extend (asked n E) [] (words_of es) ∙ zero-add (length (words_of es)) ∙ words_long

  E-long : length E ≡ s
  E-long = length-take-le s new (rw (labels.relabelled-length n t) (omega arith))

  E-at : (u : ℕ) → u < s → edges E u ≡ edges new u
  E-at u h = get_or-take s new u [] h

  row-long : (u : ℕ) → u < s → length (edges new u) ≡ n
  row-long u h = labels.relabelled-full n t full u (rw (labels.relabelled-length n t) (omega arith))

  word_at : (u d : ℕ) → u < s → d < n → get_or (words_of (edges new u)) d 0 ≡ (at new u d).word
  word_at u d h l = get_or-map-lt (λ (e : Edge). e.word) (edges new u) d (edge 0 0) 0 (rw (row-long u h) l)

  -- state u has the word w
  →has : (w u d : ℕ) → u < s → d < n → (at new u d).word ≡ w → T (has_word w (edges new u))
  →has w u d h l e =
      let W = words_of (edges new u) in
      subst (λ x. T (elem x W)) (word_at u d h l ∙ e)
      (each_at (λ x. T (elem x W)) 0 W (each-elem W) d
      (rw (length-map (edges new u) (λ (e : Edge). e.word), row-long u h) l))

  -- an edge of state u has the word w: no lower state than u does
  abbrev Home : ℕ → ℕ → Type 0
  Home w u = (v d : ℕ) → v < u → d < n → (at new v d).word ≡ w → ⊥

  module _ (k : ℕ) (hk : k < n) where
    abbrev w : ℕ
    w = (at t s k).word

    abbrev x : ℕ
    x = get_or xs k 0

    asked-at : x ≡ asked n E (take k xs) w
    asked-at =
        subst (λ i. get_or xs i 0 ≡ asked n E (take i xs) (get_or (words_of es) k 0)) (zero-add k)
        (extend-at (asked n E) [] (words_of es) k 0 0 (rw words_long hk))
        ∙ ap (asked n E (take k xs)) (get_or-map-lt (λ (e : Edge). e.word) es k (edge 0 0) 0 (rw (full s hs) hk))

    -- the data of w in the state u that are free
    abbrev fit : ℕ → ℕ → Bool
    fit u d = carries (words_of (edges new u)) w d && free (take k xs) d

    asked-home : (u : ℕ) → u < s → has_word w (edges new u) ≡ true
        → ((v : ℕ) → v < u → has_word w (edges new v) ≡ false)
        → x ≡ first (fit u) n (range n)
    asked-home u h e f =
        asked-at
        ∙ ap (λ r. first (free (take k xs)) n (gave (length (words_of r)) (words_of r) w))
        (first-place (has_word w) [] E u (rw E-long h) (ap (has_word w) (E-at u h) ∙ e)
        (λ v l. ap (has_word w) (E-at v (omega arith)) ∙ f v l) ∙ E-at u h)
        ∙ ap (λ N. first (free (take k xs)) n (gave N (words_of (edges new u)) w))
        (length-map (edges new u) (λ (e : Edge). e.word) ∙ row-long u h)
        ∙ first-filter (free (take k xs)) (carries (words_of (edges new u)) w) n (range n)

    asked-none : any (has_word w) E ≡ false → x ≡ n
    asked-none q =
        asked-at
        ∙ ap (λ r. first (free (take k xs)) n (gave (length (words_of r)) (words_of r) w))
        (first-not (has_word w) [] E q)

    front_long : length (take k xs) ≡ k
    front_long = length-take-le k xs (rw xs-long (omega arith))

    -- a datum is free, or an edge before has it
    taken : (d : ℕ) → (T (free (take k xs) d) → ⊥) → (i : ℕ) × (i < k) × (get_or xs i 0 ≡ d)
    taken d no-free = go (elem d (take k xs)) refl
      where
        go : (b : Bool) → elem d (take k xs) ≡ b → (i : ℕ) × (i < k) × (get_or xs i 0 ≡ d)
        go false q = absurd (no-free (rw q tt))
        go true q =
            let m : T (elem d (take k xs)) = rw q tt in
            let l : index_of d (take k xs) < k = rw front_long at (index-lt d (take k xs) m) in
            (index_of d (take k xs), l, sym (get_or-take k xs (index_of d (take k xs)) 0 l) ∙ at-index d (take k xs) m)

    new-one : (i : ℕ) → i < k → T (free (take k xs) (get_or xs i 0)) → ⊥
    new-one i h u =
        T_not (elem (get_or xs i 0) (take k xs)) u
        (subst (λ y. T (elem y (take k xs))) (get_or-take k xs i 0 h)
        (each_at (λ y. T (elem y (take k xs))) 0 (take k xs) (each-elem (take k xs)) i (rw front_long h)))

    fits : (u d : ℕ) → u < s → d < n → (at new u d).word ≡ w → T (free (take k xs) d) → T (fit u d)
    fits u d h l e f =
        →and (carries (words_of (edges new u)) w d) (free (take k xs) d)
        (rw (eq-eqb (get_or (words_of (edges new u)) d 0) w (word_at u d h l ∙ e)) tt) f

  has→ : (w u : ℕ) → u < s → T (has_word w (edges new u)) → (d : ℕ) × (d < n) × ((at new u d).word ≡ w)
  has→ w u h m =
      let W = words_of (edges new u) in
      let l : index_of w W < n =
      rw (length-map (edges new u) (λ (e : Edge). e.word), row-long u h) at (index-lt w W m) in
      (index_of w W, l, sym (word_at u (index_of w W) h l) ∙ at-index w W m)

  lacks : (w u : ℕ) → Home w u → (v : ℕ) → v < u → v < s → has_word w (edges new v) ≡ false
  lacks w u low v h l = go (has_word w (edges new v)) refl
    where
      go : (b : Bool) → has_word w (edges new v) ≡ b → has_word w (edges new v) ≡ false
      go true q = let (d, m, e) = has→ w v l (rw q tt) in absurd (low v d h m e)
      go false q = q

  -- ---- the data
  ds-long : length ds ≡ n
  ds-long = data-length n E (words_of es) words_long

  ds-once : Once ds
  ds-once = data-once n E (words_of es) words_long

  ds-lt : (k : ℕ) → k < n → get_or ds k 0 < n
  ds-lt k h = below_at n ds k (data-below n E (words_of es) words_long) (rw ds-long h)

  ds-edge : (k : ℕ) → k < n → at new s (get_or ds k 0) ≡ at t s k
  ds-edge k h =
      ap (λ r. get_or r (get_or ds k 0) (edge 0 0)) (labels.labels-row n t full s pos hs)
      ∙ map-range-at (bearer es ds) n (get_or ds k 0) (edge 0 0) (ds-lt k h)
      ∙ ap (λ i. get_or es i (edge 0 0)) (index_at ds ds-once k (rw ds-long h))

  ds-kept : (k : ℕ) → k < n → get_or xs k 0 < n → get_or ds k 0 ≡ get_or xs k 0
  unfolding data_of
  ds-kept k h l = answered-kept n (filter (free xs) (range n)) xs k (rw xs-long h) l

  ds-not-lower : (i k : ℕ) → i < k → k < n → n ≤ get_or xs i 0 → n ≤ get_or xs k 0 → get_or ds i 0 ≤ get_or ds k 0
  unfolding data_of
  ds-not-lower i k h l c d =
      answered-rises n (filter (free xs) (range n)) xs (filter-rises (free xs) 0 n)
      (each-filter (λ y. y ≤ n) (free xs) (range n)
      (each_map (λ y. y < n) (λ y. T (free xs y) → y ≤ n) (λ y m u. omega arith) (range n) (each-range n)))
      i k h (rw xs-long l) c d

  ds-rise : (i k : ℕ) → i < k → k < n → n ≤ get_or xs i 0 → n ≤ get_or xs k 0 → get_or ds i 0 < get_or ds k 0
  ds-rise i k h l c d =
      let a = index_at ds ds-once i (rw ds-long (omega arith)) in
      let b = index_at ds ds-once k (rw ds-long l) in
      let ne : get_or ds i 0 ≡ get_or ds k 0 → ⊥ =
      λ e. let q = sym a ∙ ap (λ y. index_of y ds) e ∙ b in omega (arith, q, h) in
      strict (get_or ds i 0) (get_or ds k 0) (ds-not-lower i k h l c d) ne
    where
      strict : (x y : ℕ) → x ≤ y → (x ≡ y → ⊥) → x < y
      strict x y l ne = elim (dec_lt x y) [
        | yes m ↦ m
        | no m ↦ absurd (ne (omega arith))
      ]

  module _ (k : ℕ) (hk : k < n) where
    -- an edge that finds a datum in the lowest earlier state with its word
    given-rule : get_or xs k 0 < n → let d = get_or xs k 0 in let w = (at t s k).word in
        (get_or ds k 0 ≡ d) × ((i : ℕ) → i < k → get_or xs i 0 ≡ d → ⊥)
        × ((u : ℕ) × (u < s) × ((at new u d).word ≡ w) × Home w u
        × ((e : ℕ) → e < d → (at new u e).word ≡ w → (i : ℕ) × (i < k) × (get_or xs i 0 ≡ e)))
    given-rule h = go (any (has_word (w k hk)) E) refl
      where
        go : (b : Bool) → any (has_word (w k hk)) E ≡ b → let d = get_or xs k 0 in let w = (at t s k).word in
            (get_or ds k 0 ≡ d) × ((i : ℕ) → i < k → get_or xs i 0 ≡ d → ⊥)
            × ((u : ℕ) × (u < s) × ((at new u d).word ≡ w) × Home w u
            × ((e : ℕ) → e < d → (at new u e).word ≡ w → (i : ℕ) × (i < k) × (get_or xs i 0 ≡ e)))
        go false q = absurd (let z = asked-none k hk q in omega (arith, z))
        go true q =
            let (u, l, e, f) = lowest-place (has_word (w k hk)) [] E (rw q tt) in
            let hu : u < s = rw E-long at l in
            let has : has_word (w k hk) (edges new u) ≡ true = ap (has_word (w k hk)) (sym (E-at u hu)) ∙ e in
            let low : (v : ℕ) → v < u → has_word (w k hk) (edges new v) ≡ false =
            λ v m. ap (has_word (w k hk)) (sym (E-at v (omega arith))) ∙ f v m in
            let (a, b) = (first-low (fit k hk u) n (get_or xs k 0) (asked-home k hk u hu has low)).0 h in
            let (c, d) = and→ (carries (words_of (edges new u)) (w k hk) (get_or xs k 0))
            (free (take k xs) (get_or xs k 0)) a in (
              ds-kept k hk h,
              λ i m r. new-one k hk i m (subst (λ y. T (free (take k xs) y)) (sym r) d),
              (
                u,
                hu,
                sym (word_at u (get_or xs k 0) hu h) ∙ eqb→eq (get_or (words_of (edges new u)) (get_or xs k 0) 0)
                    (w k hk) c,
                λ v y m hy r. subst T (low v m) (→has (w k hk) v y (omega arith) hy r),
                λ y m r. taken k hk y (λ g. b y m (fits k hk u y hu (omega arith) r g)),
              ),
            )

    -- one that finds none there
    none-rule : n ≤ get_or xs k 0 → let w = (at t s k).word in (u : ℕ) → u < s → Home w u
        → (e : ℕ) → e < n → (at new u e).word ≡ w → (i : ℕ) × (i < k) × (get_or xs i 0 ≡ e)
    none-rule h u hu low y hy r =
        taken k hk y (λ g. (first-low (fit k hk u) n (get_or xs k 0)
        (asked-home k hk u hu (T→true (has_word (w k hk) (edges new u)) (→has (w k hk) u y hu hy r))
        (λ v m. lacks (w k hk) u low v m (omega arith)))).1 h y hy (fits k hk u y hu hy r g))

  -- THEOREM: xs are the data that the edges of state s find in the lowest earlier state with their word, n for none,
  -- and ds the data that they have
  pub labels-rule : let new = relabelled n t in
      (xs : List ℕ) × (ds : List ℕ) × (length xs ≡ n) × (length ds ≡ n) × Once ds
      × ((k : ℕ) → k < n → (get_or ds k 0 < n) × (at new s (get_or ds k 0) ≡ at t s k))
      × ((k : ℕ) → k < n → get_or xs k 0 < n → let d = get_or xs k 0 in let w = (at t s k).word in
      (get_or ds k 0 ≡ d) × ((i : ℕ) → i < k → get_or xs i 0 ≡ d → ⊥)
      × ((u : ℕ) × (u < s) × ((at new u d).word ≡ w) × ((v e : ℕ) → v < u → e < n → (at new v e).word ≡ w → ⊥)
      × ((e : ℕ) → e < d → (at new u e).word ≡ w → (i : ℕ) × (i < k) × (get_or xs i 0 ≡ e))))
      × ((k : ℕ) → k < n → n ≤ get_or xs k 0 → let w = (at t s k).word in (u : ℕ) → u < s
      → ((v e : ℕ) → v < u → e < n → (at new v e).word ≡ w → ⊥)
      → (e : ℕ) → e < n → (at new u e).word ≡ w → (i : ℕ) × (i < k) × (get_or xs i 0 ≡ e))
      × ((i k : ℕ) → i < k → k < n → n ≤ get_or xs i 0 → n ≤ get_or xs k 0 → get_or ds i 0 < get_or ds k 0)
  labels-rule = (xs, ds, xs-long, ds-long, ds-once, λ k h. (ds-lt k h, ds-edge k h), given-rule, none-rule, ds-rise)

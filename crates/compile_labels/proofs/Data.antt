-- The data of a state's edges are the numbers below n, each once: in both passes no datum is taken twice, and in the
-- second an edge that needs a datum finds one, as n edges have taken fewer than n.
-- In order: Few; few-put, few-once; first-free, asked-few, the first pass; lowest-free, served-once, the second;
-- data-length, data-below, data-once, data-onto.
-- Assumes nothing.
use Rattle.std.proofs.Common.{◌≡◌, ◌∷◌, ◌++◌, ◌+◌, ◌≤◌, ◌<◌, if◌then◌else◌}
use Rattle.laws.proofs.All.{refl, sym, subst, ◌∙◌, Bool, true, false, not, List, [], append-nil, ℕ}
use Rattle.laws.proofs.All.{zero-le, zero-add, arith, dec_lt, T, eqb, ltb, ltb-true, ltb-false, length}
use Rattle.laws.proofs.All.{length-append, append_snoc, range, first, any, elem, extend, length-extend}
use Rattle.laws.proofs.All.{any_append, each-range, elem_below, elem-each, length_from, once_more, range-once}
use Rattle.laws.proofs.All.{times_none, first_passes, tot-append, each_map, once-fits, once-onto, →any-below, →or_l}
use Rattle.laws.proofs.All.{→or_r, eqb_refl, below-append, Whether, so, nay, eqb_is, Below, Once, one, times}
use Rattle.table.specs.Rows.{Rows}
use Rattle.compile_labels.specs.Labels.{given, free, asked, data_of}
use Rattle.compile_labels.specs.Parts.{served}
use Rattle.compile_labels.proofs.Rising.{served-data}

-- no number below n occurs twice
abbrev Few : ℕ → List ℕ → Type 0
Few n ds = (d : ℕ) → d < n → times d ds ≤ 1

times-put : (d x : ℕ) (ds xs : List ℕ) → times d (ds ++ x ∷ xs) ≡ one (eqb d) x + times d (ds ++ xs)
times-put d x ds xs = omega (arith, tot-append (one (eqb d)) ds (x ∷ xs), tot-append (one (eqb d)) ds xs)

few-put : (n x : ℕ) (ds xs : List ℕ) → Few n (ds ++ xs) → (x < n → times x (ds ++ xs) ≡ 0) → Few n (ds ++ x ∷ xs)
few-put n x ds xs few new d h = rw (times-put d x ds xs) (go (eqb_is d x))
  where
    go : Whether (d ≡ x) (eqb d x) → one (eqb d) x + times d (ds ++ xs) ≤ 1
    go (so p q) =
        let z : times d (ds ++ xs) ≡ 0 = rw p (new (rw p at h)) in
        rw q (omega arith)
    go (nay p q) = rw (q, zero-add (times d (ds ++ xs))) (few d h)

few-once : (n : ℕ) (ds : List ℕ) → Below n ds → Few n ds → Once ds
few-once n ds below few x = elim (dec_lt x n) [
  | yes h ↦ few x h
  | no h ↦ omega (arith, times_none x ds (λ t. h (elem_below n x ds below t)))
]

-- ---- the first pass
first-free : (n : ℕ) (ds l : List ℕ) → first (free ds) n l < n → times (first (free ds) n l) ds ≡ 0
first-free n ds [] h = absurd (omega arith)
first-free n ds (x ∷ l) h = go (elem x ds) refl h (first-free n ds l)
  where
    go : (b : Bool) → elem x ds ≡ b → (if not b then x else first (free ds) n l) < n
        → (first (free ds) n l < n → times (first (free ds) n l) ds ≡ 0)
        → times (if not b then x else first (free ds) n l) ds ≡ 0
    go true e h k = k h
    go false e h k = times_none x ds (λ t. subst T e t)

asked-few : (n : ℕ) (earlier : Rows) (ds ws : List ℕ) → Few n ds → Few n (extend (asked n earlier) ds ws)
asked-few n earlier ds [] few = few
asked-few n earlier ds (w ∷ ws) few =
    let d = asked n earlier ds w in
    asked-few n earlier (ds ++ d ∷ []) ws
    (few-put n d ds [] (rw (append-nil ds) few) (λ h. rw (append-nil ds) (first-free n ds (given earlier w) h)))

-- ---- the second pass
-- n edges of which one has no datum leave a datum free
lowest-free : (n x : ℕ) (ds : List ℕ) → length ds ≡ n → n ≤ x → T (elem x ds) → first (free ds) n (range n) < n
lowest-free n x ds long h t = go (any (free ds) (range n)) refl
  where
    taken : any (free ds) (range n) ≡ false → (d : ℕ) → d < n → T (elem d ds)
    taken e d l = has (elem d ds) refl
      where
        has : (b : Bool) → elem d ds ≡ b → T (elem d ds)
        has true q = rw q tt
        has false q = absurd (subst T e (→any-below (free ds) n d l (rw q tt)))

    go : (b : Bool) → any (free ds) (range n) ≡ b → first (free ds) n (range n) < n
    go true e = (first_passes (free ds) n (λ d. d < n) (range n) (rw e tt) (each-range n)).1
    go false e = absurd (omega (
      arith,
      length_from 0 n,
      once-fits (x ∷ range n) ds
          (once_more x (range n) (λ y. range-once y n)
          (λ u. omega (arith, elem-each (λ y. y < n) x (range n) u (each-range n))))
          (t, each_map (λ d. d < n) (λ d. T (elem d ds)) (taken e) (range n) (each-range n)),
    ))

-- n data, below n, none twice
abbrev Apart : ℕ → List ℕ → Type 0
Apart n ds = (length ds ≡ n) × Below n ds × Once ds

served-once : (n : ℕ) (ds xs : List ℕ) → length (ds ++ xs) ≡ n → Below n ds → Few n (ds ++ xs)
    → Apart n (served n ds xs)
served-once n ds [] long below few =
    let k : Few n ds = rw (append-nil ds) at few in
    (rw (append-nil ds) at long, below, few-once n ds below k)
served-once n ds (x ∷ xs) long below few =
    go (ltb x n) refl (λ d h k. served-once n (ds ++ d ∷ []) xs (rw (append_snoc ds d xs) (same-long d))
    (below-append n ds (d ∷ []) below (h, tt)) (rw (append_snoc ds d xs) k))
  where
    C : List ℕ
    C = ds ++ x ∷ xs

    same-long : (d : ℕ) → length (ds ++ d ∷ xs) ≡ n
    same-long d = length-append ds (d ∷ xs) ∙ sym (length-append ds (x ∷ xs)) ∙ long

    e : ℕ
    e = first (free C) n (range n)

    in-C : T (elem x C)
    in-C = rw (any_append (eqb x) ds (x ∷ xs))
        (→or_r (elem x ds) (elem x (x ∷ xs)) (→or_l (eqb x x) (elem x xs) (eqb_refl x)))

    go : (b : Bool) → ltb x n ≡ b → ((d : ℕ) → d < n → Few n (ds ++ d ∷ xs) → Apart n (served n (ds ++ d ∷ []) xs))
        → Apart n (served n (ds ++ (if b then x else e) ∷ []) xs)
    go true q k = k x (ltb-true x n q) few
    go false q k =
        let h : e < n = lowest-free n x C long (ltb-false x n q) in-C in
        k e h (few-put n e ds xs (λ d l. omega (arith, few d l, times-put d x ds xs))
        (λ l. omega (arith, first-free n C (range n) h, times-put e x ds xs)))

-- ---- both
module _ (n : ℕ) (earlier : Rows) (ws : List ℕ) (long : length ws ≡ n) where
  abbrev D : List ℕ
  D = data_of n earlier ws

  data-apart : Apart n D
  data-apart =
      subst (Apart n) (served-data n earlier ws)
      (served-once n [] (extend (asked n earlier) [] ws)
      (length-extend (asked n earlier) [] ws ∙ zero-add (length ws) ∙ long) tt
      (asked-few n earlier [] ws (λ d h. zero-le)))

  pub data-length : length D ≡ n
  data-length = data-apart.0

  pub data-below : Below n D
  data-below = data-apart.1

  pub data-once : Once D
  data-once = data-apart.2

  -- THEOREM: every datum is taken
  pub data-onto : (d : ℕ) → d < n → T (elem d D)
  data-onto d h = once-onto n D data-length data-below data-once d h

-- The second pass in place hands out the free data, rising: an edge with no datum takes the lowest that no edge has, so
-- the next such edge finds the next lowest.
-- In order: free_other, free-here; left-some, left-none, left-taken; served-answered, served-data.
-- Assumes nothing.
use Rattle.std.proofs.Common.{◌≡◌, ◌||◌, ◌∷◌, ◌++◌, ◌≤◌, ◌<◌, if◌then◌else◌}
use Rattle.laws.proofs.All.{refl, sym, ap, subst, ◌∙◌, Bool, true, false, not, List, []}
use Rattle.laws.proofs.All.{append-nil, append_snoc, ℕ, arith, T, T→true, eqb, eqb_refl, ltb, ltb-false}
use Rattle.laws.proofs.All.{ne_eqb, get_or, drop, extend, range, filter, first, any, elem, any_append}
use Rattle.laws.proofs.All.{→or_l, →or_r, →any-below, each-range, first_passes, none-lower, filter-taken, filter_none}
use Rattle.laws.proofs.All.{first-range-none}
use Rattle.table.specs.Rows.{Rows}
use Rattle.compile_labels.specs.Labels.{free, asked, answered, data_of}
use Rattle.compile_labels.specs.Parts.{served}

-- ---- one datum among the others
free_other : (ds xs : List ℕ) (y d : ℕ) → (d ≡ y → ⊥) → free (ds ++ y ∷ xs) d ≡ free (ds ++ xs) d
free_other ds xs y d ne =
    let e : elem d (y ∷ xs) ≡ elem d xs = rw (ne_eqb d y ne) in
    ap not (any_append (eqb d) ds (y ∷ xs) ∙ ap (λ b. elem d ds || b) e ∙ sym (any_append (eqb d) ds xs))

free-here : (ds xs : List ℕ) (y : ℕ) → free (ds ++ y ∷ xs) y ≡ false
free-here ds xs y =
    let t : T (elem y (ds ++ y ∷ xs)) = rw (any_append (eqb y) ds (y ∷ xs))
    (→or_r (elem y ds) (elem y (y ∷ xs)) (→or_l (eqb y y) (elem y xs) (eqb_refl y))) in
    ap not (T→true (elem y (ds ++ y ∷ xs)) t)

-- ---- what is left when an edge that had no datum takes the lowest
module _ (n : ℕ) (ds xs : List ℕ) (x : ℕ) (h : n ≤ x) where
  abbrev C : List ℕ
  C = ds ++ x ∷ xs

  abbrev e : ℕ
  e = first (free C) n (range n)

  abbrev left : List ℕ
  left = filter (free C) (range n)

  abbrev after : List ℕ
  after = filter (free (ds ++ e ∷ xs)) (range n)

  same : (d : ℕ) → d < n → (d ≡ e → ⊥) → free (ds ++ e ∷ xs) d ≡ free C d
  same d l ne = free_other ds xs e d ne ∙ sym (free_other ds xs x d (λ q. omega arith))

  left-some : T (any (free C) (range n)) → left ≡ e ∷ after
  left-some t =
      let (p, l) = first_passes (free C) n (λ d. d < n) (range n) t (each-range n) in
      filter-taken (free C) (free (ds ++ e ∷ xs)) e (T→true (free C e) p) (free-here ds xs e) 0 n (omega arith)
      (omega arith) (λ d a b. low d b (free C d) refl) (λ d a b ne. same d (omega arith) ne)
    where
      low : (d : ℕ) → d < e → (b : Bool) → free C d ≡ b → free C d ≡ false
      low d b true q = absurd (none-lower (free C) n 0 n t d (omega arith) b (rw q tt))
      low d b false q = q

  left-none : any (free C) (range n) ≡ false → (left ≡ []) × (after ≡ []) × (e ≡ n)
  left-none f = (
    filter_none (free C) 0 n (λ d a b. taken d (omega arith)),
    filter_none (free (ds ++ e ∷ xs)) 0 n (λ d a b. let l : d < n = omega arith in
        same d l (λ q. omega (arith, none)) ∙ taken d l),
    none,
  )
    where
      taken : (d : ℕ) → d < n → free C d ≡ false
      taken d l = go (free C d) refl
        where
          go : (b : Bool) → free C d ≡ b → free C d ≡ false
          go true q = absurd (subst T f (→any-below (free C) n d l (rw q tt)))
          go false q = q

      none : e ≡ n
      none = first-range-none (free C) n n taken

  left-taken : (get_or left 0 n ≡ e) × (drop 1 left ≡ after)
  left-taken = go (any (free C) (range n)) refl
    where
      go : (b : Bool) → any (free C) (range n) ≡ b → (get_or left 0 n ≡ e) × (drop 1 left ≡ after)
      go true q =
          let l = left-some (rw q tt) in
          (ap (λ l. get_or l 0 n) l, ap (drop 1) l)
      go false q =
          let (a, b, c) = left-none q in
          (ap (λ l. get_or l 0 n) a ∙ sym c, ap (drop 1) a ∙ sym b)

-- THEOREM: the second pass in place gives what handing out the free data gives
served-answered : (n : ℕ) (ds xs : List ℕ)
    → served n ds xs ≡ ds ++ answered n (filter (free (ds ++ xs)) (range n)) xs
served-answered n ds [] = sym (append-nil ds)
served-answered n ds (x ∷ xs) =
    go (ltb x n) refl (λ d. served-answered n (ds ++ d ∷ []) xs
    ∙ ap (λ l. (ds ++ d ∷ []) ++ answered n (filter (free l) (range n)) xs) (append_snoc ds d xs)
    ∙ append_snoc ds d (answered n (filter (free (ds ++ d ∷ xs)) (range n)) xs))
  where
    go : (b : Bool) → ltb x n ≡ b
        → ((d : ℕ) → served n (ds ++ d ∷ []) xs ≡ ds ++ d ∷ answered n (filter (free (ds ++ d ∷ xs)) (range n)) xs)
        → served n (ds ++ (if b then x else first (free (ds ++ x ∷ xs)) n (range n)) ∷ []) xs
        ≡ ds ++ (if b then x else get_or (filter (free (ds ++ x ∷ xs)) (range n)) 0 n)
        ∷ answered n (if b then filter (free (ds ++ x ∷ xs)) (range n)
        else drop 1 (filter (free (ds ++ x ∷ xs)) (range n))) xs
    go true q on = on x
    go false q on =
        let (a, b) = left-taken n ds xs x (ltb-false x n q) in
        rw (a, b) (on (first (free (ds ++ x ∷ xs)) n (range n)))

-- so both passes give the data
pub served-data : (n : ℕ) (t : Rows) (ws : List ℕ) → served n [] (extend (asked n t) [] ws) ≡ data_of n t ws
unfolding data_of
served-data n t ws = served-answered n [] (extend (asked n t) [] ws)

-- The two passes over a state's edges, edge by edge.
-- In order: given-found, given-none, the datum that an edge asks for; extend-put, one edge more has asked; serve-kept,
-- serve-put, one edge more is served.
-- Assumes nothing.
use Rattle.std.proofs.Common.{◌≡◌, ◌&&◌, ◌∷◌, ◌++◌, ◌+◌, ◌≤◌, ◌<◌, if◌then◌else◌}
use Rattle.laws.proofs.All.{sym, ap, ap₂, ◌∙◌, true, false, List, [], ℕ, suc}
use Rattle.laws.proofs.All.{add-one, arith, lt-ltb, le-ltb, length, get_or, take, drop, set, take-append-drop}
use Rattle.laws.proofs.All.{take-take}
use Rattle.laws.proofs.All.{take-suc, take-suc-set, take-set-lt, drop-set-lt, slice-cons, range, first}
use Rattle.laws.proofs.All.{extend, extend-more, first-filter, first-least, first-range-none}
use Rattle.compile_labels.specs.Labels.{carries, gave, free}
use Rattle.compile_labels.specs.Parts.{served}

-- ---- the datum that an edge asks for
module _ (n : ℕ) (ws : List ℕ) (w : ℕ) (ds : List ℕ) where
  pub given-found : (d : ℕ) → d < n → ((e : ℕ) → e < d → (carries ws w e && free ds e) ≡ false)
      → (carries ws w d && free ds d) ≡ true → first (free ds) n (gave n ws w) ≡ d
  given-found d h f e =
      first-filter (free ds) (carries ws w) n (range n)
      ∙ first-least (λ x. carries ws w x && free ds x) n n d f h e

  pub given-none : ((e : ℕ) → e < n → (carries ws w e && free ds e) ≡ false) → first (free ds) n (gave n ws w) ≡ n
  given-none f =
      first-filter (free ds) (carries ws w) n (range n)
      ∙ first-range-none (λ x. carries ws w x && free ds x) n n f

-- ---- one edge more has asked
pub extend-put : (f : List ℕ → ℕ → ℕ) (words ds : List ℕ) (k v : ℕ) → k < length words → k < length ds
    → take k ds ≡ extend f [] (take k words) → v ≡ f (take k ds) (get_or words k 0)
    → take (k + 1) (set ds k v) ≡ extend f [] (take (k + 1) words)
extend-put f words ds k v hw hd e q =
    ap (λ j. take j (set ds k v)) (add-one k) ∙ take-suc-set ds k v hd
    ∙ ap₂ (λ l x. l ++ x ∷ []) e (q ∙ ap (λ l. f l (get_or words k 0)) e)
    ∙ sym (extend-more f [] (take k words) (get_or words k 0))
    ∙ ap (extend f []) (sym (take-suc words k 0 hw) ∙ ap (λ j. take j words) (sym (add-one k)))

-- ---- one edge more is served
module _ (n k : ℕ) (ds : List ℕ) (hk : k < n) (hn : n ≤ length ds) where
  abbrev x : ℕ
  x = get_or ds k 0

  abbrev rest : List ℕ
  rest = drop (suc k) (take n ds)

  cons : drop k (take n ds) ≡ x ∷ rest
  cons = slice-cons k n ds 0 hk hn

  -- those before with the others are all
  whole : take k ds ++ x ∷ rest ≡ take n ds
  whole =
      ap₂ (λ a b. a ++ b) (sym (take-take k n ds (omega arith))) (sym cons) ∙ take-append-drop k (take n ds)

  pub serve-kept : x < n → served n (take k ds) (drop k (take n ds))
      ≡ served n (take (k + 1) ds) (drop (k + 1) (take n ds))
  serve-kept h =
      ap (served n (take k ds)) cons
      ∙ ap (λ b. served n (take k ds ++ (if b then x else first (free (take k ds ++ x ∷ rest)) n (range n)) ∷ []) rest)
      (lt-ltb x n h)
      ∙ ap (λ l. served n l rest) (sym (take-suc ds k 0 (omega arith)))
      ∙ ap (λ j. served n (take j ds) (drop j (take n ds))) (sym (add-one k))

  pub serve-put : n ≤ x → (e : ℕ) → e ≡ first (free (take n ds)) n (range n)
      → served n (take k ds) (drop k (take n ds))
      ≡ served n (take (k + 1) (set ds k e)) (drop (k + 1) (take n (set ds k e)))
  serve-put h e q =
      ap (served n (take k ds)) cons
      ∙ ap (λ b. served n (take k ds ++ (if b then x else first (free (take k ds ++ x ∷ rest)) n (range n)) ∷ []) rest)
      (le-ltb x n h)
      ∙ ap (λ y. served n (take k ds ++ y ∷ []) rest) (ap (λ l. first (free l) n (range n)) whole ∙ sym q)
      ∙ ap₂ (served n) (sym (take-suc-set ds k e (omega arith)))
      (sym (ap (drop (suc k)) (take-set-lt n ds k e hk) ∙ drop-set-lt (suc k) (take n ds) k e (omega arith)))
      ∙ ap (λ j. served n (take j (set ds k e)) (drop j (take n (set ds k e)))) (sym (add-one k))

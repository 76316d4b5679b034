-- All pairs whose next edges must agree, for one word of memory more.
-- In order: all-grid, into-grid; into-union; starts_more; pasts-none, pasts-more, pasts-rest.
-- Assumes nothing.
use Rattle.std.proofs.Common.{◌≡◌, ◌||◌, ◌+◌, ◌<◌, ◌∷◌}
use Rattle.laws.proofs.All.{refl, sym, ap, ap₂, subst₂, ◌∙◌, inl, inr, Bool, true, false, or_assoc}
use Rattle.laws.proofs.All.{or_comm, ℕ, zero, suc, add-zero, add-one, arith, T, length, Pairs, has, or→}
use Rattle.laws.proofs.All.{→or_l, →or_r, T→true, bool_eq, grid→, iterate-suc, map, [], List, from, range, grid}
use Rattle.laws.proofs.All.{map-range-same, map-range-at}
use mathlib.Core.List.{map-map}
use Rattle.table.specs.Rows.{Rows}
use Rattle.table.specs.Paths.{Closed}
use Rattle.window.specs.Works.{meet, into, entering, reversed, all_pairs, start_pair, past, started}
use Rattle.window.specs.Search.{union, starts, pasts}
use Rattle.window.proofs.Same.{has-into, has_all, onward}
use Rattle.window.proofs.Complete.{back_one}
use Rattle.table.proofs.EqualGrids.{grid-same, has-grid}
use Rattle.window.specs.Steps.{with_word}

-- ---- all pairs
map-const : {A B : Type 0} (c : B) (l : List A) (i : ℕ) → map (λ x. c) l ≡ map (λ x. c) (from i (length l))
map-const c [] i = refl
map-const c (x ∷ l) i = ap (λ r. c ∷ r) (map-const c l (suc i))

pub all-grid : (t : Rows) → all_pairs t ≡ grid (length t) (length t) (λ x y. true)
all-grid t = ap (λ r. map (λ es. r) t) (map-const true t 0) ∙ map-const (map (λ y. true) (range (length t))) t 0

-- ---- the pairs that one common word leads to
pub into-grid : (g : Rows) (Q : Pairs) → into (reversed g) Q ≡ grid (length g) (length g) (has (into (reversed g) Q))
into-grid g Q =
    map-map (λ es. map (meet Q es) (reversed g)) (entering g) (range (length g))
    ∙ map-range-same (λ s. map (meet Q (entering g s)) (reversed g))
    (λ s. map (has (into (reversed g) Q) s) (range (length g))) (length g)
    (λ s hs. map-map (meet Q (entering g s)) (entering g) (range (length g))
    ∙ map-range-same (λ u. meet Q (entering g s) (entering g u)) (has (into (reversed g) Q) s) (length g)
    (λ u hu. sym (has-into (reversed g) Q s u
    ∙ ap₂ (meet Q) (map-range-at (entering g) (length g) s [] hs)
    (map-range-at (entering g) (length g) u [] hu))))

-- ---- memory
-- no memory: any two states
pub pasts-none : (t : Rows) → pasts t 0 ≡ all_pairs t
pasts-none t =
    grid-same (length t) (length t) _ (λ x y. true) (λ x y hx hy.
    ap (λ b. b || has (starts t 0) x y) (T→true (has (all_pairs t) x y) (has_all t x y hx hy)))
    ∙ sym (all-grid t)

module _ (t : Rows) (c : Closed t) where
  has-union : (P Q : Pairs) (x y : ℕ) → x < length t → y < length t
      → has (union t P Q) x y ≡ (has P x y || has Q x y)
  has-union P Q x y hx hy = has-grid (length t) (length t) (λ s u. has P s u || has Q s u) x y hx hy

  -- what holds of every pair of P that one word leads from
  through : (P : Pairs) (A : Pairs) (x y : ℕ) → x < length t → y < length t
      → ((s u : ℕ) → s < length t → u < length t → T (has P s u) → T (has A s u))
      → T (has (into (reversed t) P) x y) → T (has (into (reversed t) A) x y)
  through P A x y hx hy f h =
      let (s, u, d, e, ks, ku, i, kd, ke, w, p, q) = back_one t P x y hx hy h in
      subst₂ (λ k l. T (has (into (reversed t) A) k l)) p q
      (onward t A s u d e c ks ku kd ke w (f s u ks ku i))

  into-union : (P Q : Pairs) (x y : ℕ) → x < length t → y < length t
      → has (into (reversed t) (union t P Q)) x y
      ≡ (has (into (reversed t) P) x y || has (into (reversed t) Q) x y)
  into-union P Q x y hx hy = bool_eq _ _
      (λ h. let (s, u, d, e, ks, ku, i, kd, ke, w, p, q) = back_one t (union t P Q) x y hx hy h in
      let go : (A : Pairs) → T (has A s u) → T (has (into (reversed t) A) x y) =
      λ A a. subst₂ (λ k l. T (has (into (reversed t) A) k l)) p q (onward t A s u d e c ks ku kd ke w a) in
      elim (or→ (has P s u) (has Q s u) (rw (has-union P Q s u ks ku) at i)) [
        | inl a ↦ →or_l (has (into (reversed t) P) x y) (has (into (reversed t) Q) x y) (go P a)
        | inr b ↦ →or_r (has (into (reversed t) P) x y) (has (into (reversed t) Q) x y) (go Q b)
      ])
      (λ h. elim (or→ (has (into (reversed t) P) x y) (has (into (reversed t) Q) x y) h) [
        | inl a ↦ through P (union t P Q) x y hx hy
            (λ s u ks ku k. rw (has-union P Q s u ks ku) (→or_l (has P s u) (has Q s u) k)) a
        | inr b ↦ through Q (union t P Q) x y hx hy
            (λ s u ks ku k. rw (has-union P Q s u ks ku) (→or_r (has P s u) (has Q s u) k)) b
      ])

  into-none : (x y : ℕ) → x < length t → y < length t → has (into (reversed t) (starts t 0)) x y ≡ false
  into-none x y hx hy = bool_eq _ false
      (λ h. let (s, u, d, e, ks, ku, i, kd, ke, w, p, q) = back_one t (starts t 0) x y hx hy h in
      (grid→ (length t) (length t) (λ s u. false) s u i).2)
      (λ h. absurd h)

  swap : (a b d : Bool) → ((a || b) || d) ≡ ((a || d) || b)
  swap true b d = refl
  swap false b d = or_comm b d

  -- the pairs that fewer than m + 1 words lead to from the start: one word on from those of fewer than m, and the start
  starts_more : (m x y : ℕ) → x < length t → y < length t
      → has (starts t (suc m)) x y ≡ (has (into (reversed t) (starts t m)) x y || has (start_pair t) x y)
  starts_more zero x y hx hy =
      has-union (starts t 0) (start_pair t) x y hx hy
      ∙ ap (λ b. b || has (start_pair t) x y)
      (has-grid (length t) (length t) (λ s u. false) x y hx hy ∙ sym (into-none x y hx hy))
  starts_more (suc m) x y hx hy =
      has-union (starts t (suc m)) (started t (suc m)) x y hx hy
      ∙ ap₂ (λ a b. a || b) (starts_more m x y hx hy)
      (ap (λ P. has P x y) (iterate-suc (into (reversed t)) m (start_pair t)))
      ∙ swap (has (into (reversed t) (starts t m)) x y) (has (start_pair t) x y)
      (has (into (reversed t) (started t m)) x y)
      ∙ ap (λ b. b || has (start_pair t) x y) (sym (into-union (starts t m) (started t m) x y hx hy))

  pub pasts-more : (m : ℕ) → pasts t (m + 1) ≡ with_word t (pasts t m)
  pasts-more m = ap (pasts t) (add-one m)
      ∙ grid-same (length t) (length t) _ _ (λ x y hx hy.
      ap₂ (λ a b. a || b) (ap (λ P. has P x y) (iterate-suc (into (reversed t)) m (all_pairs t)))
      (starts_more m x y hx hy)
      ∙ sym (or_assoc (has (into (reversed t) (past t m)) x y) (has (into (reversed t) (starts t m)) x y)
      (has (start_pair t) x y))
      ∙ ap (λ b. b || has (start_pair t) x y) (sym (into-union (past t m) (starts t m) x y hx hy)))

  -- where one word more changes nothing, no number of words does
  pub pasts-rest : (m : ℕ) → pasts t (m + 1) ≡ pasts t m → (k : ℕ) → pasts t (m + k) ≡ pasts t m
  pasts-rest m e zero = ap (pasts t) (add-zero m)
  pasts-rest m e (suc k) =
      let q : m + suc k ≡ m + k + 1 = omega arith in
      ap (pasts t) q ∙ pasts-more (m + k) ∙ ap (with_word t) (pasts-rest m e k) ∙ sym (pasts-more m) ∙ e

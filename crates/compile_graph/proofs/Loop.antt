-- All splits: they end with no state short of edges, or with too many edges, and never for want of rounds.
-- In order: goes-on, splits-on, splits-off, short, splits-keep, splits-last-one, states-le, splits-end, splitted-end,
-- splitted-full.
-- Assumes nothing.
use Rattle.std.proofs.Common.{◌≡◌, ◌↔◌, ◌+◌, ◌≤◌, ◌<◌}
use Rattle.laws.proofs.All.{refl, sym, subst, Bool, true, false, not, ℕ, zero, suc, le_trans}
use Rattle.laws.proofs.All.{◌∙◌, ap, le_of_eq, arith, T, ltb, ltb-false, le-ltb, ltb→lt, lt→ltb, length, sum, and→}
use Rattle.laws.proofs.All.{→and, any-below→, →any-below, length-le-sum}
use Rattle.compile_graph.specs.Invariant.{Inv}
use Rattle.compile_graph.specs.Arcs.{Work, out}
use Rattle.compile_graph.specs.Splitting.{split, few_edges, unfinished, goes_on, splits, split_all}
use Rattle.compile_graph.proofs.Split.{split-inv, split-length}

-- THEOREM: splitting goes on exactly while some state has fewer than n edges out and there are at most 2,048 edges
pub goes-on : (n : ℕ) (x : Work) → T (goes_on n x)
    ↔ ((length x.arcs ≤ 2048) × ((u : ℕ) × (u < length x.weights) × (length (out x.arcs u) < n)))
goes-on n x = (
  (λ t.
      let (c, f) = and→ (not (ltb 2048 (length x.arcs))) (unfinished n x) t in
      let (u, h, l) = any-below→ (few_edges n x.arcs) (length x.weights) f in
      (few (ltb 2048 (length x.arcs)) refl c, (u, h, ltb→lt (length (out x.arcs u)) n l))),
  (λ (c, (u, h, l)).
      →and (not (ltb 2048 (length x.arcs))) (unfinished n x) (rw (le-ltb 2048 (length x.arcs) c) tt)
      (→any-below (few_edges n x.arcs) (length x.weights) u h (lt→ltb (length (out x.arcs u)) n l))),
)
  where
    few : (b : Bool) → ltb 2048 (length x.arcs) ≡ b → T (not b) → length x.arcs ≤ 2048
    few true q t = absurd t
    few false q t = ltb-false 2048 (length x.arcs) q

-- a round, and the end
pub splits-on : (k n : ℕ) (x : Work) → goes_on n x ≡ true → splits (suc k) n x ≡ splits k n (split n x)
unfolding splits split_all
splits-on k n x q = rw (q, splits)

pub splits-off : (k n : ℕ) (x : Work) → goes_on n x ≡ false → splits (suc k) n x ≡ x
unfolding splits split_all
splits-off k n x q = rw (q, splits)

pub short : (n : ℕ) (x : Work) → goes_on n x ≡ true → T (unfinished n x)
short n x q = (and→ (not (ltb 2048 (length x.arcs))) (unfinished n x) (rw q tt)).1

-- what every split keeps holds after all
pub splits-keep : (P : Work → Type 0) (n : ℕ) → ((x : Work) → goes_on n x ≡ true → P x → P (split n x))
    → (k : ℕ) (x : Work) → P x → P (splits k n x)
unfolding splits
splits-keep P n f zero x p = p
splits-keep P n f (suc k) x p = go (goes_on n x) refl (splits-keep P n f k)
  where
    go : (b : Bool) → goes_on n x ≡ b → ((y : Work) → P y → P (splits k n y)) → P (splits (suc k) n x)
    go true q r = subst P (sym (splits-on k n x q)) (r (split n x) (f x q p))
    go false q r = subst P (sym (splits-off k n x q)) p

-- one split more at the end
pub splits-last-one : (n k : ℕ) (x : Work) → splits (suc k) n x ≡ splits 1 n (splits k n x)
unfolding splits
splits-last-one n zero x = refl
splits-last-one n (suc k) x = go (goes_on n x) refl (splits-last-one n k (split n x))
  where
    go : (b : Bool) → goes_on n x ≡ b → splits (suc k) n (split n x) ≡ splits 1 n (splits k n (split n x))
        → splits (suc (suc k)) n x ≡ splits 1 n (splits (suc k) n x)
    go true q r = splits-on (suc k) n x q ∙ r ∙ ap (splits 1 n) (sym (splits-on k n x q))
    go false q r = cc (splits-off (suc k) n x q, splits-off k n x q, splits-off 0 n x q)

module _ (n S : ℕ) (hn : 0 < n) where
  pub states-le : (x : Work) → Inv n S x → length x.weights ≤ S
  states-le x I = le_trans (length-le-sum x.weights I.positive) (le_of_eq I.whole)

  abbrev Ended : Work → Type 0
  Ended y = Inv n S y × (goes_on n y ≡ false)

  pub splits-end : (k : ℕ) (x : Work) → Inv n S x → S ≤ k + length x.weights
      → Inv n S (splits k n x) × (goes_on n (splits k n x) ≡ false)
  unfolding splits split_all
  splits-end zero x I h = go (goes_on n x) refl
    where
      go : (b : Bool) → goes_on n x ≡ b → Inv n S x × (goes_on n x ≡ false)
      go true q = absurd (omega (
        arith,
        states-le (split n x) (split-inv n S x hn I (short n x q)),
        split-length n S x hn I (short n x q),
      ))
      go false q = (I, q)
  splits-end (suc k) x I h = go (goes_on n x) refl (λ y. splits-end k y)
    where
      go : (b : Bool) → goes_on n x ≡ b
          → ((y : Work) → Inv n S y → S ≤ k + length y.weights
          → Inv n S (splits k n y) × (goes_on n (splits k n y) ≡ false))
          → Inv n S (splits (suc k) n x) × (goes_on n (splits (suc k) n x) ≡ false)
      go true q r = subst Ended (sym (splits-on k n x q))
          (r (split n x) (split-inv n S x hn I (short n x q))
          (rw (split-length n S x hn I (short n x q)) (omega arith)))
      go false q r = subst Ended (sym (splits-off k n x q)) (I, q)

  pub splitted-end : (x : Work) → Inv n S x → Inv n S (split_all n x) × (goes_on n (split_all n x) ≡ false)
  unfolding splits split_all
  splitted-end x I = splits-end (sum x.weights) x I (rw I.whole (omega arith))

  -- every state has its n edges, if there are not too many edges
  pub splitted-full : (x : Work) → Inv n S x → length (split_all n x).arcs ≤ 2048 → (s : ℕ)
      → s < length (split_all n x).weights → n ≤ length (out (split_all n x).arcs s)
  splitted-full x I h s l =
      let y = split_all n x in
      go y (ltb (length (out y.arcs s)) n) refl (splitted-end x I).1 h l
    where
      go : (y : Work) (b : Bool) → ltb (length (out y.arcs s)) n ≡ b → goes_on n y ≡ false → length y.arcs ≤ 2048
          → s < length y.weights → n ≤ length (out y.arcs s)
      go y true q e a l =
          let t : T (goes_on n y) =
          →and (not (ltb 2048 (length y.arcs))) (unfinished n y) (rw (le-ltb 2048 (length y.arcs) a) tt)
          (→any-below (few_edges n y.arcs) (length y.weights) s l (rw q tt)) in
          absurd (rw e at t)
      go y false q e a l = ltb-false (length (out y.arcs s)) n q

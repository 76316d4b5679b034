-- The graphs that splitting passes through: each keeps the invariant, and the next is its split by the rule.
-- In order: by-rule; splits-inv, splits-next, splits-stay, splits_last; each-passed.
-- Assumes nothing.
use Rattle.std.proofs.Common.{◌≡◌, ◌+◌, ◌-◌, ◌≤◌, ◌<◌}
use Rattle.laws.proofs.All.{sym, ap, subst, ◌∙◌, true, false, List, [], ℕ, zero, suc}
use Rattle.laws.proofs.All.{zero-le, le_trans, zero-add, suc-add, arith, dec_le, T, length, get_or, sum, range, any}
use Rattle.laws.proofs.All.{first, one, →any-below, any-map, each-range, each-always, first_passes, FirstList}
use Rattle.laws.proofs.All.{first-image, first-union, none-lower}
use Rattle.compile_graph.specs.Arcs.{Arc, arc, Work, out}
use Rattle.compile_graph.specs.Invariant.{Inv}
use Rattle.compile_graph.specs.Splitting.{sort, same, greatest, lighter, splittable, chosen, candidates, stretch}
use Rattle.compile_graph.specs.Splitting.{runs_to}
use Rattle.compile_graph.specs.Splitting.{divisible, kept, split, unfinished, goes_on, splits, split_all}
use Rattle.compile_graph.specs.Rule.{Rule}
use Rattle.compile_graph.proofs.Arcs.{tot-sort, length-sort}
use Rattle.compile_graph.proofs.PartedInv.{count-out}
use Rattle.compile_graph.proofs.Choice.{Chosen, chosen_is, ripe-some}
use Rattle.compile_graph.proofs.Candidates.{any-sort, candidates-length}
use Rattle.compile_graph.proofs.Runs.{run-exists}
use Rattle.compile_graph.proofs.Split.{split-part, split-inv}
use Rattle.compile_graph.proofs.Loop.{splits-on, splits-off, short, splits-keep, splits-last-one, splitted-end}

-- ---- one split
module _ (n S : ℕ) (x : Work) (hn : 0 < n) (I : Inv n S x) (t : T (unfinished n x)) where
  abbrev v : List ℕ
  v = x.weights

  abbrev g : List Arc
  g = x.arcs

  abbrev s : ℕ
  s = chosen x.weights x.arcs

  abbrev list : List Arc
  list = candidates n x.weights (get_or x.weights (chosen x.weights x.arcs) 0)
      (sort (out x.arcs (chosen x.weights x.arcs)))

  is : Chosen n S x I s
  is = chosen_is n S x I t

  listed : length list ≡ n
  listed =
      subst (λ M. length (candidates n v M (sort (out g s))) ≡ n) (sym is.heavy)
      (candidates-length n v (sort (out g s)) hn (rw (length-sort (out g s)) is.many)
      (any-sort (lighter v (greatest v)) (out g s) is.light)
      (λ e. rw (tot-sort (one (same e)) (out g s)) (le_trans (count-out g s e) (I.distinct e))))

  light : T (lighter v (get_or v s 0) (first (lighter v (get_or v s 0)) (arc 0 0 0) (sort (out g s))))
  light =
      subst (λ M. T (lighter v M (first (lighter v M) (arc 0 0 0) (sort (out g s))))) (sym is.heavy)
      (first_passes (lighter v (greatest v)) (arc 0 0 0) (λ e. Unit {0}) (sort (out g s))
      (any-sort (lighter v (greatest v)) (out g s) is.light) (each-always (λ e. Unit {0}) (λ e. tt) (sort (out g s)))
      ).0

  -- the state, its list and the run in it are as the rule asks
  pub by-rule : let s = chosen x.weights x.arcs in
      Rule n x s (candidates n x.weights (get_or x.weights s 0) (sort (out x.arcs s)))
      (kept n x.weights x.arcs s)
  by-rule = go (first-union (divisible n v) [] (runs_to list) 0 (length list) (run-exists n v list hn listed))
    where
      go : FirstList (divisible n v) [] (runs_to list) 0 (length list) → Rule n x s list (kept n v g s)
      go (e, _, l, some, is-first, before) =
          let found : T (any (λ i. divisible n v (stretch list e i)) (range (e + 1))) =
          subst T (any-map (divisible n v) (stretch list e) (range (e + 1))) some in
          let (_, small) = first_passes (λ i. divisible n v (stretch list e i)) 0 (λ i. i < e + 1) (range (e + 1)) found
          (each-range (e + 1)) in
          let big = listed in
          record {
            ripe = (first_passes (splittable v g) 0 (λ s. s < length v) (range (length v)) (ripe-some n S x I t)
                (each-range (length v))).0;
            lowest = λ u h. none-lower (splittable v g) 0 0 (length v) (ripe-some n S x I t) u zero-le h;
            listed = listed;
            light = light;
            last = e;
            others = first (λ i. divisible n v (stretch list e i)) 0 (range (e + 1));
            inside = omega arith;
            begins = omega arith;
            run = is-first ∙ first-image (divisible n v) [] (stretch list e) (range (e + 1)) found;
            first = λ j i h k d. before j zero-le h
                (subst T (sym (any-map (divisible n v) (stretch list j) (range (j + 1))))
                (→any-below (λ i. divisible n v (stretch list j i)) (j + 1) i (omega arith) d));
            part = split-part n S x hn I t;
          }

-- ---- all splits
pub splits-inv : (n S : ℕ) → 0 < n → (k : ℕ) (x : Work) → Inv n S x → Inv n S (splits k n x)
splits-inv n S hn = splits-keep (Inv n S) n (λ x q I. split-inv n S x hn I (short n x q))

-- while splitting goes on, the next graph is the split of this one
pub splits-next : (n k : ℕ) (x : Work) → goes_on n (splits k n x) ≡ true
    → splits (suc k) n x ≡ split n (splits k n x)
unfolding splits
splits-next n k x h = splits-last-one n k x ∙ splits-on 0 n (splits k n x) h

-- and where it does not, the graph stays
pub splits-stay : (n k : ℕ) (x : Work) → goes_on n (splits k n x) ≡ false → splits (suc k) n x ≡ splits k n x
splits-stay n k x h = splits-last-one n k x ∙ splits-off 0 n (splits k n x) h

splits-rest : (n k i : ℕ) (x : Work) → goes_on n (splits k n x) ≡ false → splits (i + k) n x ≡ splits k n x
splits-rest n k zero x h = ap (λ m. splits m n x) (zero-add k)
splits-rest n k (suc i) x h =
    let r : splits (i + k) n x ≡ splits k n x = splits-rest n k i x h in
    ap (λ m. splits m n x) (suc-add i k) ∙ splits-stay n (i + k) x (ap (goes_on n) r ∙ h) ∙ r

-- the graph in which it ends is the one after all splits
pub splits_last : (n S : ℕ) → 0 < n → (x : Work) → Inv n S x → (k : ℕ) → goes_on n (splits k n x) ≡ false
    → split_all n x ≡ splits k n x
unfolding split_all
splits_last n S hn x I k h = go (dec_le k (sum x.weights))
  where
    go : Dec (k ≤ sum x.weights) → splits (sum x.weights) n x ≡ splits k n x
    go (yes l) =
        let e : sum x.weights ≡ sum x.weights - k + k = omega arith in
        ap (λ m. splits m n x) e ∙ splits-rest n k (sum x.weights - k) x h
    go (no l) =
        let e : k - sum x.weights + sum x.weights ≡ k = omega arith in
        cc (splits-rest n (sum x.weights) (k - sum x.weights) x (splitted-end n S hn x I).1)

-- each graph that splitting passes through is split by the rule
pub each-passed : (n S : ℕ) → 0 < n → (x₀ : Work) → Inv n S x₀ → (k : ℕ)
    → let x = splits k n x₀ in goes_on n x ≡ true
    → (splits (suc k) n x₀ ≡ split n x)
    × (let s = chosen x.weights x.arcs in
    Rule n x s (candidates n x.weights (get_or x.weights s 0) (sort (out x.arcs s)))
    (kept n x.weights x.arcs s))
each-passed n S hn x₀ I k q = (
  splits-next n k x₀ q,
  by-rule n S (splits k n x₀) hn (splits-inv n S hn k x₀ I) (short n (splits k n x₀) q),
)

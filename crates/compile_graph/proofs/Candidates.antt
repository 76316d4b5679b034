-- The n edges among which the run is sought: they are edges of the state, n of them, and weigh less than n M.
-- In order: each-sort, any-sort, candidates-length, candidates-tot, candidates-lt, candidates-each.
-- Assumes nothing.
use Rattle.std.proofs.Common.{◌≡◌, ◌+◌, ◌*◌, ◌-◌, ◌≤◌, ◌<◌, if◌then◌else◌}
use Rattle.laws.proofs.All.{sym, ap, ◌∙◌, Bool, true, false, not, List, ℕ, zero-add}
use Rattle.laws.proofs.All.{add-zero, arith, T, length, take, length-take-le, filter, any, first}
use Rattle.laws.proofs.All.{→or_l, Each, tot, mask, one, each_map, each-always, each-filter, each_take, first_passes}
use Rattle.laws.proofs.All.{tot-filter, tot-eq, tot-add, tot-length, any→count, count→any, tot-take-le}
use Rattle.laws.proofs.Sorted as sorted
use Rattle.compile_graph.proofs.Arcs.{among→count, each-among, tot-sort, tot-same}
use Rattle.compile_graph.specs.Invariant.{count}
use Rattle.compile_graph.specs.Arcs.{Arc, arc}
use Rattle.compile_graph.specs.Weights.{total}
use Rattle.compile_graph.specs.Splitting.{earlier, sort, same, among, greatest, lighter, other, candidates}
use Rattle.compile_graph.proofs.Choice.{total-lt}

-- a sum is the sum over those that pass and those that do not
tot-split : {A : Type 0} (f : A → ℕ) (p : A → Bool) (l : List A)
    → tot (mask (λ x. not (p x)) f) l + tot (mask p f) l ≡ tot f l
tot-split f p l =
    sym (tot-add (mask (λ x. not (p x)) f) (mask p f) l)
    ∙ tot-eq (λ x. mask (λ x. not (p x)) f x + mask p f x) f l (each-always _ (λ x. go x (p x)) l)
  where
    go : (x : _) (b : Bool) → (if not b then f x else 0) + (if b then f x else 0) ≡ f x
    go x true = zero-add (f x)
    go x false = add-zero (f x)

-- sorting changes neither what is in the list nor what holds of each
pub each-sort : (P : Arc → Type 0) (l : List Arc) → Each P l → Each P (sort l)
each-sort P l h = sorted.each-sort earlier P l h

pub any-sort : (p : Arc → Bool) (l : List Arc) → T (any p l) → T (any p (sort l))
any-sort p l t = count→any p (sort l) (rw (tot-sort (one p) l) (any→count p l t))

-- es: the sorted edges of the state; M: its weight, the greatest
module _ (n : ℕ) (v : List ℕ) (es : List Arc) (hn : 0 < n) (many : n < length es)
    (light : T (any (lighter v (greatest v)) es)) (distinct : (e : Arc) → count e es ≤ 1) where
  abbrev l : Arc
  l = first (lighter v (greatest v)) (arc 0 0 0) es

  l-light : T (lighter v (greatest v) l)
  l-light = (first_passes (lighter v (greatest v)) (arc 0 0 0) (λ e. T (among es e)) es light (each-among es)).0

  -- the list has an edge to a lighter state
  candidates-light : T (any (lighter v (greatest v)) (candidates n v (greatest v) es))
  candidates-light =
      →or_l (lighter v (greatest v) l) (any (lighter v (greatest v)) (take (n - 1) (filter (other l) es))) l-light

  l-once : 0 < count l es
  l-once = among→count es l
      (first_passes (lighter v (greatest v)) (arc 0 0 0) (λ e. T (among es e)) es light (each-among es)).1

  -- the sum over the others, and l, is the whole
  others : (f : Arc → ℕ) → tot f (filter (other l) es) + f l ≡ tot f es
  others f =
      let c : count l es ≡ 1 = omega (arith, l-once, distinct l) in
      let a : tot f (filter (other l) es) ≡ tot (mask (other l) f) es = tot-filter f (other l) es in
      let b : tot (mask (λ e. same e l) f) es ≡ f l = tot-same f l es ∙ rw c (omega arith) in
      omega (arith, tot-split f (λ e. same e l) es)

  pub candidates-length : length (candidates n v (greatest v) es) ≡ n
  candidates-length =
      let a : length (filter (other l) es) + 1 ≡ length es =
      ap (λ k. k + 1) (sym (tot-length (filter (other l) es))) ∙ others (λ e. 1) ∙ tot-length es in
      let b : length (take (n - 1) (filter (other l) es)) ≡ n - 1 =
      length-take-le (n - 1) (filter (other l) es) (omega arith) in
      omega arith

  -- they are among the edges, each once
  pub candidates-tot : (f : Arc → ℕ) → tot f (candidates n v (greatest v) es) ≤ tot f es
  candidates-tot f = omega (arith, others f, tot-take-le f (n - 1) (filter (other l) es))

  pub candidates-lt : total v (candidates n v (greatest v) es) < n * greatest v
  candidates-lt = rw candidates-length at (total-lt v (candidates n v (greatest v) es) candidates-light)

  pub candidates-each : (P : Arc → Type 0) → Each P es → Each P (candidates n v (greatest v) es)
  candidates-each P h = (
    (first_passes (lighter v (greatest v)) (arc 0 0 0) P es light h).1,
    each_take P (n - 1) (filter (other l) es)
        (each-filter P (other l) es (each_map P _ (λ e p t. p) es h)),
  )

-- One split: while some state has too few edges, the split keeps the invariant and makes one more state.
-- In order: split-part, split-inv, split-length.
-- Assumes nothing.
use Rattle.std.proofs.Common.{◌≡◌, ◌*◌, ◌/◌, ◌≤◌, ◌<◌}
use Rattle.laws.proofs.All.{sym, subst, List, ℕ, suc, suc-le-suc, le_trans, le_of_eq}
use Rattle.laws.proofs.All.{zero-mul, mul_comm, lt_of_mul-lt-mul_right, T, length, any, Each, one, each_map}
use Rattle.laws.proofs.All.{each-filter}
use Rattle.compile_graph.proofs.Arcs.{tot-sort, length-sort}
use Rattle.compile_graph.specs.Invariant.{count, Inside, Inv, Part}
use Rattle.compile_graph.specs.Arcs.{Arc, Work, leaves, out}
use Rattle.compile_graph.specs.Weights.{weight, total}
use Rattle.compile_graph.specs.Splitting.{sort, same, greatest, lighter, chosen, candidates, first_run, kept}
use Rattle.compile_graph.specs.Splitting.{split}
use Rattle.compile_graph.specs.Splitting.{unfinished}
use Rattle.compile_graph.proofs.PartedInv.{parted-inv, parted-length, count-out}
use Rattle.compile_graph.proofs.Choice.{Chosen, chosen_is}
use Rattle.compile_graph.proofs.Candidates.{each-sort, any-sort, candidates-length, candidates-tot}
use Rattle.compile_graph.proofs.Candidates.{candidates-lt}
use Rattle.compile_graph.proofs.Candidates.{candidates-each}
use Rattle.compile_graph.proofs.Runs.{PartOf, run_is}

module _ (n S : ℕ) (x : Work) (hn : 0 < n) (I : Inv n S x) (t : T (unfinished n x)) where
  abbrev s : ℕ
  s = chosen x.weights x.arcs

  abbrev es : List Arc
  es = sort (out x.arcs s)

  abbrev among-them : List Arc
  among-them = candidates n x.weights (greatest x.weights) es

  is : Chosen n S x I s
  is = chosen_is n S x I t

  es-many : n < length es
  es-many = rw (length-sort (out x.arcs s)) is.many

  es-light : T (any (lighter x.weights (greatest x.weights)) es)
  es-light = any-sort (lighter x.weights (greatest x.weights)) (out x.arcs s) is.light

  es-once : (e : Arc) → count e es ≤ 1
  es-once e = rw (tot-sort (one (same e)) (out x.arcs s)) (le_trans (count-out x.arcs s e) (I.distinct e))

  es-positive : Each (λ e. 0 < weight x.weights e) es
  es-positive =
      each-sort _ (out x.arcs s)
      (each-filter (λ e. 0 < weight x.weights e) (leaves s) x.arcs
      (each_map (Inside (length x.weights)) _ (λ e i u. I.positive e.target i.1) x.arcs
      I.inside))

  -- the run among the candidates
  found : PartOf x.weights among-them (first_run n x.weights among-them)
      × (total x.weights (first_run n x.weights among-them) ≡ total x.weights
      (first_run n x.weights among-them) / n * n)
  found =
      run_is n x.weights among-them hn (candidates-length n x.weights es hn es-many es-light es-once)
      (candidates-each n x.weights es hn es-many es-light es-once (λ e. 0 < weight x.weights e) es-positive)

  part-run : Part n x s (first_run n x.weights among-them)
      (total x.weights (first_run n x.weights among-them) / n)
  part-run =
      let keep = first_run n x.weights among-them in
      let w = total x.weights keep / n in
      let e : total x.weights keep ≡ w * n = found.1 in
      let lt : w * n < greatest x.weights * n =
      rw (← e, mul_comm (greatest x.weights) n)
      (le_trans (suc-le-suc (found.0.0 (weight x.weights)))
      (candidates-lt n x.weights es hn es-many es-light es-once)) in
      let pos : 0 * n < w * n = rw (zero-mul n, ← e) found.0.1 in
      record {
        state = is.state;
        some = lt_of_mul-lt-mul_right n pos;
        less = rw is.heavy (lt_of_mul-lt-mul_right n lt);
        exact = e;
        own = λ a. le_trans (found.0.0 (one (same a)))
            (le_trans (candidates-tot n x.weights es hn es-many es-light es-once (one (same a)))
            (le_of_eq (tot-sort (one (same a)) (out x.arcs s))));
      }

  abbrev keep : List Arc
  keep = kept n x.weights x.arcs s

  -- the same, for the edges that the rule keeps
  pub split-part : Part n x s keep (total x.weights keep / n)
  split-part = subst (λ M. Part n x s (first_run n x.weights (candidates n x.weights M es))
      (total x.weights (first_run n x.weights (candidates n x.weights M es)) / n)) (sym is.heavy) part-run

  pub split-inv : Inv n S (split n x)
  unfolding split
  split-inv = parted-inv n S x s keep (total x.weights keep / n) hn I split-part

  pub split-length : length (split n x).weights ≡ suc (length x.weights)
  unfolding split
  split-length = parted-length n S x s keep (total x.weights keep / n) hn I split-part

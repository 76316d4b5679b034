-- The choice that the code finds is the rule's.
-- In order: chosen-in; chosen-line.
-- Assumes nothing.
use Rattle.std.proofs.Common.{◌≡◌, ◌/◌}
use Rattle.laws.proofs.All.{sym, ap, ap₂, ◌∙◌, List, map, ℕ, get_or, length-map-range}
use Rattle.compile_graph.specs.declared.Graph.{Graph}
use Rattle.compile_order.specs.declared.list.Keys.{Keys}
use Rattle.compile_choice.specs.declared.find_run.Run.{Run}
use Rattle.compile_graph.specs.Arcs.{Work}
use Rattle.compile_graph.specs.Weights.{total}
use Rattle.compile_graph.specs.Splitting.{chosen, kept}
use Rattle.compile_graph.specs.Value.{weight_at, weights_in, arcs_in, work_in}
use Rattle.compile_order.specs.EdgeKeys.{keys_in, key_weight}
use Rattle.compile_choice.specs.ChoiceParts.{FirstRun}
use Rattle.compile_split.proofs.SplitState.{Keyed, inside-run, kept-is, kept-total, share-le}
use Rattle.text.specs.Texts.{Added}
use Rattle.text.proofs.Adding.{added-same}
use Rattle.trace_splits.specs.declared.choices.Choice.{Choice}
use Rattle.trace_splits.specs.SplitText.{part_line, split_line}
use Rattle.trace_splits.specs.ChoiceParts.{ChosenIn}
use Rattle.compile_split.specs.SplitParts.{kept_arcs}

module _ {n : ℕ} {g : Graph} {s M : ℕ} {list : Keys} (k : Keyed n g s M (keys_in list)) (w : List ℕ)
    (w-is : w ≡ map (key_weight g) (keys_in list)) (run : Run) (run_is : FirstRun n w run) where
  -- THEOREM: state, weight, run and shares are those of the rule
  pub chosen-in : s ≡ chosen (weights_in g) (arcs_in g) → ChosenIn n (work_in g) (record {
    state = s;
    weight = M;
    share = run.total / n;
    fresh = g.states;
    run = run;
    keys = list;
  })
  chosen-in is = record {
    state = is;
    weight = k.weighs;
    edges = kept-is k w w-is run run_is;
    share = ap (λ t. t / n) (sym (kept-total k w w-is run run_is));
    fresh = sym (length-map-range (weight_at g) g.states);
    inside = inside-run k w w-is run run_is;
    less = share-le k w w-is run run_is;
  }

-- THEOREM: so its line is that of the split
pub chosen-line : (q : ℕ) {n : ℕ} {x : Work} {c : Choice} → ChosenIn n x c → {at r : ℕ} {B C : List ℕ}
    → Added (part_line q c.state c.weight (kept_arcs c.state (keys_in c.keys) c.run) c.share
    c.fresh) at B C r
    → Added (split_line q n x) at B C r
unfolding split_line
chosen-line q {n} {x} {c} i =
    let line : ℕ → ℕ → List ℕ = λ s f. part_line q s (get_or x.weights s 0) (kept n x.weights x.arcs s)
    (total x.weights (kept n x.weights x.arcs s) / n) f in
    added-same
    (ap₂ (λ M K. part_line q c.state M K c.share c.fresh) i.weight i.edges
    ∙ ap (λ w. part_line q c.state (get_or x.weights c.state 0) (kept n x.weights x.arcs c.state) w
    c.fresh) i.share
    ∙ ap₂ line i.state i.fresh)

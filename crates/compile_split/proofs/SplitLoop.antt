-- All splits: the loop.
-- In order: Going, going_start, goes_on-is, more-states, going-splits, going_on, going-crowded, going_end.
-- Assumes nothing.
use Rattle.std.proofs.Common.{Some, None, ◌≡◌, ◌&&◌, ◌+◌, ◌≤◌, ◌<◌}
use Rattle.laws.proofs.All.{refl, sym, ap, ap₂, subst, ◌∙◌, Bool, true, false, not, ℕ, zero, suc}
use Rattle.laws.proofs.All.{arith, le-ltb, T, length, range, sum, any, length-map-range}
use Rattle.compile_graph.specs.declared.Graph.{Graph}
use Rattle.compile_graph.specs.Arcs.{Work}
use Rattle.compile_graph.specs.Splitting.{splittable, unfinished, crowded, goes_on, split, splits, split_all}
use Rattle.compile_graph.specs.Invariant.{Inv}
use Rattle.compile_graph.specs.Value.{arc_at, arcs_in, weight_at, weights_in, work_in, Fits}
use Rattle.compile_split.specs.SplitParts.{SplitInto, SplitTo, Splits, SplitAllInto}
use Rattle.compile_graph.proofs.Choice.{ripe-some}
use Rattle.compile_graph.proofs.Split.{split-inv, split-length}
use Rattle.compile_graph.proofs.Loop.{splits-on, splits-off, states-le}

-- h is g after some splits, and the splits left lead from it to the end
pub record Going (n : ℕ) (g h : Graph) : Type 0 where
  pub fits : Fits h
  pub inv : Inv n (sum (weights_in g)) (work_in h)
  pub fuel : ℕ
  pub leads : splits fuel n (work_in h) ≡ split_all n (work_in g)
  pub enough : sum (weights_in g) ≤ fuel + h.states

splits-stop : (j n : ℕ) (x : Work) → goes_on n x ≡ false → splits j n x ≡ x
unfolding splits
splits-stop zero n x e = refl
splits-stop (suc j) n x e = splits-off j n x e

pub going_start : (n : ℕ) (g : Graph) → Splits n g → Going n g g
unfolding split_all
going_start n g p = record {
  fits = p.fits;
  inv = p.inv;
  fuel = sum (weights_in g);
  leads = refl;
  enough = omega arith;
}

module _ (n : ℕ) (g h : Graph) (p : Splits n g) (c : Going n g h) where
  states-h : length (weights_in h) ≡ h.states
  states-h = length-map-range (weight_at h) h.states

  not-crowded : crowded (work_in h) ≡ false
  not-crowded = le-ltb 2048 (length (arcs_in h)) (rw (length-map-range (arc_at h) h.edges) c.fits.room)

  pub goes_on-is : (b : Bool) → unfinished n (work_in h) ≡ b → goes_on n (work_in h) ≡ b
  goes_on-is b q = ap₂ (λ x y. not x && y) not-crowded q

  module _ (u : unfinished n (work_in h) ≡ true) where
    pub more-states : suc h.states ≤ sum (weights_in g)
    more-states =
        let t : T (unfinished n (work_in h)) = rw u tt in
        let e = split-length n (sum (weights_in g)) (work_in h) p.some c.inv t in
        let l = states-le n (sum (weights_in g)) p.some (split n (work_in h))
        (split-inv n (sum (weights_in g)) (work_in h) p.some c.inv t) in
        let k = states-h in
        omega arith

    pub going-room : h.states < 128
    going-room = omega (arith, more-states, p.weighs)

    pub going-splits : T (any (splittable (weights_in h) (arcs_in h)) (range (length (weights_in h))))
    going-splits = ripe-some n (sum (weights_in g)) (work_in h) c.inv (rw u tt)

    -- one split fewer left
    next : (k : ℕ) → c.fuel ≡ k → (j : ℕ) × (k ≡ suc j) × (splits j n (split n (work_in h)) ≡ split_all n (work_in g))
    next zero e = absurd (omega (arith, more-states, c.enough))
    next (suc k) e =
        let l = sym (splits-on k n (work_in h) (goes_on-is true u)) in
        (k, refl, l ∙ ap (λ j. splits j n (work_in h)) (sym e) ∙ c.leads)

    pub going_on : (r : Graph) → SplitTo n h r → Going n g r
    going_on r s =
        let (j, e, l) = next c.fuel refl in
        let t : T (unfinished n (work_in h)) = rw u tt in
        let k : length (weights_in r) ≡ suc (length (weights_in h)) =
        ap (λ x. length x.weights) s.work ∙ split-length n (sum (weights_in g)) (work_in h) p.some c.inv t in
        let k' = length-map-range (weight_at r) r.states in
        let k'' = states-h in
        record {
          fits = s.fits;
          inv = subst (Inv n (sum (weights_in g))) (sym s.work)
              (split-inv n (sum (weights_in g)) (work_in h) p.some c.inv t);
          fuel = j;
          leads = ap (splits j n) s.work ∙ l;
          enough = omega (arith, c.enough);
        }

    pub going-grows : (r : Graph) → SplitTo n h r → r.states ≡ suc h.states
    going-grows r s =
        let t : T (unfinished n (work_in h)) = rw u tt in
        sym (length-map-range (weight_at r) r.states) ∙ ap (λ x. length x.weights) s.work
        ∙ split-length n (sum (weights_in g)) (work_in h) p.some c.inv t ∙ ap suc states-h

    pub going-crowded : SplitInto n h None → SplitAllInto n g None
    going-crowded full =
        let (j, e, l) = next c.fuel refl in
        let ends : splits j n (split n (work_in h)) ≡ split n (work_in h) =
        splits-stop j n (split n (work_in h)) (ap (λ b. not b && unfinished n (split n (work_in h))) full) in
        ap crowded (sym l ∙ ends) ∙ full

  pub going_end : unfinished n (work_in h) ≡ false → SplitAllInto n g (Some h)
  going_end u = record {
    room = ap crowded (sym c.leads ∙ at c.fuel) ∙ not-crowded;
    work = sym (at c.fuel) ∙ c.leads;
    fits = c.fits;
  }
    where
      at : (j : ℕ) → splits j n (work_in h) ≡ work_in h
      at j = splits-stop j n (work_in h) (goes_on-is false u)

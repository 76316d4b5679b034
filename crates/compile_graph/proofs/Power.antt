-- The graph of words: its edges are distinct, lead to states, and are readings of the constraint.
-- In order: power-distinct, power-reads, power-inside.
-- Assumes nothing.
use Rattle.std.proofs.Common.{◌≡◌, ◌&&◌, ◌≤◌, ◌<◌, ◌^◌, if◌then◌else◌}
use Rattle.laws.proofs.All.{refl, ◌∙◌, inl, inr, Bool, true, false, not, map, ℕ, zero-le}
use Rattle.laws.proofs.All.{le_refl, le_trans, le_of_eq, T, eqb, eq-eqb, length, range, concat, so}
use Rattle.laws.proofs.All.{nay, eqb_is, Each, one, each_map, each-always, each-filter, each-image, tot-le}
use Rattle.laws.proofs.All.{tot-zero, tot-map, tot-union, each-union, each-range, range-once, tot-filter-le}
use Rattle.compile_graph.specs.Invariant.{count, Inside}
use Rattle.compile_graph.specs.Arcs.{Arc, word_from, words_from, leads_on, power, Reads}
use Rattle.compile_graph.specs.Splitting.{same}
use Rattle.constraint.specs.Walking.{Constraint, none, walk, Target, Well}
use Rattle.constraint.proofs.Walking.{walk_target}

and-le : (b c : Bool) → (if b && c then 1 else 0) ≤ (if b then 1 else 0)
and-le true true = le_refl 1
and-le true false = zero-le
and-le false c = zero-le

module _ (c : Constraint) (q : ℕ) where
  row_count : (e : Arc) (s : ℕ) → count e (words_from c q s) ≤ one (eqb e.source) s
  row_count e s = rw (tot-map (one (same e)) (word_from c q s) (range (2 ^ q))) (elim (eqb_is e.source s) [
    | so p u ↦ rw u (le_trans (tot-le (λ w. if eqb e.word w && eqb e.target (walk c q w s) then 1 else 0)
        (one (eqb e.word)) (range (2 ^ q))
        (each-always _ (λ w. and-le (eqb e.word w) (eqb e.target (walk c q w s))) (range (2 ^ q))))
        (range-once e.word (2 ^ q)))
    | nay p u ↦ rw u (le_of_eq (tot-zero (range (2 ^ q))))
  ])

  pub power-distinct : (e : Arc) → count e (power c q) ≤ 1
  unfolding power
  power-distinct e =
      le_trans (tot-filter-le (one (same e)) leads_on (concat (map (words_from c q) (range (length c)))))
      (rw (tot-union (one (same e)) (words_from c q) (range (length c)))
      (le_trans (tot-le (λ s. count e (words_from c q s)) (one (eqb e.source)) (range (length c))
      (each-always _ (row_count e) (range (length c)))) (range-once e.source (length c))))

  -- each edge is a word read from a state
  pub power-reads : Each (λ e. Reads c q e.source e.word e.target) (power c q)
  unfolding power
  power-reads =
      each-filter _ leads_on (concat (map (words_from c q) (range (length c))))
      (each-union (λ e. T (leads_on e) → Reads c q e.source e.word e.target) (words_from c q) (range (length c))
      (each_map (λ s. s < length c) _
      (λ s h. each-image _ (word_from c q s) (range (2 ^ q))
      (each_map (λ w. w < 2 ^ q) _ (λ w l t. (h, (refl, (λ p. absurd (ban (walk c q w s) t p)), l))) (range (2 ^ q))
      (each-range (2 ^ q))))
      (range (length c)) (each-range (length c))))
    where
      ban : (a : ℕ) → T (not (eqb a none)) → a ≡ none → ⊥
      ban a t p = let u : T (not true) = rw (eq-eqb a none p) at t in u

module _ (c : Constraint) (well : Well c) where
  pub power-inside : (q : ℕ) → Each (Inside (length c)) (power c q)
  power-inside q = each_map _ (Inside (length c))
      (λ e h. (h.0, go e h (walk_target c well q e.word e.source (inl h.0)))) (power c q) (power-reads c q)
    where
      go : (e : Arc) → Reads c q e.source e.word e.target
          → Target (length c) (walk c q e.word e.source) → e.target < length c
      go e h (inl l) = rw h.1.0 l
      go e h (inr p) = absurd (h.1.1 (h.1.0 ∙ p))

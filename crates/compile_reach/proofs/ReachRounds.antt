-- Which states can reach which: rounds over all states at once.
-- In order: Rounds, what holds after i rounds; rounds-start; step_row, one round of one state; rounds-more,
-- rounds-still, rounds-end; beq-Decides, the test of two Bools.
-- Assumes nothing.
use Rattle.std.proofs.Common.{◌≡◌, ◌&&◌, ◌||◌, ◌+◌, ◌-◌, ◌*◌, ◌/◌, ◌%◌, ◌≤◌, ◌<◌}
use Rattle.laws.proofs.All.{refl, sym, ap, ap₂, ◌∙◌, Bool, true, false, Bool·beq, List, map, take, get_or-take}
use Rattle.std.specs.Bool.{Decides}
use Rattle.laws.proofs.All.{ℕ, suc, arith, eqb, length, get_or, range, any}
use Rattle.laws.proofs.All.{iterate, map-range-at, iterate_fixed, length-map-range, map-range-same, any-range-same}
use Rattle.laws.proofs.All.{quotient-of, remainder_of}
use Rattle.compile_graph.specs.Arcs.{Arc}
use Rattle.compile_graph.specs.Component.{reaches_into, with_sources, reaching, reachings}
use Rattle.compile_reach.specs.ReachSets.{reach_at, row_of, rows_of, links_into, Linked, passes_on}

module _ (E : List Bool) (k : ℕ) (few : k ≤ 16) where
  -- after i rounds the rounds left lead to the states that can reach each state
  pub record Rounds (i : ℕ) (M : List Bool) : Type 0 where
    pub long : length M ≡ 256
    pub leads : (g : List Arc) → Linked E k g → (t : ℕ) → t < k
        → iterate (with_sources g) (k - i) (row_of M k t) ≡ reaching k g t

  place-lt : (t s : ℕ) → t < k → s < k → t * 16 + s < k * 16
  place-lt t s h l = omega arith

  pub rounds-start : (M : List Bool) → length M ≡ 256
      → ((x : ℕ) → x < k * 16 → get_or M x false ≡ eqb (x / 16) (x % 16))
      → Rounds 0 M
  rounds-start M l f = record {
    long = l;
    leads = λ g e t h.
        let z : k - 0 ≡ k = omega arith in
        ap₂ (iterate (with_sources g)) z
        (map-range-same (reach_at M t) (eqb t) k
        (λ s b. f (t * 16 + s) (place-lt t s h b)
        ∙ ap₂ eqb (quotient-of 16 t s (omega arith)) (remainder_of 16 t s (omega arith))));
  }

  module _ (M R : List Bool)
      (step : (x : ℕ) → x < k * 16
      → get_or R x false ≡ (get_or M x false || any (passes_on E M (x / 16) (x % 16)) (range k))) where
    step_row : (g : List Arc) → Linked E k g → (t : ℕ) → t < k → row_of R k t ≡ with_sources g (row_of M k t)
    step_row g e t h =
        map-range-same (reach_at R t) (reaches_into g (row_of M k t)) k
        (λ s b. step (t * 16 + s) (place-lt t s h b)
        ∙ ap₂ (λ a c. reach_at M t s || any (passes_on E M a c) (range k)) (quotient-of 16 t s (omega arith))
        (remainder_of 16 t s (omega arith))
        ∙ ap₂ (λ a c. a || c) (sym (map-range-at (reach_at M t) k s false b))
        (any-range-same (passes_on E M t s) (links_into E (row_of M k t) s) k
        (λ u l. ap (λ c. get_or E (s * 16 + u) false && c) (sym (map-range-at (reach_at M t) k u false l)))
        ∙ sym (e.links (row_of M k t) s b)))
        ∙ ap (λ n. map (reaches_into g (row_of M k t)) (range n)) (sym (length-map-range (reach_at M t) k))

    module _ (i : ℕ) (c : Rounds i M) where
      pub rounds-more : i < k → length R ≡ 256 → Rounds (i + 1) R
      rounds-more h l = record {
        long = l;
        leads = λ g e t b.
            let q : suc (k - (i + 1)) ≡ k - i = omega arith in
            ap (iterate (with_sources g) (k - (i + 1))) (step_row g e t b)
            ∙ ap (λ m. iterate (with_sources g) m (row_of M k t)) q ∙ c.leads g e t b;
      }

      pub rounds-still : take (k * 16) R ≡ take (k * 16) M → (g : List Arc) → Linked E k g
          → rows_of M k ≡ reachings k g
      unfolding rows_of
      rounds-still same g e =
          map-range-same (row_of M k) (reaching k g) k
          (λ t b. sym (iterate_fixed (with_sources g) (k - i) (row_of M k t)
          (sym (step_row g e t b) ∙ map-range-same (reach_at R t) (reach_at M t) k
          (λ s l. f (t * 16 + s) (place-lt t s b l))))
          ∙ c.leads g e t b)
        where
          f : (x : ℕ) → x < k * 16 → get_or R x false ≡ get_or M x false
          f x h =
              sym (get_or-take (k * 16) R x false h) ∙ ap (λ l. get_or l x false) same
              ∙ get_or-take (k * 16) M x false h

  pub rounds-end : (M : List Bool) (i : ℕ) → k ≤ i → Rounds i M → (g : List Arc) → Linked E k g → rows_of M k
      ≡ reachings k g
  unfolding rows_of
  rounds-end M i h c g e =
      map-range-same (row_of M k) (reaching k g) k
      (λ t b. let z : k - i ≡ 0 = omega arith in
      ap (λ m. iterate (with_sources g) m (row_of M k t)) (sym z) ∙ c.leads g e t b)

-- the test of two Bools
pub beq-Decides : (a b : Bool) → Decides (Bool·beq a b) (a ≡ b)
beq-Decides true true = ((λ _. refl), (λ _. refl))
beq-Decides false false = ((λ _. refl), (λ _. refl))
beq-Decides true false = ((λ e. sym e), (λ e. sym e))
beq-Decides false true = ((λ e. e), (λ e. e))

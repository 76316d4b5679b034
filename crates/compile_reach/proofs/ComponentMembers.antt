-- The component's states by loops over all states.
-- In order: found-lt; reaches-at, weighs-at; fails, returning-yes, returning-no; lowest, lowest-at, lowest-none; some-returns,
-- none-returns; kept,
-- component-is.
-- Assumes nothing.
use Rattle.std.proofs.Common.{Option, None, Some, IfSome, unwrap_or, ◌≡◌, ◌&&◌, ◌||◌, ◌≤◌, ◌<◌}
use Rattle.laws.proofs.All.{refl, sym, ap, ap₂, ◌∙◌, Bool, true, false, not, List, [], ℕ}
use Rattle.laws.proofs.All.{arith, ltb, length, get_or, take, length-take-le, get_or-take, range, filter, all, first}
use Rattle.laws.proofs.All.{member, map-range-at, each_map, each-range, first-least, filter_same, all_filter}
use Rattle.laws.proofs.All.{filter-fuse, first-filter, all-range-false, all-range-true, first-range-none}
use Rattle.laws.proofs.All.{any, any-filter, any_none, any-range-same, →any-below, T→true}
use Rattle.compile_graph.specs.Component.{reaches, returns, returning, weighs, live}
use Rattle.compile_reach.specs.ReachSets.{reach_at, row_of, rows_of}

-- what stands for no state is below k as well
pub found-lt : (r : Option ℕ) (k : ℕ) → IfSome r (λ s. s < k) → 0 < k → unwrap_or r 0 < k
found-lt None k h l = l
found-lt (Some s) k h l = h

module _ (M : List Bool) (v : List ℕ) (k : ℕ) (few : k ≤ 16) (long : length v ≡ 16) where
  abbrev R : List (List Bool)
  R = rows_of M k

  abbrev weight : List ℕ
  weight = take k v

  K : length weight ≡ k
  K = length-take-le k v (omega arith)

  reaches-at : (s t : ℕ) → s < k → t < k → reaches R s t ≡ reach_at M t s
  unfolding rows_of
  reaches-at s t h l =
      ap (λ r. member r s) (map-range-at (row_of M k) k t [] l) ∙ map-range-at (reach_at M t) k s false h

  pub weighs-at : (s : ℕ) → s < k → weighs weight s ≡ ltb 0 (get_or v s 0)
  weighs-at s h = ap (ltb 0) (get_or-take k v s 0 h)

  live-is : live weight ≡ filter (weighs weight) (range k)
  live-is = ap (λ n. filter (weighs weight) (range n)) K

  -- ---- returning
  -- t is reached from s and does not reach back
  abbrev pub fails : ℕ → ℕ → Bool
  fails s t = ltb 0 (get_or v t 0) && (reach_at M t s && not (reach_at M s t))

  de-morgan : (a b c : Bool) → (not a || (not b || c)) ≡ not (a && (b && not c))
  de-morgan true true true = refl
  de-morgan true true false = refl
  de-morgan true false c = refl
  de-morgan false b c = refl

  fails-at : (s t : ℕ) → s < k → t < k → (not (weighs weight t) || returns (reaches R) s t) ≡ not (fails s t)
  fails-at s t h l =
      ap₂ (λ a b. not a || (not b || reaches R t s)) (weighs-at t l) (reaches-at s t h l)
      ∙ ap (λ b. not (ltb 0 (get_or v t 0)) || (not (reach_at M t s) || b)) (reaches-at t s l h)
      ∙ de-morgan (ltb 0 (get_or v t 0)) (reach_at M t s) (reach_at M s t)

  returning-all : (s : ℕ) → returning R (live weight) s
      ≡ all (λ t. not (weighs weight t) || returns (reaches R) s t) (range k)
  returning-all s = ap (all (returns (reaches R) s)) live-is
      ∙ all_filter (returns (reaches R) s) (weighs weight) (range k)

  pub returning-yes : (s : ℕ) → s < k → ((t : ℕ) → t < k → fails s t ≡ false) → returning R (live weight) s ≡ true
  returning-yes s h f =
      returning-all s
      ∙ all-range-true (λ t. not (weighs weight t) || returns (reaches R) s t) k
      (λ t l. fails-at s t h l ∙ ap not (f t l))

  pub returning-no : (s t : ℕ) → s < k → t < k → fails s t ≡ true → returning R (live weight) s ≡ false
  returning-no s t h l e =
      returning-all s
      ∙ all-range-false (λ t. not (weighs weight t) || returns (reaches R) s t) k t l (fails-at s t h l ∙ ap not e)

  -- ---- the lowest
  abbrev pub lowest : ℕ
  lowest = first (returning R (live weight)) 0 (live weight)

  lowest-is : lowest ≡ first (λ s. weighs weight s && returning R (live weight) s) 0 (range k)
  lowest-is =
      ap (first (returning R (live weight)) 0) live-is
      ∙ first-filter (returning R (live weight)) (weighs weight) 0 (range k)

  pub lowest-at : (s : ℕ) → s < k → ((j : ℕ) → j < s → (weighs weight j && returning R (live weight) j) ≡ false)
      → (weighs weight s && returning R (live weight) s) ≡ true → s ≡ lowest
  lowest-at s h f e =
      sym (lowest-is ∙ first-least (λ s. weighs weight s && returning R (live weight) s) 0 k s f h e)

  pub lowest-none : ((j : ℕ) → j < k → (weighs weight j && returning R (live weight) j) ≡ false) → 0 ≡ lowest
  lowest-none f = sym (lowest-is ∙ first-range-none (λ s. weighs weight s && returning R (live weight) s) 0 k f)

  -- ---- whether one returns
  some-is : any (returning R (live weight)) (live weight)
      ≡ any (λ s. weighs weight s && returning R (live weight) s) (range k)
  some-is =
      ap (any (returning R (live weight))) live-is
      ∙ any-filter (returning R (live weight)) (weighs weight) (range k)

  pub some-returns : (s : ℕ) → s < k → (weighs weight s && returning R (live weight) s) ≡ true
      → any (returning R (live weight)) (live weight) ≡ true
  some-returns s h e =
      let p : ℕ → Bool = λ j. weighs weight j && returning R (live weight) j in
      some-is ∙ T→true (any p (range k)) (→any-below p k s h (rw e tt))

  pub none-returns : ((j : ℕ) → j < k → (weighs weight j && returning R (live weight) j) ≡ false)
      → any (returning R (live weight)) (live weight) ≡ false
  none-returns f =
      some-is ∙ any-range-same (λ s. weighs weight s && returning R (live weight) s) (λ s. false) k f
      ∙ any_none (range k)

  -- ---- the states reached from s
  module _ (s : ℕ) (hs : s < k) where
    -- t is one of them
    abbrev pub kept : ℕ → Bool
    kept t = ltb 0 (get_or v t 0) && reach_at M t s

    pub component-is : filter (reaches R s) (live weight) ≡ filter kept (range k)
    component-is =
        ap (filter (reaches R s)) live-is ∙ filter-fuse (reaches R s) (weighs weight) (range k)
        ∙ filter_same (λ t. weighs weight t && reaches R s t) kept (range k)
        (each_map (λ t. t < k) _ (λ t l. ap₂ (λ a b. a && b) (weighs-at t l) (reaches-at s t hs l)) (range k)
        (each-range k))

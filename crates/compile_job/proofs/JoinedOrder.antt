-- A job with two constraints is refused by reading exactly with the refusal of the first check that its bytes do not
-- meet.
-- In order: states_at, row, onward-row, one constraint at an offset; after, joined-rows; told-there, told-fits,
-- told-whole; first-again; joined-order.
-- Assumes nothing.
use Rattle.std.proofs.Common.{◌≡◌, ◌⊎◌, ◌↔◌, ◌&&◌, ◌∷◌, ◌+◌, ◌*◌, ◌-◌, ◌≤◌}
use Rattle.laws.proofs.All.{refl, sym, ap, ap₂, ◌∙◌, inl, inr, Bool, true, false, List, [], ℕ}
use Rattle.laws.proofs.All.{arith, leb, eqb, leb→le, le→leb, eqb→eq, length, get_or, drop, add-zero}
use Rattle.laws.proofs.All.{length-drop, get_or-drop, drop-drop, all}
use Rattle.answer.specs.declared.Refusal.{Refusal}
use Rattle.answer.specs.declared.Refusal.TheVariants.{Parameters, States, Length, TooManyPairs}
use Rattle.answer.specs.Outcomes.{Outcome, refused, unless, onward}
use Rattle.answer.specs.Orders.{check, First}
use Rattle.answer.proofs.Due.{Told, told-le, told-eq}
use Rattle.answer.proofs.Orders.{first-none, first-unless}
use Rattle.constraint.specs.Walking.{Constraint}
use Rattle.joining.specs.Joined.{pairs}
use Rattle.table.specs.Formed.{good_next}
use Rattle.compile_job.specs.Jobs.{Job, good_parameters, states_of, constraint_from, fronted, joined_job, read_joined}
use Rattle.compile_job.specs.Ranges.{Ranged, Few, Nexts}
use Rattle.compile_job.proofs.Constraints.{from-checked, length-states_of}
use Rattle.compile_job.proofs.Jobs.{checked-onward}
use Rattle.compile_job.proofs.Orders.{told-by, told-ranged, told-few, told-nexts}

-- ---- one constraint whose K stands at an offset and its next states from another on
-- its states
abbrev states_at : List ℕ → ℕ → ℕ → Constraint
states_at xs at to = states_of (get_or xs at 0) (drop to xs)

-- its checks, then o
abbrev row : (ℕ → ℕ → Bool) → List ℕ → ℕ → ℕ → Outcome Job → Outcome Job
row fits xs at to o =
    let K = get_or xs at 0 in
    let left = length (drop at xs) in
    unless Length (leb 1 left)
    (unless States (leb 1 K && leb K 16)
    (unless Length (fits (1 + 2 * K) left) (unless States (all (good_next K) (states_at xs at to)) o)))

onward-unless : {A B : Type 0} (r : Refusal) (b : Bool) (o : Outcome A) (f : A → Outcome B)
    → onward (unless r b o) f ≡ unless r b (onward o f)
onward-unless r true o f = refl
onward-unless r false o f = refl

onward-row : (fits : ℕ → ℕ → Bool) (xs : List ℕ) (at to : ℕ) → at + 1 ≡ to → (f : Constraint → Outcome Job)
    → onward (constraint_from fits (drop at xs)) f ≡ row fits xs at to (f (states_at xs at to))
onward-row fits xs at to e f =
    let ys = drop at xs in
    let left = length ys in
    let k : get_or ys 0 0 ≡ get_or xs at 0 = get_or-drop at xs 0 0 ∙ ap (λ i. get_or xs i 0) (add-zero at) in
    ap (λ o. onward o f) (from-checked fits ys)
    ∙ onward-unless Length (leb 1 left) _ f
    ∙ ap (unless Length (leb 1 left))
    (checked-onward (fits (1 + 2 * get_or ys 0 0) left) (get_or ys 0 0) (states_of (get_or ys 0 0) (drop 1 ys)) f
    ∙ ap₂ (λ K zs.
    unless States (leb 1 K && leb K 16)
    (unless Length (fits (1 + 2 * K) left) (unless States (all (good_next K) (states_of K zs)) (f (states_of K zs)))))
    k (drop-drop 1 at xs ∙ ap (λ i. drop i xs) e))

-- ---- both
-- the offset of the second constraint's next states
after : (K : ℕ) → 4 + 2 * K + 1 ≡ 5 + 2 * K
after K = omega arith

joined-rows : (xs : List ℕ) → let K = get_or xs 3 0 in let c = states_at xs 3 4 in read_joined xs
    ≡ fronted xs (row leb xs 3 4
    (row eqb xs (4 + 2 * K) (5 + 2 * K) (joined_job xs c (states_at xs (4 + 2 * K) (5 + 2 * K)))))
unfolding read_joined
joined-rows xs =
    let K = get_or xs 3 0 in
    let c = states_at xs 3 4 in
    ap (fronted xs)
    (onward-row leb xs 3 4 refl (λ c. onward (constraint_from eqb (drop (4 + 2 * length c) xs)) (joined_job xs c))
    ∙ ap (row leb xs 3 4)
    (ap (λ n. onward (constraint_from eqb (drop (4 + 2 * n) xs)) (joined_job xs c)) (length-states_of K (drop 4 xs))
    ∙ onward-row eqb xs (4 + 2 * K) (5 + 2 * K) (after K) (joined_job xs c)))

-- ---- what the tests say
module _ (xs : List ℕ) (at to : ℕ) (e : at + 1 ≡ to) where
  left_is : length (drop at xs) ≡ length xs - at
  left_is = length-drop at xs

  told-there : Told (leb 1 (length (drop at xs))) (to ≤ length xs) (to ≤ length xs → ⊥)
  told-there =
      told-by (leb 1 (length (drop at xs)))
      (λ t. let h = leb→le 1 (length (drop at xs)) t in omega (arith, left_is))
      (λ h. le→leb 1 (length (drop at xs)) (omega (arith, left_is)))

  module _ (K : ℕ) where
    told-fits : Told (leb (1 + 2 * K) (length (drop at xs))) (to + 2 * K ≤ length xs)
        (to + 2 * K ≤ length xs → ⊥)
    told-fits =
        told-by (leb (1 + 2 * K) (length (drop at xs)))
        (λ t. let h = leb→le (1 + 2 * K) (length (drop at xs)) t in omega (arith, left_is))
        (λ h. le→leb (1 + 2 * K) (length (drop at xs)) (omega (arith, left_is)))

    told-whole : Told (eqb (1 + 2 * K) (length (drop at xs))) (length xs ≡ to + 2 * K)
        (length xs ≡ to + 2 * K → ⊥)
    told-whole =
        told-by (eqb (1 + 2 * K) (length (drop at xs)))
        (λ t. let h = eqb→eq (1 + 2 * K) (length (drop at xs)) t in omega (arith, left_is))
        (λ h. (told-eq (1 + 2 * K) (length (drop at xs))).passes.1 (omega (arith, left_is)))

-- ---- a check that was made before never fails
first-again : {P Q F : Type 0} (s t : Refusal) (r : Refusal)
    → (((s ≡ r) × (P → ⊥)) ⊎ (P × (((t ≡ r) × (Q → ⊥)) ⊎ (Q × (((s ≡ r) × (P → ⊥)) ⊎ (P × F))))))
    ↔ (((s ≡ r) × (P → ⊥)) ⊎ (P × (((t ≡ r) × (Q → ⊥)) ⊎ (Q × F))))
first-again s t r = (
  (λ x. elim x [
    | inl a ↦ inl a
    | inr (p, inl b) ↦ inr (p, inl b)
    | inr (p, inr (q, inl (_, n))) ↦ absurd (n p)
    | inr (p, inr (q, inr (_, f))) ↦ inr (p, inr (q, f))
  ]),
  (λ x. elim x [
    | inl a ↦ inl a
    | inr (p, inl b) ↦ inr (p, inl b)
    | inr (p, inr (q, f)) ↦ inr (p, inr (q, inr (p, f)))
  ]),
)

-- THEOREM: "8 below four bytes, 1, then for each constraint 8 for a missing K, K by 2, 8, next states by 2", then 14
pub joined-order : (xs : List ℕ) (r : Refusal) → let n = length xs in let K = get_or xs 3 0 in
    let L = get_or xs (4 + 2 * K) 0 in (read_joined xs ≡ refused r)
    ↔ First (check Length (4 ≤ n) ∷ check Parameters (Ranged (get_or xs 0 0) (get_or xs 1 0) (get_or xs 2 0))
    ∷ check States (Few K) ∷ check Length (4 + 2 * K ≤ n) ∷ check States (Nexts K (drop 4 xs))
    ∷ check Length (5 + 2 * K ≤ n) ∷ check States (Few L) ∷ check Length (n ≡ 5 + 2 * K + 2 * L)
    ∷ check States (Nexts L (drop (5 + 2 * K) xs))
    ∷ check TooManyPairs (length (pairs (states_of K (drop 4 xs)) (states_of L (drop (5 + 2 * K) xs))) ≤ 16) ∷ []) r
joined-order xs r =
    let n = length xs in
    let K = get_or xs 3 0 in
    let at = 4 + 2 * K in
    let to = 5 + 2 * K in
    let L = get_or xs at 0 in
    let c = states_at xs 3 4 in
    let d = states_at xs at to in
    let (f, g) =
    first-unless Length (leb 4 n) _ r (told-le 4 n)
    (first-unless Parameters (good_parameters (get_or xs 0 0) (get_or xs 1 0) (get_or xs 2 0)) _ r
    (told-ranged (get_or xs 0 0) (get_or xs 1 0) (get_or xs 2 0))
    (first-unless Length (leb 1 (length (drop 3 xs))) _ r (told-there xs 3 4 refl)
    (first-unless States (leb 1 K && leb K 16) _ r (told-few K)
    (first-unless Length (leb (1 + 2 * K) (length (drop 3 xs))) _ r (told-fits xs 3 4 refl K)
    (first-unless States (all (good_next K) c) _ r (told-nexts K (drop 4 xs))
    (first-unless Length (leb 1 (length (drop at xs))) _ r (told-there xs at to (after K))
    (first-unless States (leb 1 L && leb L 16) _ r (told-few L)
    (first-unless Length (eqb (1 + 2 * L) (length (drop at xs))) _ r (told-whole xs at to (after K) L)
    (first-unless States (all (good_next L) d) _ r (told-nexts L (drop to xs))
    (first-unless TooManyPairs (leb (length (pairs c d)) 16) _ r (told-le (length (pairs c d)) 16)
    (first-none _ r))))))))))) in
    let (u, v) = first-again Length Parameters r in (
      (λ e. u (f (sym (joined-rows xs) ∙ e))),
      (λ x. joined-rows xs ∙ g (v x)),
    )

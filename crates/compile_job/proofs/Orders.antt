-- A job of each kind is refused by reading exactly with the refusal of the first check that its bytes do not meet.
-- In order: told-by, told-ranged, told-few, state-fact, nexts-from, told-nexts, told-either, told_fit, what the tests
-- say; read-order; run-length-order.
-- Assumes nothing.
use Rattle.std.proofs.Common.{◌≡◌, ◌⊎◌, ◌↔◌, ◌&&◌, ◌||◌, ◌∷◌, ◌+◌, ◌*◌, ◌^◌, ◌≤◌, ◌<◌}
use Rattle.laws.proofs.All.{refl, sym, ap, subst, ◌∙◌, inl, inr, Bool, true, false, List, []}
use Rattle.laws.proofs.All.{ℕ, zero, suc, arith, ℕ_discrete, T, leb, ltb, eqb, eqb→eq}
use Rattle.laws.proofs.All.{ltb→lt, lt→ltb, length, get_or, drop, get_or-drop, all, and→, →and, or→, →or_l, →or_r}
use Rattle.answer.specs.declared.Refusal.{Refusal}
use Rattle.answer.specs.declared.Refusal.TheVariants.{Parameters, States, Length, BadWeights}
use Rattle.answer.specs.Outcomes.{done, refused}
use Rattle.answer.specs.Orders.{check, First}
use Rattle.answer.proofs.Due.{Told, told-le, told-eq, told_and}
use Rattle.answer.proofs.Orders.{first-none, first-unless, first-onward}
use Rattle.constraint.specs.Walking.{run_length}
use Rattle.table.specs.Formed.{good_state, good_next}
use Rattle.compile_graph.specs.Arcs.{power}
use Rattle.compile_graph.specs.Weights.{Passing}
use Rattle.compile_graph.proofs.Weights.{passing-exact}
use Rattle.compile_job.specs.Jobs.{Job, good_parameters, bringing, fit, fitted, states_of, held_job, read_job}
use Rattle.compile_job.specs.Jobs.{held_run_length, read_run_length, held_with}
use Rattle.compile_job.specs.Ranges.{Ranged, Few, Nexts}
use Rattle.compile_job.proofs.Weights.{bringing-none, bringing-some}

-- ---- what the tests say
pub told-by : {P : Type 0} (b : Bool) → (T b → P) → (P → T b) → Told b P (P → ⊥)
told-by true f g = record { passes = (f, g); fails = ((λ e. absurd (subst T e tt)), (λ n. absurd (n (f tt)))) }
told-by false f g = record { passes = (f, g); fails = ((λ e p. absurd (g p)), (λ n. refl)) }

pub told-ranged : (p q cap : ℕ) → Told (good_parameters p q cap) (Ranged p q cap) (Ranged p q cap → ⊥)
told-ranged p q cap =
    let t = told_and (leb 1 p && leb p 4) ((leb 1 q && leb q 8) && (leb 1 cap && leb cap 16))
    (told_and (leb 1 p) (leb p 4) (told-le 1 p) (told-le p 4))
    (told_and (leb 1 q && leb q 8) (leb 1 cap && leb cap 16)
    (told_and (leb 1 q) (leb q 8) (told-le 1 q) (told-le q 8))
    (told_and (leb 1 cap) (leb cap 16) (told-le 1 cap) (told-le cap 16))) in
    told-by (good_parameters p q cap)
    (λ u. let ((a, b), ((c, d), (e, h))) = t.passes.0 u in (a, b, c, d, e, h))
    (λ (a, b, c, d, e, h). t.passes.1 ((a, b), ((c, d), (e, h))))

pub told-few : (K : ℕ) → Told (leb 1 K && leb K 16) (Few K) ((K < 1) ⊎ (16 < K))
told-few K = told_and (leb 1 K) (leb K 16) (told-le 1 K) (told-le K 16)

state-fact : (K s : ℕ) → T (good_state K s) ↔ ((s < K) ⊎ (s ≡ 255))
state-fact K s = (
  (λ t. elim (or→ (eqb s 255) (ltb s K) t) [ inl a ↦ inr (eqb→eq s 255 a) | inr b ↦ inl (ltb→lt s K b) ]),
  (λ x. elim x [
    | inl h ↦ →or_r (eqb s 255) (ltb s K) (lt→ltb s K h)
    | inr e ↦ →or_l (eqb s 255) (ltb s K) ((told-eq s 255).passes.1 e)
  ]),
)

-- n states from the front of ys, each with next states among K
nexts-from : (K n : ℕ) (ys : List ℕ) → T (all (good_next K) (states_of n ys))
    ↔ ((i : ℕ) → i < 2 * n → (get_or ys i 0 < K) ⊎ (get_or ys i 0 ≡ 255))
nexts-from K zero ys = ((λ t i h. absurd (omega arith)), (λ f. tt))
nexts-from K (suc n) ys =
    let (u, v) = nexts-from K n (drop 2 ys) in
    let a = good_state K (get_or ys 0 0) in
    let b = good_state K (get_or ys 1 0) in
    let rest = all (good_next K) (states_of n (drop 2 ys)) in (
      (λ t.
          let (ab, r) = and→ (a && b) rest t in
          let (ta, tb) = and→ a b ab in
          split ((state-fact K (get_or ys 0 0)).0 ta) ((state-fact K (get_or ys 1 0)).0 tb) (u r)),
      (λ f. →and (a && b) rest
          (→and a b ((state-fact K (get_or ys 0 0)).1 (f 0 (omega arith)))
          ((state-fact K (get_or ys 1 0)).1 (f 1 (omega arith))))
          (v (λ i h. subst Good (sym (get_or-drop 2 ys i 0)) (f (2 + i) (omega arith))))),
    )
  where
    Good : ℕ → Type 0
    Good x = (x < K) ⊎ (x ≡ 255)

    split : Good (get_or ys 0 0) → Good (get_or ys 1 0) → ((i : ℕ) → i < 2 * n → Good (get_or (drop 2 ys) i 0))
        → (i : ℕ) → i < 2 * suc n → Good (get_or ys i 0)
    split p q f zero h = p
    split p q f (suc zero) h = q
    split p q f (suc (suc i)) h =
        let e : 2 + i ≡ suc (suc i) = omega arith in
        subst Good (get_or-drop 2 ys i 0 ∙ ap (λ k. get_or ys k 0) e) (f i (omega arith))

pub told-nexts : (K : ℕ) (ys : List ℕ) → Told (all (good_next K) (states_of K ys)) (Nexts K ys) (Nexts K ys → ⊥)
told-nexts K ys =
    let (f, g) = nexts-from K K ys in told-by (all (good_next K) (states_of K ys)) f g

-- one of two lengths
told-either : (n a b : ℕ) → Told (eqb n a || eqb n b) ((n ≡ a) ⊎ (n ≡ b)) ((n ≡ a) ⊎ (n ≡ b) → ⊥)
told-either n a b =
    told-by (eqb n a || eqb n b)
    (λ t. elim (or→ (eqb n a) (eqb n b) t) [ inl u ↦ inl (eqb→eq n a u) | inr u ↦ inr (eqb→eq n b u) ])
    (λ x. elim x [
      | inl e ↦ →or_l (eqb n a) (eqb n b) ((told-eq n a).passes.1 e)
      | inr e ↦ →or_r (eqb n a) (eqb n b) ((told-eq n b).passes.1 e)
    ])

-- no weights come with a job of `size` bytes; those that come with a longer one pass
told_fit : (j : Job) (size : ℕ) (xs : List ℕ) → let P = (length xs ≡ size)
    ⊎ Passing (2 ^ j.p) j.cap (power j.constraint j.q) (drop size xs) in
    Told (fit j (bringing size xs)) P (P → ⊥)
told_fit j size xs =
    let u = drop size xs in
    let (f, g) = passing-exact (2 ^ j.p) j.cap (power j.constraint j.q) u in
    elim (ℕ_discrete (length xs) size) [
      | yes e ↦ told-by (fit j (bringing size xs)) (λ t. inl e)
          (λ p. subst (λ ch. T (fit j ch)) (sym (bringing-none size xs e)) tt)
      | no n ↦
          let b = bringing-some size xs n in
          told-by (fit j (bringing size xs)) (λ t. inr (f (subst (λ ch. T (fit j ch)) b t)))
          (λ p. elim p [
            | inl e ↦ absurd (n e)
            | inr q ↦ subst (λ ch. T (fit j ch)) (sym b) (g q)
          ])
    ]

-- ---- a job
pub read-order : (xs : List ℕ) (r : Refusal) → let n = length xs in let K = get_or xs 3 0 in
    (read_job xs ≡ refused r)
    ↔ First (check Length (4 ≤ n) ∷ check Parameters (Ranged (get_or xs 0 0) (get_or xs 1 0) (get_or xs 2 0))
    ∷ check States (Few K) ∷ check Length ((n ≡ 4 + 2 * K) ⊎ (n ≡ 4 + 3 * K)) ∷ check States (Nexts K (drop 4 xs))
    ∷ check BadWeights ((n ≡ 4 + 2 * K) ⊎ Passing (2 ^ get_or xs 0 0) (get_or xs 2 0)
    (power (states_of K (drop 4 xs)) (get_or xs 1 0)) (drop (4 + 2 * K) xs)) ∷ []) r
unfolding read_job held_job
read-order xs r =
    let n = length xs in
    let K = get_or xs 3 0 in
    let c = states_of K (drop 4 xs) in
    let j = held_with (get_or xs 0 0) (get_or xs 1 0) (get_or xs 2 0) c (bringing (4 + 2 * K) xs) in
    first-onward Length (leb 4 n) _ fitted r (told-le 4 n)
    (first-onward Parameters (good_parameters (get_or xs 0 0) (get_or xs 1 0) (get_or xs 2 0)) _ fitted r
    (told-ranged (get_or xs 0 0) (get_or xs 1 0) (get_or xs 2 0))
    (first-onward States (leb 1 K && leb K 16) _ fitted r (told-few K)
    (first-onward Length (eqb n (4 + 2 * K) || eqb n (4 + 3 * K)) _ fitted r (told-either n (4 + 2 * K) (4 + 3 * K))
    (first-onward States (all (good_next K) c) _ fitted r (told-nexts K (drop 4 xs))
    (first-unless BadWeights (fit j j.choice) (done j) r (told_fit j (4 + 2 * K) xs) (first-none j r))))))

-- ---- a run-length job
pub run-length-order : (xs : List ℕ) (r : Refusal) → let n = length xs in let d = get_or xs 0 0 in
    let k = get_or xs 1 0 in (read_run_length xs ≡ refused r)
    ↔ First (check Length (5 ≤ n) ∷ check Parameters (Ranged (get_or xs 2 0) (get_or xs 3 0) (get_or xs 4 0))
    ∷ check States ((d ≤ k) × (k ≤ 15)) ∷ check Length ((n ≡ 5) ⊎ (n ≡ 5 + (k + 1)))
    ∷ check BadWeights ((n ≡ 5) ⊎ Passing (2 ^ get_or xs 2 0) (get_or xs 4 0) (power (run_length d k) (get_or xs 3 0))
    (drop 5 xs)) ∷ []) r
unfolding read_run_length held_run_length
run-length-order xs r =
    let n = length xs in
    let d = get_or xs 0 0 in
    let k = get_or xs 1 0 in
    let j = held_with (get_or xs 2 0) (get_or xs 3 0) (get_or xs 4 0) (run_length d k) (bringing 5 xs) in
    first-onward Length (leb 5 n) _ fitted r (told-le 5 n)
    (first-onward Parameters (good_parameters (get_or xs 2 0) (get_or xs 3 0) (get_or xs 4 0)) _ fitted r
    (told-ranged (get_or xs 2 0) (get_or xs 3 0) (get_or xs 4 0))
    (first-onward States (leb d k && leb k 15) _ fitted r
    (told_and (leb d k) (leb k 15) (told-le d k) (told-le k 15))
    (first-onward Length (eqb n 5 || eqb n (5 + (k + 1))) _ fitted r (told-either n 5 (5 + (k + 1)))
    (first-unless BadWeights (fit j j.choice) (done j) r (told_fit j 5 xs) (first-none j r)))))

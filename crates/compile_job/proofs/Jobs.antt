-- Jobs that are read are allowed: their numbers are in range and their next states are states or none.
-- In order: checked-onward; held_job-from, a job is a front and one constraint; bringing-counted, sized→, held-sized;
-- held_job-held, read_job-allowed; held_run_length→, held_run_length-held, read_run_length-allowed, read_listed-is;
-- read_joined-allowed.
-- Assumes nothing.
use Rattle.std.proofs.Common.{◌≡◌, ◌&&◌, ◌||◌, ◌+◌, ◌*◌, ◌-◌, ◌/◌, ◌≤◌}
use Rattle.laws.proofs.All.{refl, sym, ap, ap₂, subst, ◌∙◌, inl, inr, Bool, true, false, List, ℕ}
use Rattle.laws.proofs.All.{arith, ℕ_discrete, T, leb, eqb, leb→le, le→leb, leb-true, eqb→eq}
use Rattle.laws.proofs.All.{eq-eqb, ne_eqb, eqb_is, Whether, so, nay, length, get_or, drop, length-drop, get_or-drop}
use Rattle.laws.proofs.All.{drop-drop, all, and→, or→}
use Rattle.answer.specs.declared.Refusal.TheVariants.{Parameters, States, Length}
use Rattle.answer.specs.Outcomes.{Outcome, done, unless, onward}
use Rattle.answer.proofs.Outcomes.{done_inj, unless-true, unless→, onward→}
use Rattle.constraint.specs.Value.{constraint_of}
use Rattle.constraint.proofs.Values.{length-constraint_of}
use Rattle.constraint.specs.Walking.{Constraint, run_length, Lawful}
use Rattle.constraint.proofs.Walking.{length-run_length, run_length-well}
use Rattle.table.specs.Formed.{good_next}
use Rattle.joining.specs.Joined.{joined}
use Rattle.joining.proofs.Joined.{joined-lawful}
use Rattle.compile_job.specs.Jobs.{Job, good_parameters, bringing, fit, states_of, constraint_from, fronted}
use Rattle.compile_job.specs.Jobs.{held_with, job_bringing, job_with, held_job, read_job, held_run_length}
use Rattle.compile_job.specs.Jobs.{read_run_length}
use Rattle.compile_job.specs.Jobs.{read_listed, read_joined, Allowed}
use Rattle.constraint.specs.declared.Constraint.{Constraint as Stored}
use Rattle.compile_job.specs.JobValues.{Counted, Held, Sized, spare}
use Rattle.compile_job.proofs.Constraints.{checked, from-checked, length-states_of, constraint_from-lawful}
use Rattle.compile_job.proofs.Constraints.{constraint_from-fits}
use Rattle.compile_job.proofs.Fronts.{fronted→, allowed_of, fitted-allowed}
use Rattle.compile_job.proofs.Joining.{joins-lawful, joins-exact}

-- ---- a job is a front and one constraint
-- the length that K says, after cap and of all bytes
same_place : (a n m b : ℕ) → n ≡ m - 3 → 4 ≤ m → b ≡ 3 + a → eqb a n ≡ eqb m b
same_place a n m b e h p = elim (ℕ_discrete m b) [
  | yes q ↦ eq-eqb a n (omega arith) ∙ sym (eq-eqb m b q)
  | no q ↦ ne_eqb a n (λ k. q (omega arith)) ∙ sym (ne_eqb m b q)
]

half : (K : ℕ) → 1 + 2 * K + (1 + 2 * K) / 2 ≡ 1 + 3 * K
half K = omega arith

same_size : (n m K : ℕ) → n ≡ m - 3 → 4 ≤ m
    → spare (1 + 2 * K) n ≡ (eqb m (4 + 2 * K) || eqb m (4 + 3 * K))
same_size n m K e h =
    ap₂ (λ a b. a || b) (same_place (1 + 2 * K) n m (4 + 2 * K) e h (omega arith))
    (same_place (1 + 2 * K + (1 + 2 * K) / 2) n m (4 + 3 * K) e h (omega (arith, half K)))

-- the constraint after cap
behind : (xs : List ℕ) → 4 ≤ length xs → constraint_from spare (drop 3 xs)
    ≡ checked (eqb (length xs) (4 + 2 * get_or xs 3 0) || eqb (length xs) (4 + 3 * get_or xs 3 0)) (get_or xs 3 0)
    (states_of (get_or xs 3 0) (drop 4 xs))
behind xs h =
    let ys = drop 3 xs in
    let l : length ys ≡ length xs - 3 = length-drop 3 xs in
    from-checked spare ys
    ∙ unless-true Length (leb 1 (length ys)) _ (le→leb 1 (length ys) (omega arith))
    ∙ ap (λ K. checked (spare (1 + 2 * K) (length ys)) K (states_of K (drop 1 ys))) (get_or-drop 3 xs 0 0)
    ∙ ap₂ (λ fit zs. checked fit (get_or xs 3 0) (states_of (get_or xs 3 0) zs))
    (same_size (length ys) (length xs) (get_or xs 3 0) l h) (drop-drop 1 3 xs)

pub checked-onward : {A : Type 0} (fit : Bool) (K : ℕ) (c : Constraint) (f : Constraint → Outcome A)
    → onward (checked fit K c) f
    ≡ unless States (leb 1 K && leb K 16) (unless Length fit (unless States (all (good_next K) c) (f c)))
checked-onward {A} fit K c f = go (leb 1 K && leb K 16) fit (all (good_next K) c)
  where
    go : (s t u : Bool) → onward (unless States s (unless Length t (unless States u (done c)))) f
        ≡ unless States s (unless Length t (unless States u (f c)))
    go true true true = refl
    go true true false = refl
    go true false u = refl
    go false t u = refl

-- THEOREM: a job's bytes are read as p, q and cap and then one constraint, which takes all the rest but its weights
pub held_job-from : (xs : List ℕ) → held_job xs
    ≡ fronted xs (onward (constraint_from spare (drop 3 xs)) (λ c. done (job_bringing xs c)))
unfolding held_job
held_job-from xs = go (leb 4 (length xs)) refl
  where
    K : ℕ
    K = get_or xs 3 0

    held : ℕ → Job
    held n =
        held_with (get_or xs 0 0) (get_or xs 1 0) (get_or xs 2 0) (states_of K (drop 4 xs)) (bringing (4 + 2 * n) xs)

    go : (b : Bool) → leb 4 (length xs) ≡ b
        → unless Length b (unless Parameters (good_parameters (get_or xs 0 0) (get_or xs 1 0) (get_or xs 2 0))
        (unless States (leb 1 K && leb K 16)
        (unless Length (eqb (length xs) (4 + 2 * K) || eqb (length xs) (4 + 3 * K))
        (unless States (all (good_next K) (states_of K (drop 4 xs))) (done (held K))))))
        ≡ unless Length b (unless Parameters (good_parameters (get_or xs 0 0) (get_or xs 1 0) (get_or xs 2 0))
        (onward (constraint_from spare (drop 3 xs)) (λ c. done (job_bringing xs c))))
    go true e =
        ap (unless Parameters (good_parameters (get_or xs 0 0) (get_or xs 1 0) (get_or xs 2 0)))
        (sym (ap (λ o. onward o (λ c. done (job_bringing xs c))) (behind xs (leb-true 4 (length xs) e))
        ∙ checked-onward (eqb (length xs) (4 + 2 * K) || eqb (length xs) (4 + 3 * K)) K (states_of K (drop 4 xs))
        (λ c. done (job_bringing xs c))
        ∙ ap (λ n. unless States (leb 1 K && leb K 16)
        (unless Length (eqb (length xs) (4 + 2 * K) || eqb (length xs) (4 + 3 * K))
        (unless States (all (good_next K) (states_of K (drop 4 xs))) (done (held n)))))
        (length-states_of K (drop 4 xs))))
    go false e = refl

-- ---- the jobs that are read
-- as many weights as states come with a job, or none
pub bringing-counted : (size states : ℕ) (xs : List ℕ) (j : Job) → length j.constraint ≡ states
    → Sized size states (length xs) → Counted j (bringing size xs)
bringing-counted size states xs j l s = go (eqb_is (length xs) size) s
  where
    go : Whether (length xs ≡ size) (eqb (length xs) size) → Sized size states (length xs)
        → Counted j (bringing size xs)
    go (so p q) s = rw q tt
    go (nay p q) (inl e) = absurd (p e)
    go (nay p q) (inr e) = rw q (let d = length-drop size xs in omega arith)

pub sized→ : (size n m K : ℕ) → n ≡ m - 3 → 4 ≤ m → size ≡ 4 + 2 * K → T (spare (1 + 2 * K) n) → Sized size K m
sized→ size n m K e h p t = elim (or→ (eqb (1 + 2 * K) n) (eqb (1 + 2 * K + (1 + 2 * K) / 2) n) t) [
  | inl u ↦ inl (let q = eqb→eq (1 + 2 * K) n u in omega arith)
  | inr u ↦ inr (let q = eqb→eq (1 + 2 * K + (1 + 2 * K) / 2) n u in omega (arith, half K))
]

-- the bytes of a job fit the constraint that is read in them
pub held-sized : (xs : List ℕ) → 4 ≤ length xs → (k : Stored)
    → done (constraint_of k) ≡ constraint_from spare (drop 3 xs)
    → (k.states ≤ 16) × Sized (4 + 2 * k.states) k.states (length xs)
held-sized xs h k e =
    let c = constraint_of k in
    let l : length c ≡ k.states = length-constraint_of k in
    let f = (constraint_from-lawful spare (drop 3 xs) c (sym e)).few in (
      omega arith,
      subst (λ k. Sized (4 + 2 * k) k (length xs)) l
          (sized→ (4 + 2 * length c) (length (drop 3 xs)) (length xs) (length c) (length-drop 3 xs) h refl
          (constraint_from-fits spare (drop 3 xs) c (sym e))),
    )

pub held_job-held : (xs : List ℕ) (j : Job) → held_job xs ≡ done j → Held j
held_job-held xs j e =
    let (l, t, e₁) = fronted→ xs _ j (sym (held_job-from xs) ∙ e) in
    let (c, q, e₂) = onward→ (constraint_from spare (drop 3 xs)) (λ c. done (job_bringing xs c)) j e₁ in
    subst Held (done_inj (job_bringing xs c) j e₂)
    (record {
      parameters = t;
      lawful = constraint_from-lawful spare (drop 3 xs) c q;
      counted = bringing-counted (4 + 2 * length c) (length c) xs (job_bringing xs c) refl
          (sized→ (4 + 2 * length c) (length (drop 3 xs)) (length xs) (length c) (length-drop 3 xs) l refl
          (constraint_from-fits spare (drop 3 xs) c q));
    })

pub read_job-allowed : (xs : List ℕ) (j : Job) → read_job xs ≡ done j → Allowed j
unfolding read_job
read_job-allowed xs j e = fitted-allowed (held_job xs) j e (held_job-held xs)

run_length-lawful : (d k : ℕ) → k ≤ 15 → Lawful (run_length d k)
run_length-lawful d k h =
    let l : length (run_length d k) ≡ k + 1 = length-run_length d k in
    record { some = omega arith; few = omega arith; well = run_length-well d k }

-- a run-length job has the constraint (d, k) of its first two bytes, and its weights after the first five
pub held_run_length→ : (xs : List ℕ) (j : Job) → held_run_length xs ≡ done j → let k = get_or xs 1 0 in
    T (good_parameters (get_or xs 2 0) (get_or xs 3 0) (get_or xs 4 0)) × (get_or xs 0 0 ≤ k) × (k ≤ 15)
    × Sized 5 (k + 1) (length xs)
    × (j ≡ held_with (get_or xs 2 0) (get_or xs 3 0) (get_or xs 4 0) (run_length (get_or xs 0 0) k) (bringing 5 xs))
unfolding held_run_length
held_run_length→ xs j e =
    let d = get_or xs 0 0 in
    let k = get_or xs 1 0 in
    let found = held_with (get_or xs 2 0) (get_or xs 3 0) (get_or xs 4 0) (run_length d k) (bringing 5 xs) in
    let (_, e₁) = unless→ Length (leb 5 (length xs)) _ j e in
    let (tp, e₂) = unless→ Parameters (good_parameters (get_or xs 2 0) (get_or xs 3 0) (get_or xs 4 0)) _ j e₁ in
    let (tk, e₃) = unless→ States (leb d k && leb k 15) _ j e₂ in
    let (tl, e₄) = unless→ Length (eqb (length xs) 5 || eqb (length xs) (5 + (k + 1))) _ j e₃ in (
      tp,
      leb→le d k (and→ (leb d k) (leb k 15) tk).0,
      leb→le k 15 (and→ (leb d k) (leb k 15) tk).1,
      elim (or→ (eqb (length xs) 5) (eqb (length xs) (5 + (k + 1))) tl) [
        | inl u ↦ inl (eqb→eq (length xs) 5 u)
        | inr u ↦ inr (eqb→eq (length xs) (5 + (k + 1)) u)
      ],
      sym (done_inj found j e₄),
    )

pub held_run_length-held : (xs : List ℕ) (j : Job) → held_run_length xs ≡ done j → Held j
held_run_length-held xs j e =
    let k = get_or xs 1 0 in
    let (t, _, h, s, q) = held_run_length→ xs j e in
    let l = run_length-lawful (get_or xs 0 0) k h in
    let found = held_with (get_or xs 2 0) (get_or xs 3 0) (get_or xs 4 0) (run_length (get_or xs 0 0) k)
    (bringing 5 xs) in
    subst Held (sym q)
    (record {
      parameters = t;
      lawful = l;
      counted = bringing-counted 5 (k + 1) xs found (length-run_length (get_or xs 0 0) k) s;
    })

pub read_run_length-allowed : (xs : List ℕ) (j : Job) → read_run_length xs ≡ done j → Allowed j
unfolding read_run_length
read_run_length-allowed xs j e = fitted-allowed (held_run_length xs) j e (held_run_length-held xs)

pub read_listed-is : (xs : List ℕ) (j : Job) → read_listed xs ≡ done j → read_run_length xs ≡ done j
unfolding read_listed
read_listed-is xs j e = (unless→ Length (eqb (length xs) 5) (read_run_length xs) j e).1

pub read_joined-allowed : (xs : List ℕ) (j : Job) → read_joined xs ≡ done j → Allowed j
read_joined-allowed xs j e =
    let (c, d, s, few, q) = joins-exact xs j e in
    let (lc, ld) = joins-lawful xs c d s in
    subst Allowed (sym q)
    (allowed_of (job_with xs (joined c d))
    (record { parameters = s.parameters; lawful = joined-lawful c d lc ld few; counted = tt }) tt)

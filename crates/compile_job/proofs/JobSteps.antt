-- A job read check by check: what reading comes to at each return of the code, and what holds of what is read.
-- In order: in-range, sized-fits; unless-yes; missing-count, bad-count, bad-size, bad-states, good-constraint;
-- lawful-kept; run-length-size, run-length-parameters, run-length-range, run-length-count, run-length-good; job-ready,
-- ready-kept.
-- Assumes nothing.
use Rattle.std.proofs.Common.{Result, Ok, Err, IfOk, ◌≡◌, ◌&&◌, ◌∷◌, ◌+◌, ◌*◌, ◌≤◌, ◌||◌, ◌/◌}
use Rattle.laws.proofs.All.{refl, sym, ap, ap₂, subst, ◌∙◌, Bool, true, false, List, map, ℕ, zero}
use Rattle.laws.proofs.All.{suc, arith, T, leb, eqb, leb→le, leb-true, eqb-true, length, get_or, drop}
use Rattle.laws.proofs.All.{get_or-drop, drop-drop, all, from, range, and→, or→, inl, inr, eqb→eq}
use Rattle.answer.specs.declared.Refusal.{Refusal}
use Rattle.answer.specs.declared.Refusal.TheVariants.{Parameters, States, Length}
use Rattle.answer.specs.Outcomes.{Outcome, done, refused, unless}
use Rattle.answer.proofs.Outcomes.{unless-false}
use Rattle.constraint.specs.Walking.{NextStates, run_length, Lawful}
use Rattle.constraint.specs.declared.Constraint.{Constraint}
use Rattle.constraint.specs.Value.{constraint_of}
use Rattle.constraint.proofs.Values.{length-constraint_of}
use Rattle.table.specs.Formed.{good_next}
use Rattle.table.proofs.ReadyTables.{all_map}
use Rattle.compile_job.specs.declared.JobValue.{JobValue}
use Rattle.compile_job.specs.Jobs.{Job, good_parameters, bringing, held_with, states_of, constraint_from}
use Rattle.compile_job.specs.Jobs.{held_run_length}
use Rattle.compile_job.specs.Jobs.{Allowed}
use Rattle.compile_job.specs.JobValues.{job_in, JobReady, job_outcome, state_at, good_state_at, sized}
use Rattle.compile_job.specs.JobValues.{constraint_outcome}
use Rattle.compile_job.proofs.Constraints.{checked, from-checked, constraint_from-lawful}

pub in-range : (low x high : ℕ) → (leb low x && leb x high) ≡ true → (low ≤ x) × (x ≤ high)
in-range low x high e =
    let (a, b) = and→ (leb low x) (leb x high) (subst T (sym e) tt) in
    (leb→le low x a, leb→le x high b)

pub sized-fits : (whole weights : Bool) (m n : ℕ) → sized whole weights m n ≡ true → m ≤ n
sized-fits true true m n e = elim (or→ (eqb m n) (eqb (m + m / 2) n) (subst T (sym e) tt)) [
  | inl u ↦ omega (arith, eqb→eq m n u)
  | inr u ↦ omega (arith, eqb→eq (m + m / 2) n u)
]
sized-fits true false m n e = omega (arith, eqb-true m n e)
sized-fits false weights m n e = leb-true m n e

-- ---- one check
pub unless-yes : {A : Type 0} (r : Refusal) (b : Bool) (x : Outcome A) → b ≡ true → unless r b x ≡ x
unless-yes r b x e = ap (λ c. unless r c x) e

-- ---- the states in a constraint's bytes
states-from : (K i : ℕ) (ys : List ℕ) → states_of K (drop (1 + i * 2) ys) ≡ map (state_at ys) (from i K)
states-from zero i ys = refl
states-from (suc K) i ys =
    let one : 1 + i * 2 + 1 ≡ 2 + i * 2 = omega arith in
    let zero' : 1 + i * 2 + 0 ≡ 1 + i * 2 = omega arith in
    let more : 1 + i * 2 + 2 ≡ 1 + suc i * 2 = omega arith in
    let ys' = drop (1 + i * 2) ys in
    let state : ◌≡◌ {A = NextStates} (record { zero = get_or ys' 0 0; one = get_or ys' 1 0 }) (state_at ys i) =
    ap₂ {C = NextStates} (λ z o. record { zero = z; one = o })
    (get_or-drop (1 + i * 2) ys 0 0 ∙ ap (λ k. get_or ys k 0) zero')
    (get_or-drop (1 + i * 2) ys 1 0 ∙ ap (λ k. get_or ys k 0) one) in
    ap₂ ◌∷◌ state (ap (states_of K) (drop-drop 2 (1 + i * 2) ys ∙ ap (λ k. drop k ys) more) ∙ states-from K (suc i) ys)

states_of-is : (K : ℕ) (ys : List ℕ) → states_of K (drop 1 ys) ≡ map (state_at ys) (range K)
states_of-is K ys = states-from K 0 ys

states-test : (K : ℕ) (ys : List ℕ) → all (good_next K) (states_of K (drop 1 ys)) ≡ all (good_state_at ys K) (range K)
states-test K ys = ap (all (good_next K)) (states_of-is K ys) ∙ all_map (good_next K) (state_at ys) (range K)

-- ---- a constraint
module _ (fits : ℕ → ℕ → Bool) (ys : List ℕ) where
  pub missing-count : leb 1 (length ys) ≡ false → constraint_from fits ys ≡ refused Length
  missing-count e = from-checked fits ys ∙ unless-false Length (leb 1 (length ys)) _ e

  module _ (e₀ : leb 1 (length ys) ≡ true) where
    counted : constraint_from fits ys
        ≡ checked (fits (1 + 2 * get_or ys 0 0) (length ys)) (get_or ys 0 0) (states_of (get_or ys 0 0) (drop 1 ys))
    counted = from-checked fits ys ∙ unless-yes Length (leb 1 (length ys)) _ e₀

    pub bad-count : (leb 1 (get_or ys 0 0) && leb (get_or ys 0 0) 16) ≡ false → constraint_from fits ys ≡ refused States
    bad-count e = counted ∙ unless-false States _ _ e

    module _ (e₁ : (leb 1 (get_or ys 0 0) && leb (get_or ys 0 0) 16) ≡ true) where
      pub bad-size : fits (1 + 2 * get_or ys 0 0) (length ys) ≡ false → constraint_from fits ys ≡ refused Length
      bad-size e = counted ∙ unless-yes States _ _ e₁ ∙ unless-false Length _ _ e

      module _ (e₂ : fits (1 + 2 * get_or ys 0 0) (length ys) ≡ true) where
        fitted : constraint_from fits ys
            ≡ unless States (all (good_next (get_or ys 0 0)) (states_of (get_or ys 0 0) (drop 1 ys)))
            (done (states_of (get_or ys 0 0) (drop 1 ys)))
        fitted = counted ∙ unless-yes States _ _ e₁ ∙ unless-yes Length _ _ e₂

        pub bad-states : all (good_state_at ys (get_or ys 0 0)) (range (get_or ys 0 0)) ≡ false
            → constraint_from fits ys ≡ refused States
        bad-states e = fitted ∙ unless-false States _ _ (states-test (get_or ys 0 0) ys ∙ e)

        -- THEOREM: the constraint that is read
        pub good-constraint : all (good_state_at ys (get_or ys 0 0)) (range (get_or ys 0 0)) ≡ true
            → (k : Constraint) → constraint_of k ≡ map (state_at ys) (range (get_or ys 0 0))
            → constraint_from fits ys ≡ done (constraint_of k)
        good-constraint e k s =
            fitted ∙ unless-yes States _ _ (states-test (get_or ys 0 0) ys ∙ e)
            ∙ ap done (states_of-is (get_or ys 0 0) ys ∙ sym s)

-- a constraint that is read is lawful
pub lawful-kept : (fits : ℕ → ℕ → Bool) (ys : List ℕ) (r : Result Constraint Refusal)
    → constraint_outcome r ≡ constraint_from fits ys
    → (constraint_outcome r ≡ constraint_from fits ys) × IfOk r (λ c. Lawful (constraint_of c))
lawful-kept fits ys (Ok c) e = (e, constraint_from-lawful fits ys (constraint_of c) (sym e))
lawful-kept fits ys (Err r) e = (e, tt)

-- ---- a run-length job
module _ (xs : List ℕ) where
  pub run-length-size : leb 5 (length xs) ≡ false → held_run_length xs ≡ refused Length
  unfolding held_run_length
  run-length-size e = unless-false Length _ _ e

  module _ (e₀ : leb 5 (length xs) ≡ true) where
    five : held_run_length xs ≡ unless Parameters (good_parameters (get_or xs 2 0) (get_or xs 3 0) (get_or xs 4 0))
        (unless States (leb (get_or xs 0 0) (get_or xs 1 0) && leb (get_or xs 1 0) 15)
        (unless Length (eqb (length xs) 5 || eqb (length xs) (5 + (get_or xs 1 0 + 1)))
        (done (held_with (get_or xs 2 0) (get_or xs 3 0) (get_or xs 4 0) (run_length (get_or xs 0 0) (get_or xs 1 0))
        (bringing 5 xs)))))
    unfolding held_run_length
    five = unless-yes Length _ _ e₀

    pub run-length-parameters : good_parameters (get_or xs 2 0) (get_or xs 3 0) (get_or xs 4 0) ≡ false
        → held_run_length xs ≡ refused Parameters
    run-length-parameters e = five ∙ unless-false Parameters _ _ e

    module _ (e₁ : good_parameters (get_or xs 2 0) (get_or xs 3 0) (get_or xs 4 0) ≡ true) where
      pub run-length-range : (leb (get_or xs 0 0) (get_or xs 1 0) && leb (get_or xs 1 0) 15) ≡ false
          → held_run_length xs ≡ refused States
      run-length-range e = five ∙ unless-yes Parameters _ _ e₁ ∙ unless-false States _ _ e

      module _ (e₂ : (leb (get_or xs 0 0) (get_or xs 1 0) && leb (get_or xs 1 0) 15) ≡ true) where
        pub run-length-count : (eqb (length xs) 5 || eqb (length xs) (5 + (get_or xs 1 0 + 1))) ≡ false
            → held_run_length xs ≡ refused Length
        run-length-count e =
            five ∙ unless-yes Parameters _ _ e₁ ∙ unless-yes States _ _ e₂ ∙ unless-false Length _ _ e

        -- THEOREM: the run-length job that is read
        pub run-length-good : (eqb (length xs) 5 || eqb (length xs) (5 + (get_or xs 1 0 + 1))) ≡ true
            → (j : JobValue) (c : Constraint) → constraint_of c ≡ run_length (get_or xs 0 0) (get_or xs 1 0)
            → job_in j ≡ held_with (get_or xs 2 0) (get_or xs 3 0) (get_or xs 4 0) (constraint_of c) (bringing 5 xs)
            → held_run_length xs ≡ done (job_in j)
        run-length-good e j c s q =
            five ∙ unless-yes Parameters _ _ e₁ ∙ unless-yes States _ _ e₂ ∙ unless-yes Length _ _ e
            ∙ ap (λ c. done (held_with (get_or xs 2 0) (get_or xs 3 0) (get_or xs 4 0) c (bringing 5 xs))) (sym s)
            ∙ ap done (sym q)

-- ---- a job that is read
-- it is ready to be compiled, where those that are read are allowed
pub job-ready : (j : JobValue) → Allowed (job_in j) → JobReady j
job-ready j a =
    let l : length (job_in j).constraint ≡ j.constraint.states = length-constraint_of j.constraint in
    record { allowed = a; limits = rw l at a.k₂ }

pub ready-kept : (r : Result JobValue Refusal) (o : Outcome Job) → job_outcome r ≡ o
    → ((j : Job) → o ≡ done j → Allowed j) → (job_outcome r ≡ o) × IfOk r (λ j. JobReady j)
ready-kept (Ok j) o e f = (e, job-ready j (f (job_in j) (sym e)))
ready-kept (Err r) o e f = (e, tt)

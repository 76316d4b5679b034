-- A job with two constraints: which ones its bytes hold, and when there are too many pairs.
-- In order: joins-lawful; joins-exact, joined-job; too-many-read; first-within, where the second constraint starts;
-- first-on, second-on, a joined job read piece by piece.
-- Assumes nothing.
use Rattle.std.proofs.Common.{◌≡◌, ◌↔◌, ◌+◌, ◌*◌, ◌-◌, ◌≤◌, ◌<◌}
use Rattle.laws.proofs.All.{refl, sym, ap, ◌∙◌, inl, inr, Bool, true, false, List, ℕ}
use Rattle.laws.proofs.All.{arith, T, leb, eqb, leb→le, leb-false, lt-leb, length, get_or, drop, length-drop}
use Rattle.answer.specs.declared.Refusal.{Refusal}
use Rattle.answer.specs.declared.Refusal.TheVariants.{Parameters, Length, TooManyPairs}
use Rattle.answer.specs.Refusals.{number_of}
use Rattle.answer.specs.Outcomes.{Outcome, done, refused, unless, onward}
use Rattle.answer.proofs.Outcomes.{done_inj, refused-not, unless-false, unless→, onward→}
use Rattle.answer.proofs.RefusedOutcomes.{refused-inj}
use Rattle.constraint.specs.declared.Constraint.{Constraint as Stored}
use Rattle.constraint.specs.Walking.{Constraint, Lawful}
use Rattle.constraint.specs.Value.{constraint_of}
use Rattle.constraint.proofs.Values.{length-constraint_of}
use Rattle.joining.specs.Joined.{pairs, joined}
use Rattle.compile_job.specs.Jobs.{Job, good_parameters, constraint_from, fronted, job_with, joined_job}
use Rattle.compile_job.specs.Jobs.{read_joined, Joins}
use Rattle.compile_job.proofs.Constraints.{constraint-refused, constraint_from-lawful, constraint_from-fits}
use Rattle.compile_job.proofs.Fronts.{front-passed, fronted→, front-good}

-- ---- the constraints of a job that is read
module _ (xs : List ℕ) where
  pub joins-lawful : (c d : Constraint) → Joins xs c d → Lawful c × Lawful d
  joins-lawful c d s = (
    constraint_from-lawful leb (drop 3 xs) c s.first,
    constraint_from-lawful eqb (drop (4 + 2 * length c) xs) d s.second,
  )

  -- THEOREM: it has the two constraints of its bytes, joined
  pub joins-exact : (j : Job) → read_joined xs ≡ done j → (c : Constraint) × (d : Constraint) × Joins xs c d
      × (length (pairs c d) ≤ 16) × (j ≡ job_with xs (joined c d))
  unfolding read_joined
  joins-exact j e =
      let (l, t, e₁) = fronted→ xs _ j e in
      let (c, p, e₂) = onward→ (constraint_from leb (drop 3 xs)) _ j e₁ in
      let (d, q, e₃) = onward→ (constraint_from eqb (drop (4 + 2 * length c) xs)) (joined_job xs c) j e₂ in
      let (f, e₄) = unless→ TooManyPairs (leb (length (pairs c d)) 16) _ j e₃ in (
        c,
        d,
        record { long = l; parameters = t; first = p; second = q },
        leb→le (length (pairs c d)) 16 f,
        sym (done_inj (job_with xs (joined c d)) j e₄),
      )

  pub joined-job : (j : Job) → read_joined xs ≡ done j → (c : Constraint) × (d : Constraint) × Joins xs c d
      × Lawful c × Lawful d × (length (pairs c d) ≤ 16) × (j.constraint ≡ joined c d)
      × (j.p ≡ get_or xs 0 0) × (j.q ≡ get_or xs 1 0) × (j.cap ≡ get_or xs 2 0)
  joined-job j e =
      let (c, d, s, few, q) = joins-exact j e in
      let (lc, ld) = joins-lawful c d s in
      (c, d, s, lc, ld, few, ap (λ j. j.constraint) q, ap (λ j. j.p) q, ap (λ j. j.q) q, ap (λ j. j.cap) q)

-- ---- 14
-- a refusal that comes after a check, or after a result
behind : {A : Type 0} (r s : Refusal) (b : Bool) (o : Outcome A) → (number_of r ≡ number_of s → ⊥)
    → unless r b o ≡ refused s → T b × (o ≡ refused s)
behind r s true o h e = (tt, e)
behind r s false o h e = absurd (h (ap number_of (refused-inj r s e)))

on-behind : {A B : Type 0} (o : Outcome A) (f : A → Outcome B) (s : Refusal) → (o ≡ refused s → ⊥)
    → onward o f ≡ refused s → (x : A) × (o ≡ done x) × (f x ≡ refused s)
on-behind (done x) f s h e = (x, refl, e)
on-behind (refused r) f s h e = absurd (h (ap refused (refused-inj r s e)))

-- one that a check does give
failed : {A : Type 0} (r : Refusal) (b : Bool) (a : A) → unless r b (done a) ≡ refused r → b ≡ false
failed r true a e = absurd (refused-not r a (sym e))
failed r false a e = refl

-- reading one constraint does not give 14
never : (fits : ℕ → ℕ → Bool) (ys : List ℕ) → constraint_from fits ys ≡ refused TooManyPairs → ⊥
never fits ys e = elim (constraint-refused fits ys TooManyPairs e) [ inl h ↦ omega arith | inr h ↦ omega arith ]

-- THEOREM: reading is refused with 14 exactly when both constraints pass and there are more than 16 pairs
pub too-many-read : (xs : List ℕ) → (read_joined xs ≡ refused TooManyPairs)
    ↔ ((c : Constraint) × (d : Constraint) × Joins xs c d × (16 < length (pairs c d)))
unfolding read_joined
too-many-read xs = (there, back)
  where
    second : Constraint → Outcome Job
    second c = onward (constraint_from eqb (drop (4 + 2 * length c) xs)) (joined_job xs c)

    there : fronted xs (onward (constraint_from leb (drop 3 xs)) second) ≡ refused TooManyPairs
        → (c : Constraint) × (d : Constraint) × Joins xs c d × (16 < length (pairs c d))
    there e =
        let (l, e₁) = behind Length TooManyPairs (leb 4 (length xs)) _ (λ q. omega arith) e in
        let (t, e₂) = behind Parameters TooManyPairs
        (good_parameters (get_or xs 0 0) (get_or xs 1 0) (get_or xs 2 0)) _ (λ q. omega arith) e₁ in
        let (c, p, e₃) = on-behind (constraint_from leb (drop 3 xs)) second TooManyPairs (never leb (drop 3 xs)) e₂ in
        let ys = drop (4 + 2 * length c) xs in
        let (d, q, e₄) = on-behind (constraint_from eqb ys) (joined_job xs c) TooManyPairs (never eqb ys) e₃ in (
          c,
          d,
          record { long = leb→le 4 (length xs) l; parameters = t; first = p; second = q },
          leb-false (length (pairs c d)) 16
              (failed TooManyPairs (leb (length (pairs c d)) 16) (job_with xs (joined c d)) e₄),
        )

    back : ((c : Constraint) × (d : Constraint) × Joins xs c d × (16 < length (pairs c d)))
        → fronted xs (onward (constraint_from leb (drop 3 xs)) second) ≡ refused TooManyPairs
    back (c, d, s, h) =
        front-passed xs (onward (constraint_from leb (drop 3 xs)) second) s.long s.parameters
        ∙ ap (λ o. onward o second) s.first ∙ ap (λ o. onward o (joined_job xs c)) s.second
        ∙ unless-false TooManyPairs (leb (length (pairs c d)) 16) _ (lt-leb (length (pairs c d)) 16 h)

-- ---- where the second constraint starts: after as many states as the first has, within the bytes
pub first-within : (xs : List ℕ) → 4 ≤ length xs → (k : Stored)
    → done (constraint_of k) ≡ constraint_from leb (drop 3 xs) → (k.states ≤ 16) × (4 + 2 * k.states ≤ length xs)
first-within xs h k e =
    let c = constraint_of k in
    let l : length c ≡ k.states = length-constraint_of k in
    let f = (constraint_from-lawful leb (drop 3 xs) c (sym e)).few in
    let t = leb→le (1 + 2 * length c) (length (drop 3 xs)) (constraint_from-fits leb (drop 3 xs) c (sym e)) in
    let n : length (drop 3 xs) ≡ length xs - 3 = length-drop 3 xs in
    (omega arith, omega arith)

-- ---- a joined job, read piece by piece: what the front comes to, then each constraint
module _ (xs : List ℕ) (e : done xs ≡ fronted xs (done xs)) where
  pub first-on : (o : Outcome Constraint) → o ≡ constraint_from leb (drop 3 xs)
      → onward o (λ c. onward (constraint_from eqb (drop (4 + 2 * length c) xs)) (joined_job xs c)) ≡ read_joined xs
  unfolding read_joined
  first-on o p =
      ap (λ o. onward o (λ c. onward (constraint_from eqb (drop (4 + 2 * length c) xs)) (joined_job xs c))) p
      ∙ sym (front-good xs _ e)

  pub second-on : (k : Stored) → done (constraint_of k) ≡ constraint_from leb (drop 3 xs) → (o : Outcome Constraint)
      → o ≡ constraint_from eqb (drop (4 + 2 * k.states) xs) → onward o (joined_job xs (constraint_of k)) ≡ read_joined xs
  second-on k q o p =
      ap (λ o. onward o (joined_job xs (constraint_of k)))
      (p ∙ ap (λ n. constraint_from eqb (drop (4 + 2 * n) xs)) (sym (length-constraint_of k)))
      ∙ first-on (done (constraint_of k)) q

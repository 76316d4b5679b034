-- What a job that is read has from its bytes: its numbers, every next state of its constraint, and its weights.
-- In order: states-after, states-at, run_at, run_on, run_end, run_short, run-back, where a bit leads; fitted-is,
-- bytes-bring; job_is, job_read; run-length-read; from-states, read-after, one constraint at an offset;
-- joined-read.
-- Assumes nothing.
use Rattle.std.proofs.Common.{◌≡◌, ◌⊎◌, ◌&&◌, ◌||◌, ◌+◌, ◌*◌, ◌≤◌, ◌<◌}
use Rattle.laws.proofs.All.{refl, sym, ap, subst, ◌∙◌, inl, inr, Bool, List, ℕ, zero, suc}
use Rattle.laws.proofs.All.{arith, leb, eqb, leb→le, eqb→eq, lt-ltb, le-ltb, lt-leb, le-leb, length}
use Rattle.laws.proofs.All.{get_or, drop, get_or-drop, drop-drop, add-zero, all, and→, or→, map-range-at}
use Rattle.answer.specs.declared.Refusal.TheVariants.{Parameters, States, Length, BadWeights}
use Rattle.answer.specs.Outcomes.{Outcome, done, onward}
use Rattle.answer.proofs.Outcomes.{done_inj, unless→, onward→}
use Rattle.constraint.specs.Walking.{Constraint, run_length_state, run_length, nowhere, after}
use Rattle.constraint.proofs.Walking.{length-run_length}
use Rattle.table.specs.Formed.{good_next}
use Rattle.compile_job.specs.Jobs.{computed, brought, Job, good_parameters, bringing, fit, fitted, states_of}
use Rattle.compile_job.specs.Jobs.{held_job, read_job, held_run_length, read_run_length, constraint_from, held_with}
use Rattle.compile_job.specs.Jobs.{Joins}
use Rattle.compile_job.proofs.Constraints.{length-states_of, constraint_from-length}
use Rattle.compile_job.proofs.Weights.{bringing-none, bringing-some}
use Rattle.compile_job.proofs.Jobs.{held_run_length→}

-- ---- where a bit leads
-- in states that are read from the front of bytes
states-after : (K : ℕ) (ys : List ℕ) (s b : ℕ) → s < K → b < 2 → after (states_of K ys) s b ≡ get_or ys (2 * s + b) 0
states-after zero ys s b h l = absurd (omega arith)
states-after (suc K) ys zero zero h l = refl
states-after (suc K) ys zero (suc zero) h l = refl
states-after (suc K) ys zero (suc (suc b)) h l = absurd (omega arith)
states-after (suc K) ys (suc s) b h l =
    let e : 2 + (2 * s + b) ≡ 2 * suc s + b = omega arith in
    states-after K (drop 2 ys) s b (omega arith) l ∙ get_or-drop 2 ys (2 * s + b) 0 ∙ ap (λ i. get_or ys i 0) e

-- and from an offset on
states-at : (K o : ℕ) (xs : List ℕ) (s b : ℕ) → s < K → b < 2
    → after (states_of K (drop o xs)) s b ≡ get_or xs (o + 2 * s + b) 0
states-at K o xs s b h l =
    let e : o + (2 * s + b) ≡ o + 2 * s + b = omega arith in
    states-after K (drop o xs) s b h l ∙ get_or-drop o xs (2 * s + b) 0 ∙ ap (λ i. get_or xs i 0) e

-- in a run-length constraint
module _ (d k : ℕ) where
  run_at : (i : ℕ) → i ≤ k → get_or (run_length d k) i nowhere ≡ run_length_state d k i
  run_at i h = map-range-at (run_length_state d k) (k + 1) i nowhere (omega arith)

  run_on : (i : ℕ) → i < k → after (run_length d k) i 0 ≡ i + 1
  run_on i h = ap (λ r. r.zero) (run_at i (omega arith)) ∙ rw (lt-ltb i k h)

  run_end : after (run_length d k) k 0 ≡ 255
  run_end = ap (λ r. r.zero) (run_at k (omega arith)) ∙ rw (le-ltb k k (omega arith))

  run_short : (i : ℕ) → i < d → d ≤ k → after (run_length d k) i 1 ≡ 255
  run_short i h l = ap (λ r. r.one) (run_at i (omega arith)) ∙ rw (lt-leb d i h)

  run-back : (i : ℕ) → d ≤ i → i ≤ k → after (run_length d k) i 1 ≡ 0
  run-back i h l = ap (λ r. r.one) (run_at i l) ∙ rw (le-leb d i h)

-- ---- the weights that come with a job
-- checking them changes nothing
fitted-is : (o : Outcome Job) (j : Job) → onward o fitted ≡ done j → o ≡ done j
fitted-is o j e =
    let (i, p, q) = onward→ o fitted j e in p ∙ (unless→ BadWeights (fit i i.choice) (done i) j q).1

-- none where there are `size` bytes, otherwise those after them
bytes-bring : (size long : ℕ) (xs : List ℕ) → size < long → (length xs ≡ size) ⊎ (length xs ≡ long)
    → ((length xs ≡ size) × (bringing size xs ≡ computed))
    ⊎ ((length xs ≡ long) × (bringing size xs ≡ brought (drop size xs)))
bytes-bring size long xs h (inl e) = inl (e, bringing-none size xs e)
bytes-bring size long xs h (inr e) = inr (e, bringing-some size xs (λ k. omega arith))

-- ---- a job
job_is : (xs : List ℕ) (j : Job) → read_job xs ≡ done j → let K = get_or xs 3 0 in (1 ≤ K)
    × ((length xs ≡ 4 + 2 * K) ⊎ (length xs ≡ 4 + 3 * K))
    × (j ≡ held_with (get_or xs 0 0) (get_or xs 1 0) (get_or xs 2 0) (states_of K (drop 4 xs))
    (bringing (4 + 2 * K) xs))
unfolding read_job held_job
job_is xs j e =
    let K = get_or xs 3 0 in
    let c = states_of K (drop 4 xs) in
    let (_, e₁) = unless→ Length (leb 4 (length xs)) _ j (fitted-is (held_job xs) j e) in
    let (_, e₂) = unless→ Parameters (good_parameters (get_or xs 0 0) (get_or xs 1 0) (get_or xs 2 0)) _ j e₁ in
    let (tk, e₃) = unless→ States (leb 1 K && leb K 16) _ j e₂ in
    let (tl, e₄) = unless→ Length (eqb (length xs) (4 + 2 * K) || eqb (length xs) (4 + 3 * K)) _ j e₃ in
    let (_, e₅) = unless→ States (all (good_next K) c) _ j e₄ in (
      leb→le 1 K (and→ (leb 1 K) (leb K 16) tk).0,
      elim (or→ (eqb (length xs) (4 + 2 * K)) (eqb (length xs) (4 + 3 * K)) tl) [
        | inl u ↦ inl (eqb→eq (length xs) (4 + 2 * K) u)
        | inr u ↦ inr (eqb→eq (length xs) (4 + 3 * K) u)
      ],
      sym (done_inj _ j e₅),
    )

-- THEOREM: p, q, cap and K are its first four bytes, its next states the bytes after them, and then come its weights
pub job_read : (xs : List ℕ) (j : Job) → read_job xs ≡ done j → let K = get_or xs 3 0 in (j.p ≡ get_or xs 0 0)
    × (j.q ≡ get_or xs 1 0) × (j.cap ≡ get_or xs 2 0) × (length j.constraint ≡ K)
    × ((s b : ℕ) → s < K → b < 2 → after j.constraint s b ≡ get_or xs (4 + 2 * s + b) 0)
    × (((length xs ≡ 4 + 2 * K) × (j.choice ≡ computed))
    ⊎ ((length xs ≡ 4 + 3 * K) × (j.choice ≡ brought (drop (4 + 2 * K) xs))))
job_read xs j e =
    let K = get_or xs 3 0 in
    let (h, s, q) = job_is xs j e in (
      ap (λ j. j.p) q,
      ap (λ j. j.q) q,
      ap (λ j. j.cap) q,
      ap (λ j. length j.constraint) q ∙ length-states_of K (drop 4 xs),
      λ s b h l. ap (λ j. after j.constraint s b) q ∙ states-at K 4 xs s b h l,
      subst (λ ch. ((length xs ≡ 4 + 2 * K) × (ch ≡ computed))
          ⊎ ((length xs ≡ 4 + 3 * K) × (ch ≡ brought (drop (4 + 2 * K) xs)))) (sym (ap (λ j. j.choice) q))
          (bytes-bring (4 + 2 * K) (4 + 3 * K) xs (omega arith) s),
    )

-- ---- a run-length job
-- THEOREM: p, q and cap are its bytes 2 to 4, from state i bit 0 leads to i + 1 below k and bit 1 to 0 from d on, and
-- then come its weights
pub run-length-read : (xs : List ℕ) (j : Job) → read_run_length xs ≡ done j → let d = get_or xs 0 0 in
    let k = get_or xs 1 0 in let c = j.constraint in (j.p ≡ get_or xs 2 0) × (j.q ≡ get_or xs 3 0)
    × (j.cap ≡ get_or xs 4 0) × (length c ≡ k + 1)
    × ((i : ℕ) → i < k → after c i 0 ≡ i + 1) × (after c k 0 ≡ 255)
    × ((i : ℕ) → i < d → after c i 1 ≡ 255) × ((i : ℕ) → d ≤ i → i ≤ k → after c i 1 ≡ 0)
    × (((length xs ≡ 5) × (j.choice ≡ computed))
    ⊎ ((length xs ≡ 5 + (k + 1)) × (j.choice ≡ brought (drop 5 xs))))
unfolding read_run_length
run-length-read xs j e =
    let d = get_or xs 0 0 in
    let k = get_or xs 1 0 in
    let (_, h, _, s, q) = held_run_length→ xs j (fitted-is (held_run_length xs) j e) in (
      ap (λ j. j.p) q,
      ap (λ j. j.q) q,
      ap (λ j. j.cap) q,
      ap (λ j. length j.constraint) q ∙ length-run_length d k,
      λ i l. ap (λ j. after j.constraint i 0) q ∙ run_on d k i l,
      ap (λ j. after j.constraint k 0) q ∙ run_end d k,
      λ i l. ap (λ j. after j.constraint i 1) q ∙ run_short d k i l h,
      λ i l m. ap (λ j. after j.constraint i 1) q ∙ run-back d k i l m,
      subst (λ ch. ((length xs ≡ 5) × (ch ≡ computed))
          ⊎ ((length xs ≡ 5 + (k + 1)) × (ch ≡ brought (drop 5 xs)))) (sym (ap (λ j. j.choice) q))
          (bytes-bring 5 (5 + (k + 1)) xs (omega arith) s),
    )

-- ---- two constraints
from-states : (fits : ℕ → ℕ → Bool) (ys : List ℕ) (c : Constraint) → constraint_from fits ys ≡ done c
    → c ≡ states_of (get_or ys 0 0) (drop 1 ys)
unfolding constraint_from
from-states fits ys c e =
    let K = get_or ys 0 0 in
    let (_, e₁) = unless→ Length (leb 1 (length ys)) _ c e in
    let (_, e₂) = unless→ States (leb 1 K && leb K 16) _ c e₁ in
    let (_, e₃) = unless→ Length (fits (1 + 2 * K) (length ys)) _ c e₂ in
    let (_, e₄) = unless→ States (all (good_next K) (states_of K (drop 1 ys))) _ c e₃ in
    sym (done_inj (states_of K (drop 1 ys)) c e₄)

-- a constraint whose K stands at an offset and its next states after it
read-after : (fits : ℕ → ℕ → Bool) (xs : List ℕ) (at to : ℕ) → at + 1 ≡ to → (c : Constraint)
    → constraint_from fits (drop at xs) ≡ done c → (length c ≡ get_or xs at 0)
    × ((s b : ℕ) → s < get_or xs at 0 → b < 2 → after c s b ≡ get_or xs (to + 2 * s + b) 0)
read-after fits xs at to t c e =
    let k : get_or (drop at xs) 0 0 ≡ get_or xs at 0 = get_or-drop at xs 0 0 ∙ ap (λ i. get_or xs i 0) (add-zero at) in
    let q : c ≡ states_of (get_or xs at 0) (drop to xs) =
    from-states fits (drop at xs) c e ∙ ap (λ K. states_of K (drop 1 (drop at xs))) k
    ∙ ap (states_of (get_or xs at 0)) (drop-drop 1 at xs ∙ ap (λ i. drop i xs) t) in (
      constraint_from-length fits (drop at xs) c e ∙ k,
      λ s b h l. ap (λ c. after c s b) q ∙ states-at (get_or xs at 0) to xs s b h l,
    )

-- THEOREM: K is byte 3 with its next states behind it, and then comes the second constraint
pub joined-read : (xs : List ℕ) (c d : Constraint) → Joins xs c d → let K = get_or xs 3 0 in
    let L = get_or xs (4 + 2 * K) 0 in (length c ≡ K)
    × ((s b : ℕ) → s < K → b < 2 → after c s b ≡ get_or xs (4 + 2 * s + b) 0)
    × (length d ≡ L) × ((s b : ℕ) → s < L → b < 2 → after d s b ≡ get_or xs (5 + 2 * K + 2 * s + b) 0)
joined-read xs c d s =
    let K = get_or xs 3 0 in
    let (l, f) = read-after leb xs 3 4 refl c s.first in
    let to : 4 + 2 * K + 1 ≡ 5 + 2 * K = omega arith in
    let e : constraint_from eqb (drop (4 + 2 * K) xs) ≡ done d =
    subst (λ n. constraint_from eqb (drop (4 + 2 * n) xs) ≡ done d) l s.second in
    let (m, g) = read-after eqb xs (4 + 2 * K) (5 + 2 * K) to d e in
    (l, f, m, g)

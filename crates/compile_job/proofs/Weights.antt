-- Weights after a job's bytes, and when a job whose weights are still to be checked has its fields in range.
-- In order: bringing-none, bringing-some, sized-more; held-bounds, held-few; fitted-bad, fitted-good.
-- Assumes nothing.
use Rattle.std.proofs.Common.{◌≡◌, ◌&&◌, ◌+◌, ◌≤◌, if◌then◌else◌}
use Rattle.laws.proofs.All.{ap, inl, inr, true, false, List, ℕ, arith, leb, leb→le}
use Rattle.laws.proofs.All.{eq-eqb, ne_eqb, length, drop, and→}
use Rattle.answer.specs.declared.Refusal.TheVariants.{BadWeights}
use Rattle.answer.specs.Outcomes.{done, refused}
use Rattle.answer.proofs.Outcomes.{unless-false, unless-true}
use Rattle.constraint.proofs.Values.{length-constraint_of}
use Rattle.compile_job.specs.declared.JobValue.{JobValue}
use Rattle.compile_job.specs.Jobs.{computed, brought, Job, bringing, fit, fitted}
use Rattle.compile_job.specs.JobValues.{job_in, Held, Sized}

module _ (size : ℕ) (xs : List ℕ) where
  pub bringing-none : length xs ≡ size → bringing size xs ≡ computed
  bringing-none e = ap (λ b. if b then computed else brought (drop size xs)) (eq-eqb (length xs) size e)

  pub bringing-some : (length xs ≡ size → ⊥) → bringing size xs ≡ brought (drop size xs)
  bringing-some e = ap (λ b. if b then computed else brought (drop size xs)) (ne_eqb (length xs) size e)

pub sized-more : (size states count : ℕ) → Sized size states count → (count ≡ size → ⊥) → size + states ≡ count
sized-more size states count (inl e) h = absurd (h e)
sized-more size states count (inr e) h = omega arith

pub held-bounds : (j : Job) → Held j → (j.p ≤ 4) × (j.q ≤ 8) × (j.cap ≤ 16)
held-bounds j h =
    let (tp, u) = and→ (leb 1 j.p && leb j.p 4) ((leb 1 j.q && leb j.q 8)
    && (leb 1 j.cap && leb j.cap 16)) h.parameters in
    let (tq, tc) = and→ (leb 1 j.q && leb j.q 8) (leb 1 j.cap && leb j.cap 16) u in (
      leb→le j.p 4 (and→ (leb 1 j.p) (leb j.p 4) tp).1,
      leb→le j.q 8 (and→ (leb 1 j.q) (leb j.q 8) tq).1,
      leb→le j.cap 16 (and→ (leb 1 j.cap) (leb j.cap 16) tc).1,
    )

pub held-few : (j : JobValue) → Held (job_in j) → j.constraint.states ≤ 16
held-few j h = let l = length-constraint_of j.constraint in let f = h.lawful.few in omega arith

-- ---- the check of the weights
pub fitted-bad : (j : Job) → fit j j.choice ≡ false → fitted j ≡ refused BadWeights
fitted-bad j e = unless-false BadWeights (fit j j.choice) (done j) e

pub fitted-good : (j : Job) → fit j j.choice ≡ true → fitted j ≡ done j
fitted-good j e = unless-true BadWeights (fit j j.choice) (done j) (rw e tt)

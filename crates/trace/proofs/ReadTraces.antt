-- The trace of bytes by what their reading comes to.
-- In order: traced_job-read, traced_job-refused; traced_run_length-read, traced_run_length-refused.
-- Assumes nothing.
use Rattle.std.proofs.Common.{◌≡◌, if◌then◌else◌}
use Rattle.laws.proofs.All.{sym, ap, ◌∙◌, Bool, true, false, List, ℕ, T→true}
use Rattle.answer.specs.declared.Refusal.{Refusal}
use Rattle.answer.specs.declared.Refusal.TheVariants.{BadWeights}
use Rattle.answer.specs.Outcomes.{Outcome, done, refused, unless, onward}
use Rattle.answer.proofs.Outcomes.{done_inj, refused-not, unless→, onward→}
use Rattle.compile_job.specs.Jobs.{Job, fit, fitted, held_job, read_job, held_run_length, read_run_length}
use Rattle.view_refusals.specs.Phrases.{refusal_line}
use Rattle.trace.specs.Traced.{traced, failing, tracing, traced_job, traced_run_length}
use Rattle.trace.proofs.FailedJobs.{passed-text}

-- a job that is read
read : (o : Outcome Job) (j : Job) → onward o fitted ≡ done j → tracing o ≡ traced j
read o j e =
    let (i, p, q) = onward→ o fitted j e in
    let (t, s) = unless→ BadWeights (fit i i.choice) (done i) j q in
    ap tracing p ∙ sym (passed-text i (T→true (fit i i.choice) t)) ∙ ap traced (done_inj i j s)

-- a refusal other than 17
other : (o : Outcome Job) (r : Refusal) → (r ≡ BadWeights → ⊥) → onward o fitted ≡ refused r → tracing o ≡ refusal_line
    r
other (refused s) r h e = ap refusal_line (cc)
other (done j) r h e = go (fit j j.choice) e
  where
    go : (b : Bool) → unless BadWeights b (done j) ≡ refused r
        → (if b then traced j else failing j) ≡ refusal_line r
    go true q = absurd (refused-not r j (sym q))
    go false q = absurd (h (cc))

module _ (xs : List ℕ) where
  -- THEOREM: a job that is read is traced step by step
  pub traced_job-read : (j : Job) → read_job xs ≡ done j → traced_job xs ≡ traced j
  unfolding traced_job read_job
  traced_job-read j e = read (held_job xs) j e

  -- THEOREM: a refusal other than 17 is the whole trace
  pub traced_job-refused : (r : Refusal) → (r ≡ BadWeights → ⊥) → read_job xs ≡ refused r → traced_job xs ≡ refusal_line
      r
  unfolding traced_job read_job
  traced_job-refused r h e = other (held_job xs) r h e

  -- THEOREM: so it is with run-length jobs
  pub traced_run_length-read : (j : Job) → read_run_length xs ≡ done j → traced_run_length xs ≡ traced j
  unfolding traced_run_length read_run_length
  traced_run_length-read j e = read (held_run_length xs) j e

  pub traced_run_length-refused : (r : Refusal) → (r ≡ BadWeights → ⊥) → read_run_length xs ≡ refused r
      → traced_run_length xs ≡ refusal_line r
  unfolding traced_run_length read_run_length
  traced_run_length-refused r h e = other (held_run_length xs) r h e

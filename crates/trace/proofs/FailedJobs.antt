-- Jobs whose weights are checked: those that pass are ready to be compiled, and those that fail bring their weights.
-- In order: held-ready; held-words, held-graph; own, failing-weights, failing-not, failing-told; passed-text,
-- failed-text.
-- Assumes nothing.
use Rattle.std.proofs.Common.{◌≡◌, ◌^◌, if◌then◌else◌}
use Rattle.laws.proofs.All.{refl, sym, ap, ap₂, subst, ◌∙◌, Bool, true, false, List, ℕ, T, take}
use Rattle.answer.specs.declared.Refusal.TheVariants.{BadWeights}
use Rattle.answer.specs.Outcomes.{done}
use Rattle.text.specs.Texts.{Added}
use Rattle.text.proofs.Adding.{added-same, ◌then◌}
use Rattle.constraint.specs.Value.{constraint_of}
use Rattle.constraint.specs.PowerTable.{power_codes}
use Rattle.compile_graph.specs.Arcs.{Arc}
use Rattle.compile_graph.specs.Weights.{passing}
use Rattle.compile_weights.specs.PowerTable.{tabled, Powers}
use Rattle.compile_weights.proofs.Powers.{held-powers, held-tabled}
use Rattle.compile_job.specs.declared.JobValue.{JobValue}
use Rattle.compile_job.specs.Jobs.{computed, brought, Job, fit}
use Rattle.compile_job.specs.JobValues.{job_in, JobReady, Held}
use Rattle.compile_job.proofs.Fronts.{allowed_of}
use Rattle.compile_job.proofs.Weights.{held-bounds, held-few}
use Rattle.compile.specs.Compile.{ways, graph_of, greatest_of, used, weights_of}
use Rattle.view_refusals.specs.Phrases.{refusal_line}
use Rattle.trace_stages.specs.StageText.{weights_line}
use Rattle.trace_stages.specs.FailText.{fail_line}
use Rattle.trace.specs.Traced.{traced, failing, tracing}

pub held-ready : (j : JobValue) → Held (job_in j) → fit (job_in j) (job_in j).choice ≡ true → JobReady j
held-ready j h e = record { allowed = allowed_of (job_in j) h (subst T (sym e) tt); limits = held-few j h }

-- ---- the words that the code finds
module _ (j : JobValue) (h : Held (job_in j)) (P : List ℕ) (words : ℕ)
    (e : P ≡ power_codes (constraint_of j.constraint) j.q) (f : words ≡ 2 ^ j.q) where
  pub held-words : Powers P words j.constraint.states
  held-words =
      held-powers j.constraint j.q (held-few j h) (held-bounds (job_in j) h).1 h.lawful.well P words e f

  pub held-graph : tabled P words j.constraint.states ≡ graph_of (job_in j)
  held-graph =
      held-tabled j.constraint j.q (held-few j h) (held-bounds (job_in j) h).1 h.lawful.well P words e f

-- ---- weights that fail
-- as many weights of a value as it has states
abbrev pub own : JobValue → List ℕ
own j = take j.constraint.states j.weight

module _ (j : JobValue) (e : fit (job_in j) (job_in j).choice ≡ false) where
  failing-brings : j.brings ≡ true
  failing-brings = go j.brings refl
    where
      go : (b : Bool) → j.brings ≡ b → j.brings ≡ true
      go true q = q
      go false q =
          absurd (subst T (sym (ap (λ b. fit (job_in j) (if b then brought (own j) else computed)) q) ∙ e) tt)

  pub failing-weights : weights_of (job_in j) ≡ own j
  failing-weights =
      ap (λ b. used (greatest_of (job_in j)) (if b then brought (own j) else computed)) failing-brings

  pub failing-not : passing (ways (job_in j)) j.cap (graph_of (job_in j)) (own j) ≡ false
  failing-not = sym (ap (λ b. fit (job_in j) (if b then brought (own j) else computed)) failing-brings) ∙ e

  -- THEOREM: the lines of a job whose weights fail
  pub failing-told : (n : ℕ) (g : List Arc) → n ≡ ways (job_in j) → g ≡ graph_of (job_in j)
      → {at k m r : ℕ} {B C D E : List ℕ}
      → Added (weights_line (own j)) at B C k → Added (fail_line n j.cap g (own j)) k C D m
      → Added (refusal_line BadWeights) m D E r → Added (failing (job_in j)) at B E r
  unfolding failing
  failing-told n g q s w f x =
      added-same (ap weights_line (sym failing-weights)) w
      then added-same (ap₂ (λ n g. fail_line n j.cap g (own j)) q s
      ∙ ap (fail_line (ways (job_in j)) j.cap (graph_of (job_in j))) (sym failing-weights)) f
      then x

-- ---- what is traced
module _ (j : Job) where
  pub passed-text : fit j j.choice ≡ true → traced j ≡ tracing (done j)
  passed-text e = sym (ap (λ b. if b then traced j else failing j) e)

  pub failed-text : fit j j.choice ≡ false → failing j ≡ tracing (done j)
  failed-text e = sym (ap (λ b. if b then traced j else failing j) e)

-- The front of a job's bytes, p, q and cap: what its checks come to, and what is known where they pass.
-- In order: front-short, front-parameters, front-passed; fronted→; fronted-onward; front-bad, front-good, front_long;
-- allowed_of; fitted-allowed.
-- Assumes nothing.
use Rattle.std.proofs.Common.{◌≡◌, ◌&&◌, ◌^◌, ◌≤◌, ◌<◌}
use Rattle.laws.proofs.All.{refl, sym, ap, subst, ◌∙◌, Bool, true, false, List, ℕ, T, leb}
use Rattle.laws.proofs.All.{leb→le, le→leb}
use Rattle.laws.proofs.All.{lt-leb, length, get_or, and→}
use Rattle.answer.specs.declared.Refusal.{Refusal}
use Rattle.answer.specs.declared.Refusal.TheVariants.{Parameters, Length, BadWeights}
use Rattle.answer.specs.Outcomes.{Outcome, done, refused, unless, onward}
use Rattle.answer.proofs.Outcomes.{done_inj, unless-true, unless-false, unless→, onward→}
use Rattle.compile_graph.specs.Arcs.{power}
use Rattle.compile_graph.proofs.Weights.{passing-exact}
use Rattle.compile_job.specs.Jobs.{Choice, computed, brought, Job, good_parameters, fit, fitted, fronted, Fitting}
use Rattle.compile_job.specs.Jobs.{Allowed}
use Rattle.compile_job.specs.JobValues.{Counted, Held}

-- ---- its checks, with what follows
module _ {A : Type 0} (xs : List ℕ) (o : Outcome A) where
  pub front-short : length xs < 4 → fronted xs o ≡ refused Length
  front-short h = unless-false Length (leb 4 (length xs)) _ (lt-leb 4 (length xs) h)

  pub front-parameters : 4 ≤ length xs → good_parameters (get_or xs 0 0) (get_or xs 1 0) (get_or xs 2 0) ≡ false
      → fronted xs o ≡ refused Parameters
  front-parameters h e =
      unless-true Length (leb 4 (length xs)) _ (le→leb 4 (length xs) h) ∙ unless-false Parameters _ o e

  pub front-passed : 4 ≤ length xs → T (good_parameters (get_or xs 0 0) (get_or xs 1 0) (get_or xs 2 0)) → fronted xs o
      ≡ o
  front-passed h t =
      unless-true Length (leb 4 (length xs)) _ (le→leb 4 (length xs) h)
      ∙ unless-true Parameters (good_parameters (get_or xs 0 0) (get_or xs 1 0) (get_or xs 2 0)) o t

  pub fronted→ : (a : A) → fronted xs o ≡ done a
      → (4 ≤ length xs) × T (good_parameters (get_or xs 0 0) (get_or xs 1 0) (get_or xs 2 0)) × (o ≡ done a)
  fronted→ a e =
      let (tl, e₁) = unless→ Length (leb 4 (length xs)) _ a e in
      let (tp, e₂) = unless→ Parameters (good_parameters (get_or xs 0 0) (get_or xs 1 0) (get_or xs 2 0)) o a e₁ in
      (leb→le 4 (length xs) tl, tp, e₂)

-- they do not look at what follows
pub fronted-onward : {A B : Type 0} (xs : List ℕ) (b : B) (o : Outcome A)
    → fronted xs o ≡ onward (fronted xs (done b)) (λ _. o)
fronted-onward {A} {B} xs b o = go (leb 4 (length xs)) (good_parameters (get_or xs 0 0) (get_or xs 1 0) (get_or xs 2 0))
  where
    go : (s t : Bool) → unless Length s (unless Parameters t o)
        ≡ onward (unless Length s (unless Parameters t (done b))) (λ _. o)
    go true true = refl
    go true false = refl
    go false t = refl

-- ---- what they say of the whole
module _ (xs : List ℕ) where
  pub front-bad : {A : Type 0} (o : Outcome A) (r : Refusal) → refused r ≡ fronted xs (done xs)
      → fronted xs o ≡ refused r
  front-bad o r e = fronted-onward xs xs o ∙ ap (λ u. onward u (λ _. o)) (sym e)

  pub front-good : {A : Type 0} (o : Outcome A) → done xs ≡ fronted xs (done xs) → fronted xs o ≡ o
  front-good o e = fronted-onward xs xs o ∙ ap (λ u. onward u (λ _. o)) (sym e)

  pub front_long : done xs ≡ fronted xs (done xs) → 4 ≤ length xs
  front_long e = (fronted→ xs (done xs) xs (sym e)).0

-- ---- parameters in range, a lawful constraint, and weights that pass where there are any
fitting : (j : Job) (ch : Choice) → Counted j ch → T (fit j ch) → Fitting j ch
fitting j computed c t = tt
fitting j (brought u) c t =
    (c, (passing-exact (2 ^ j.p) j.cap (power j.constraint j.q) u).0 t)

pub allowed_of : (j : Job) → Held j → T (fit j j.choice) → Allowed j
allowed_of j h f =
    let p = j.p in
    let q = j.q in
    let cap = j.cap in
    let t = h.parameters in
    let l = h.lawful in
    let (tp, u) = and→ (leb 1 p && leb p 4) ((leb 1 q && leb q 8) && (leb 1 cap && leb cap 16)) t in
    let (tq, tc) = and→ (leb 1 q && leb q 8) (leb 1 cap && leb cap 16) u in
    let (p₁, p₂) = and→ (leb 1 p) (leb p 4) tp in
    let (q₁, q₂) = and→ (leb 1 q) (leb q 8) tq in
    let (c₁, c₂) = and→ (leb 1 cap) (leb cap 16) tc in
    record {
      p₁ = leb→le 1 p p₁;
      p₂ = leb→le p 4 p₂;
      q₁ = leb→le 1 q q₁;
      q₂ = leb→le q 8 q₂;
      cap₁ = leb→le 1 cap c₁;
      cap₂ = leb→le cap 16 c₂;
      k₁ = l.some;
      k₂ = l.few;
      well = l.well;
      fit = fitting j j.choice h.counted f;
    }

-- THEOREM: a job whose weights are checked is allowed
pub fitted-allowed : (o : Outcome Job) (j : Job) → onward o fitted ≡ done j → ((j : Job) → o ≡ done j → Held j)
    → Allowed j
fitted-allowed o j e held =
    let (i, p, q) = onward→ o fitted j e in
    let (t, s) = unless→ BadWeights (fit i i.choice) (done i) j q in
    subst Allowed (done_inj i j s) (allowed_of i (held i p) t)

-- A constraint that is read from a row of bytes is lawful: it has 1 to 16 states, and their next states are states or
-- none.
-- In order: checked, from-checked, the checks after K's; constraint-refused; states-well; length-states_of;
-- constraint_from-lawful, constraint_from-length, constraint_from-fits.
-- Assumes nothing.
use Rattle.std.proofs.Common.{◌≡◌, ◌⊎◌, ◌&&◌, ◌+◌, ◌*◌, ◌≤◌}
use Rattle.laws.proofs.All.{refl, sym, ap, subst, ◌∙◌, inl, inr, Bool, List, ℕ, zero, suc}
use Rattle.laws.proofs.All.{T, ltb, leb, eqb, ltb→lt, leb→le, eqb→eq, length, get_or, drop, all, and→, or→}
use Rattle.laws.proofs.All.{each_map}
use Rattle.laws.proofs.All.{all-each}
use Rattle.answer.specs.declared.Refusal.TheVariants.{States, Length}
use Rattle.answer.specs.Outcomes.{Outcome, done, unless}
use Rattle.answer.specs.Refusals.{number_of}
use Rattle.answer.proofs.Outcomes.{done_inj, unless→}
use Rattle.answer.proofs.RefusedOutcomes.{Refuses, refuses-done, refuses-unless}
use Rattle.constraint.specs.Walking.{NextStates, Constraint, none, Target, Well, Lawful}
use Rattle.table.specs.Formed.{good_state, good_next}
use Rattle.compile_job.specs.Jobs.{states_of, constraint_from}

-- ---- the checks after K's: "K by 2, 8, next states by 2"
abbrev pub checked : Bool → ℕ → Constraint → Outcome Constraint
checked fit K c =
    unless States (leb 1 K && leb K 16) (unless Length fit (unless States (all (good_next K) c) (done c)))

pub from-checked : (fits : ℕ → ℕ → Bool) (ys : List ℕ) → constraint_from fits ys
    ≡ unless Length (leb 1 (length ys))
    (checked (fits (1 + 2 * get_or ys 0 0) (length ys)) (get_or ys 0 0) (states_of (get_or ys 0 0) (drop 1 ys)))
unfolding constraint_from
from-checked fits ys = refl

-- a constraint is refused with 2 or 8 only
pub constraint-refused : (fits : ℕ → ℕ → Bool) (ys : List ℕ)
    → Refuses (λ r. (number_of r ≡ 2) ⊎ (number_of r ≡ 8)) (constraint_from fits ys)
unfolding constraint_from
constraint-refused fits ys =
    let K = get_or ys 0 0 in
    let unless-few = refuses-unless (λ r. (number_of r ≡ 2) ⊎ (number_of r ≡ 8)) in
    unless-few Length (leb 1 (length ys)) _ (inr refl)
    (unless-few States (leb 1 K && leb K 16) _ (inl refl)
    (unless-few Length (fits (1 + 2 * K) (length ys)) _ (inr refl)
    (unless-few States (all (good_next K) (states_of K (drop 1 ys))) _ (inl refl) (refuses-done _ _))))

-- ---- what the tests say
target : (K s : ℕ) → T (good_state K s) → Target K s
target K s t = elim (or→ (eqb s none) (ltb s K) t) [ inl a ↦ inr (eqb→eq s none a) | inr b ↦ inl (ltb→lt s K b) ]

states-well : (K : ℕ) (c : Constraint) → length c ≡ K → T (all (good_next K) c) → Well c
states-well K c l t =
    each_map (λ r. T (good_next K r)) (λ r. Target (length c) r.zero × Target (length c) r.one) both c
    (all-each (good_next K) c t)
  where
    both : (r : NextStates) → T (good_next K r) → Target (length c) r.zero × Target (length c) r.one
    both r u =
        let (a, b) = and→ (good_state K r.zero) (good_state K r.one) u in
        rw l (target K r.zero a, target K r.one b)

pub length-states_of : (K : ℕ) (xs : List ℕ) → length (states_of K xs) ≡ K
length-states_of zero xs = refl
length-states_of (suc K) xs = ap suc (length-states_of K (drop 2 xs))

checked-lawful : (fit : Bool) (K : ℕ) (c d : Constraint) → length c ≡ K → checked fit K c ≡ done d
    → Lawful d × (length d ≡ K) × T fit
checked-lawful fit K c d l e =
    let (tk, e₁) = unless→ States (leb 1 K && leb K 16) _ d e in
    let (tf, e₂) = unless→ Length fit _ d e₁ in
    let (ts, e₃) = unless→ States (all (good_next K) c) _ d e₂ in
    let (k₁, k₂) = and→ (leb 1 K) (leb K 16) tk in
    let n₁ : 1 ≤ K = leb→le 1 K k₁ in
    let n₂ : K ≤ 16 = leb→le K 16 k₂ in
    let lawful : Lawful c = record { some = rw l n₁; few = rw l n₂; well = states-well K c l ts } in
    subst (λ c. Lawful c × (length c ≡ K) × T fit) (done_inj c d e₃) (lawful, l, tf)

-- ---- a constraint that is read
module _ (fits : ℕ → ℕ → Bool) (ys : List ℕ) (c : Constraint) (e : constraint_from fits ys ≡ done c) where
  all_three : Lawful c × (length c ≡ get_or ys 0 0) × T (fits (1 + 2 * get_or ys 0 0) (length ys))
  all_three =
      let K = get_or ys 0 0 in
      let (_, e₁) = unless→ Length (leb 1 (length ys)) _ c (sym (from-checked fits ys) ∙ e) in
      checked-lawful (fits (1 + 2 * K) (length ys)) K (states_of K (drop 1 ys)) c (length-states_of K (drop 1 ys)) e₁

  -- THEOREM: it is lawful
  pub constraint_from-lawful : Lawful c
  constraint_from-lawful = all_three.0

  -- and has as many states as K says
  pub constraint_from-length : length c ≡ get_or ys 0 0
  constraint_from-length = all_three.1

  -- and the bytes that are there fit
  pub constraint_from-fits : T (fits (1 + 2 * length c) (length ys))
  constraint_from-fits = rw constraint_from-length all_three.2

-- What a set answers: the first bad record with its number, bytes left over with the count, or the count.
-- In order: step-placed, step-record; reached, the walk over good records; set-bare, set-bad, set-left, set-good;
-- Stops, Counts, why; set-order; set-count.
-- Assumes nothing.
use Rattle.std.proofs.Common.{Ok}
use Rattle.std.proofs.Common.{◌≡◌, ◌⊎◌, ◌↔◌, ◌∷◌, ◌+◌, ◌≤◌, ◌<◌, if◌then◌else◌}
use Rattle.laws.proofs.All.{refl, sym, ap, subst, ◌∙◌, inl, inr, Bool, true, false, List, [], ℕ}
use Rattle.laws.proofs.All.{zero, suc, arith, dec_lt, leb, length, get_or, take, drop}
use Rattle.answer.specs.declared.Refusal.{Refusal}
use Rattle.answer.specs.declared.Refusal.TheVariants.{Length}
use Rattle.answer.specs.Outcomes.{Outcome, done, refused}
use Rattle.table.specs.Rows.{Code}
use Rattle.record_check.specs.Parse.{parse}
use Rattle.set_places.specs.Offsets.{found, length_at, end_at, place_at, offset_of}
use Rattle.set_places.proofs.Offsets.{record-at}
use Rattle.set_check.specs.Sets.{read_set}
use Rattle.set_check.specs.Results.{bad, SetAnswer, set_answer, step_of, step_at}
use Rattle.set_check.specs.Outcomes.{outcome_in, record_of, GoodTo}
use Rattle.set_check.proofs.Walks.{Walking, set-empty, walking_start, walking-stop, walking_on, walking-left}
use Rattle.set_check.proofs.Walks.{walking-end}
use Rattle.std.proofs.Common.{Err, None}

-- ---- a step of the walk is what its record comes to
step-placed : (s : List ℕ) (at : ℕ) → step_at s at ≡ step_of (end_at s at) (outcome_in s (place_at s at))
unfolding step_at
step-placed s at = go (leb (end_at s at) (length s))
  where
    go : (b : Bool)
        → (if b then step_of (end_at s at) (parse (take (length_at s at) (drop (at + 2) s))) else Err Length)
        ≡ step_of (end_at s at) (outcome_in s (if b then found (at + 2) (length_at s at) else None))
    go true = refl
    go false = refl

step-record : (s : List ℕ) (i : ℕ) (o : Outcome Code) → i < get_or s 0 0 → record_of s i ≡ o
    → step_at s (offset_of s i) ≡ step_of (offset_of s (suc i)) o
step-record s i o h e =
    step-placed s (offset_of s i)
    ∙ ap (step_of (end_at s (offset_of s i))) (ap (outcome_in s) (sym (record-at s i h)) ∙ e)

module _ (s : List ℕ) where
  one_less : (i : ℕ) → GoodTo s (suc i) → GoodTo s i
  one_less i g k h = g k (omega arith)

  -- ---- the walk over records that are good
  reached : 0 < length s → (i : ℕ) → i ≤ get_or s 0 0 → GoodTo s i
      → Walking s (get_or s 0 0) i (offset_of s i) × (offset_of s i ≤ length s)
  reached h zero l g = (walking_start s h, omega arith)
  reached h (suc i) l g =
      let (w, _) = reached h i (omega arith) (one_less i g) in
      let (c, e) = g i (omega arith) in
      let b : i < get_or s 0 0 = omega arith in
      let (k, v) = walking_on s (get_or s 0 0) i (offset_of s i) (offset_of s (suc i)) b w
      (step-record s i (done c) b e) in
      let one : i + 1 ≡ suc i = omega arith in
      (subst (λ j. Walking s (get_or s 0 0) j (offset_of s (suc i))) one v, k)

  -- ---- the four cases
  set-bare : length s ≡ 0 → set_answer (read_set s) ≡ Err (bad 0 Length)
  set-bare e = sym (set-empty s e)

  some_bytes : (i : ℕ) → i < get_or s 0 0 → 0 < length s
  some_bytes i h = go s h
    where
      go : (s : List ℕ) → i < get_or s 0 0 → 0 < length s
      go [] h = absurd (omega arith)
      go (x ∷ xs) h = omega arith

  set-bad : (i : ℕ) (r : Refusal) → i < get_or s 0 0 → GoodTo s i → record_of s i ≡ refused r
      → set_answer (read_set s) ≡ Err (bad i r)
  set-bad i r h g e =
      let (w, _) = reached (some_bytes i h) i (omega arith) g in
      sym (walking-stop s (get_or s 0 0) i (offset_of s i) r h w (step-record s i (refused r) h e))

  set-left : 0 < length s → GoodTo s (get_or s 0 0) → offset_of s (get_or s 0 0) < length s
      → set_answer (read_set s) ≡ Err (bad (get_or s 0 0) Length)
  set-left h g l =
      let c = get_or s 0 0 in
      let (w, _) = reached h c (omega arith) g in
      sym (walking-left s c c (offset_of s c) (omega arith) (omega arith) w l)

  set-good : 0 < length s → GoodTo s (get_or s 0 0) → length s ≤ offset_of s (get_or s 0 0)
      → set_answer (read_set s) ≡ Ok (get_or s 0 0)
  set-good h g l =
      let c = get_or s 0 0 in
      let (w, _) = reached h c (omega arith) g in
      sym (walking-end s c c (offset_of s c) (omega arith) (omega arith) w l)

  -- ---- there is no other
  -- why a set is answered so
  abbrev Stops : ℕ → Refusal → Type 0
  Stops i r =
      ((length s ≡ 0) × (i ≡ 0) × (r ≡ Length))
      ⊎ (((i < get_or s 0 0) × GoodTo s i × (record_of s i ≡ refused r))
      ⊎ ((0 < length s) × (i ≡ get_or s 0 0) × GoodTo s i × (offset_of s i < length s) × (r ≡ Length)))

  abbrev Counts : ℕ → Type 0
  Counts c = (0 < length s) × (c ≡ get_or s 0 0) × GoodTo s c × (offset_of s c ≡ length s)

  abbrev Why : SetAnswer → Type 0
  Why (Ok c) = Counts c
  Why (Err b) = Stops b.number b.refusal

  more-good : (i : ℕ) (c : Code) → GoodTo s i → record_of s i ≡ done c → GoodTo s (suc i)
  more-good i c g e k h = elim (dec_lt k i) [
    | yes l ↦ g k l
    | no l ↦ let q : i ≡ k = omega arith in subst (λ j. (c : Code) × (record_of s j ≡ done c)) q (c, e)
  ]

  why-end : 0 < length s → GoodTo s (get_or s 0 0) → Why (set_answer (read_set s))
  why-end h g = elim (dec_lt (offset_of s (get_or s 0 0)) (length s)) [
    | yes l ↦ subst Why (sym (set-left h g l)) (inr (inr (h, refl, g, l, refl)))
    | no l ↦
        let (_, k) = reached h (get_or s 0 0) (omega arith) g in
        let e : offset_of s (get_or s 0 0) ≡ length s = omega arith in
        subst Why (sym (set-good h g (omega arith))) (h, refl, g, e)
  ]

  why-from : 0 < length s → (k i : ℕ) → i + k ≡ get_or s 0 0 → GoodTo s i → Why (set_answer (read_set s))
  why-from h zero i e g = why-end h (subst (GoodTo s) (omega arith) g)
  why-from h (suc k) i e g = go (record_of s i) refl (λ g'. why-from h k (suc i) (omega arith) g')
    where
      go : (o : Outcome Code) → record_of s i ≡ o → (GoodTo s (suc i) → Why (set_answer (read_set s)))
          → Why (set_answer (read_set s))
      go (done c) q f = f (more-good i c g q)
      go (refused r) q f =
          let l : i < get_or s 0 0 = omega arith in subst Why (sym (set-bad i r l g q)) (inr (inl (l, g, q)))

  why : Why (set_answer (read_set s))
  why = elim (dec_lt 0 (length s)) [
    | yes h ↦ why-from h (get_or s 0 0) 0 (omega arith) (λ k l. absurd (omega arith))
    | no h ↦
        let z : length s ≡ 0 = omega arith in subst Why (sym (set-bare z)) (inl (z, refl, refl))
  ]

  -- THEOREM: when a set is answered with the number i and the refusal r
  pub set-order : (i : ℕ) (r : Refusal) → (set_answer (read_set s) ≡ Err (bad i r)) ↔ Stops i r
  set-order i r = (
    (λ e. subst Why e why),
    (λ x. elim x [
      | inl (z, p, q) ↦ set-bare z ∙ ap (λ j. Err (bad j Length)) (sym p) ∙ ap (λ s. Err (bad i s)) (sym q)
      | inr (inl (l, g, e)) ↦ set-bad i r l g e
      | inr (inr (h, p, g, l, q)) ↦
          set-left h (subst (GoodTo s) p g) (subst (λ j. offset_of s j < length s) p l)
          ∙ ap (λ j. Err (bad j Length)) (sym p) ∙ ap (λ s. Err (bad i s)) (sym q)
    ]),
  )

  -- THEOREM: when it is answered with a count
  pub set-count : (c : ℕ) → (set_answer (read_set s) ≡ Ok c) ↔ Counts c
  set-count c = (
    (λ e. subst Why e why),
    (λ (h, p, g, l).
        let l' : offset_of s (get_or s 0 0) ≡ length s = subst (λ j. offset_of s j ≡ length s) p l in
        set-good h (subst (GoodTo s) p g) (omega arith) ∙ ap Ok (sym p)),
  )

-- The walk of a set, step by step as the code goes.
-- In order: after; walk-cut, walk-whole, a record at an offset; check-bad, check-good, the checker's answer; step_cut,
-- step-whole, step-stop, step-on, a step; Walking, set-empty, walking_start, walking-stop, walking_on, walking-left,
-- walking-end, the loop.
-- Assumes nothing.
use Rattle.std.proofs.Common.{◌≡◌, ◌∷◌, ◌+◌, ◌-◌, ◌*◌, ◌≤◌, ◌<◌, if◌then◌else◌}
use Rattle.laws.proofs.All.{refl, sym, ap, ap₂, subst, ◌∙◌, Bool, true, false, List, [], ℕ, suc}
use Rattle.laws.proofs.All.{zero-add, add-zero, arith, lt-ltb, le-ltb, le-leb, lt-leb, leb-true}
use Rattle.laws.proofs.All.{leb-false, leb, length, get_or, take, drop, length-drop, drop_of_length-le, get_or-drop}
use Rattle.laws.proofs.All.{drop-drop, drop-cons, never}
use Rattle.answer.specs.declared.Refusal.{Refusal}
use Rattle.answer.specs.declared.Refusal.TheVariants.{Length}
use Rattle.answer.specs.Outcomes.{Outcome, done, refused, onward, answer_of}
use Rattle.table.specs.Rows.{Code}
use Rattle.record_check.specs.Parse.{parse, checked_only}
use Rattle.set_places.specs.Offsets.{found, length_at, end_at, place_at}
use Rattle.set_places.proofs.Offsets.{place→}
use Rattle.set_check.specs.Sets.{Walk, codes, stopped, also, next, walked, read_set}
use Rattle.set_check.specs.Results.{bad, SetAnswer, set_answer, step_of, step_at}
use Rattle.std.proofs.Common.{Result, Ok, Err}

-- the answer of a set whose first k records are good, by the walk of the others
abbrev pub after : ℕ → Walk → SetAnswer
after k (codes cs) = Ok (k + length cs)
after k (stopped i r) = Err (bad i r)

after_none : (w : Walk) → set_answer w ≡ after 0 w
after_none (codes cs) = ap Ok (sym (zero-add (length cs)))
after_none (stopped i r) = refl

after-also : (k : ℕ) (c : Code) (w : Walk) → after k (also c w) ≡ after (suc k) w
after-also k c (codes cs) = ap Ok (omega arith)
after-also k c (stopped i r) = refl

-- ---- a record in front of a list
cut-front : (n i : ℕ) (xs : List ℕ) → length xs < end_at xs 0 → walked (suc n) i xs ≡ stopped i Length
cut-front n i [] h = refl
cut-front n i (x ∷ []) h = refl
cut-front n i (x ∷ y ∷ ys) h =
    let l = x * 256 + y in
    ap (λ b. if b then stopped i Length else next i (parse (take l ys)) (walked n (suc i) (drop l ys)))
    (lt-ltb (length ys) l (omega arith))

whole-front : (n i : ℕ) (xs : List ℕ) → end_at xs 0 ≤ length xs
    → walked (suc n) i xs
    ≡ next i (parse (take (length_at xs 0) (drop 2 xs))) (walked n (suc i) (drop (length_at xs 0) (drop 2 xs)))
whole-front n i [] h = absurd (omega arith)
whole-front n i (x ∷ []) h = absurd (omega arith)
whole-front n i (x ∷ y ∷ ys) h =
    let l = x * 256 + y in
    ap (λ b. if b then stopped i Length else next i (parse (take l ys)) (walked n (suc i) (drop l ys)))
    (le-ltb (length ys) l (omega arith))

-- ---- a record at an offset
length-at : (s : List ℕ) (at : ℕ) → length_at (drop at s) 0 ≡ length_at s at
length-at s at =
    ap₂ (λ a b. a * 256 + b) (get_or-drop at s 0 0 ∙ ap (λ k. get_or s k 0) (add-zero at)) (get_or-drop at s 1 0)

-- a record that is cut off ends the walk
pub walk-cut : (n i : ℕ) (s : List ℕ) (at : ℕ) → length s < end_at s at
    → walked (suc n) i (drop at s) ≡ stopped i Length
walk-cut n i s at h =
    cut-front n i (drop at s) (omega (arith, length-drop at s, length-at s at))

-- a record that is all there is read, and the walk goes on after it
pub walk-whole : (n i : ℕ) (s : List ℕ) (at : ℕ) → end_at s at ≤ length s
    → walked (suc n) i (drop at s)
    ≡ next i (parse (take (length_at s at) (drop (at + 2) s))) (walked n (suc i) (drop (end_at s at) s))
walk-whole n i s at h =
    let l = length_at s at in
    whole-front n i (drop at s) (omega (arith, length-drop at s, length-at s at))
    ∙ ap₂ (λ a xs. next i (parse (take a xs)) (walked n (suc i) (drop a xs))) (length-at s at) (drop-drop 2 at s)
    ∙ ap (λ xs. next i (parse (take l (drop (at + 2) s))) (walked n (suc i) xs)) (drop-drop l (at + 2) s)

-- ---- the checker's answer
pub check-bad : (xs : List ℕ) (r : Refusal) → answer_of (checked_only xs) ≡ Err r → parse xs ≡ refused r
unfolding checked_only
check-bad xs r e = go (parse xs) refl e
  where
    go : (o : Outcome Code) → parse xs ≡ o → answer_of (onward o (λ c. done [])) ≡ Err r → parse xs ≡ refused r
    go (done c) p e = never (cc)
    go (refused q) p e = p ∙ ap refused (cc)

pub check-good : (xs : List ℕ) (k : ℕ) → answer_of (checked_only xs) ≡ Ok k → (c : Code) × (parse xs ≡ done c)
unfolding checked_only
check-good xs k e = go (parse xs) refl e
  where
    go : (o : Outcome Code) → parse xs ≡ o → answer_of (onward o (λ c. done [])) ≡ Ok k
        → (c : Code) × (parse xs ≡ done c)
    go (done c) p e = (c, p)
    go (refused q) p e = never (cc)

-- ---- a step
abbrev bytes_at : List ℕ → ℕ → List ℕ
bytes_at s at = take (length_at s at) (drop (at + 2) s)

pub step_cut : (s : List ℕ) (at : ℕ) → length s < end_at s at → step_at s at ≡ Err Length
unfolding step_at
step_cut s at h =
    ap (λ b. if b then step_of (end_at s at) (parse (bytes_at s at)) else Err Length)
    (lt-leb (end_at s at) (length s) h)

pub step-whole : (s : List ℕ) (at : ℕ) (o : Outcome Code) → end_at s at ≤ length s → parse (bytes_at s at) ≡ o
    → step_at s at ≡ step_of (end_at s at) o
unfolding step_at
step-whole s at o h e =
    ap (λ b. if b then step_of (end_at s at) (parse (bytes_at s at)) else Err Length)
    (le-leb (end_at s at) (length s) h) ∙ ap (step_of (end_at s at)) e

-- the step that the code makes, by the answer of the checker
part : (s : List ℕ) (at start len : ℕ) → start ≡ at + 2 → len ≡ length_at s at
    → take (start + len - start) (drop start s) ≡ bytes_at s at
part s at start len a b =
    let l : start + len - start ≡ length_at s at = omega arith in ap₂ (λ n k. take n (drop k s)) l a

pub step-stop : (s : List ℕ) (at start len : ℕ) (r : Refusal) → place_at s at ≡ found start len
    → answer_of (checked_only (take (start + len - start) (drop start s))) ≡ Err r → Err r ≡ step_at s at
step-stop s at start len r e q =
    let (a, b, h) = place→ s at start len e in
    let xs = part s at start len a b in
    sym (step-whole s at (refused r) h (check-bad (bytes_at s at) r
    (sym (ap (λ x. answer_of (checked_only x)) xs) ∙ q)))

pub step-on : (s : List ℕ) (at start len k : ℕ) → place_at s at ≡ found start len
    → answer_of (checked_only (take (start + len - start) (drop start s))) ≡ Ok k → Ok (start + len) ≡ step_at s at
step-on s at start len k e q =
    let (a, b, h) = place→ s at start len e in
    let xs = part s at start len a b in
    let (c, p) = check-good (bytes_at s at) k (sym (ap (λ x. answer_of (checked_only x)) xs) ∙ q) in
    let end : start + len ≡ end_at s at = omega arith in
    ap Ok end ∙ sym (step-whole s at (done c) h p)

-- what a step says of the walk
abbrev Said : ℕ → ℕ → List ℕ → ℕ → Result ℕ Refusal → Type 0
Said n i s at (Ok e) =
    (e ≤ length s) × (after i (walked (suc n) i (drop at s)) ≡ after (suc i) (walked n (suc i) (drop e s)))
Said n i s at (Err r) = after i (walked (suc n) i (drop at s)) ≡ Err (bad i r)

step-says : (n i : ℕ) (s : List ℕ) (at : ℕ) → Said n i s at (step_at s at)
step-says n i s at = go (leb (end_at s at) (length s)) refl (parse (bytes_at s at)) refl
  where
    go : (b : Bool) → leb (end_at s at) (length s) ≡ b → (o : Outcome Code) → parse (bytes_at s at) ≡ o
        → Said n i s at (step_at s at)
    go false p o q =
        let h = leb-false (end_at s at) (length s) p in
        subst (Said n i s at) (sym (step_cut s at h)) (ap (after i) (walk-cut n i s at h))
    go true p (done c) q =
        let h = leb-true (end_at s at) (length s) p in
        let w = walked n (suc i) (drop (end_at s at) s) in
        subst (Said n i s at) (sym (step-whole s at (done c) h q))
        (h, ap (after i) (walk-whole n i s at h ∙ ap (λ o. next i o w) q) ∙ after-also i c w)
    go true p (refused r) q =
        let h = leb-true (end_at s at) (length s) p in
        let w = walked n (suc i) (drop (end_at s at) s) in
        subst (Said n i s at) (sym (step-whole s at (refused r) h q))
        (ap (after i) (walk-whole n i s at h ∙ ap (λ o. next i o w) q))

-- ---- the walk of a set of `count` records, whose first `number` records are good and end at an offset
abbrev pub Walking : List ℕ → ℕ → ℕ → ℕ → Type 0
Walking s count number at = set_answer (read_set s) ≡ after number (walked (count - number) number (drop at s))

-- no bytes at all
pub set-empty : (s : List ℕ) → length s ≡ 0 → Err (bad 0 Length) ≡ set_answer (read_set s)
unfolding read_set
set-empty [] h = refl
set-empty (n ∷ xs) h = absurd (omega arith)

pub walking_start : (s : List ℕ) → 0 < length s → Walking s (get_or s 0 0) 0 1
unfolding read_set
walking_start [] h = absurd (omega arith)
walking_start (n ∷ xs) h =
    let e : n ≡ n - 0 = omega arith in after_none (walked n 0 xs) ∙ ap (λ k. after 0 (walked k 0 xs)) e

said : (s : List ℕ) (count number at : ℕ) (t : Result ℕ Refusal) → number < count → Walking s count number at → step_at s at ≡ t
    → (set_answer (read_set s) ≡ after number (walked (suc (count - (number + 1))) number (drop at s)))
    × Said (count - (number + 1)) number s at t
said s count number at t h w e =
    let left : count - number ≡ suc (count - (number + 1)) = omega arith in (
      w ∙ ap (λ n. after number (walked n number (drop at s))) left,
      subst (Said (count - (number + 1)) number s at) e (step-says (count - (number + 1)) number s at),
    )

-- a bad record ends the walk
pub walking-stop : (s : List ℕ) (count number at : ℕ) (r : Refusal) → number < count → Walking s count number at
    → step_at s at ≡ Err r → Err (bad number r) ≡ set_answer (read_set s)
walking-stop s count number at r h w e =
    let (a, b) = said s count number at (Err r) h w e in sym (a ∙ b)

-- a good record is passed
pub walking_on : (s : List ℕ) (count number at e : ℕ) → number < count → Walking s count number at
    → step_at s at ≡ Ok e → (e ≤ length s) × Walking s count (number + 1) e
walking_on s count number at e h w q =
    let (a, (l, b)) = said s count number at (Ok e) h w q in
    let one : suc number ≡ number + 1 = omega arith in
    (l, a ∙ b ∙ ap (λ i. after i (walked (count - (number + 1)) i (drop e s))) one)

none_left : (s : List ℕ) (count number at : ℕ) → number ≤ count → count ≤ number → Walking s count number at
    → set_answer (read_set s) ≡ after count (walked 0 count (drop at s))
none_left s count number at h g w =
    let e : number ≡ count = omega arith in
    let z : count - number ≡ 0 = omega arith in
    w ∙ ap₂ (λ n i. after i (walked n i (drop at s))) z e

-- bytes left over
pub walking-left : (s : List ℕ) (count number at : ℕ) → number ≤ count → count ≤ number → Walking s count number at
    → at < length s → Err (bad count Length) ≡ set_answer (read_set s)
walking-left s count number at h g w l =
    sym (none_left s count number at h g w ∙ ap (λ xs. after count (walked 0 count xs)) (drop-cons s at 0 l))

-- no bytes left over
pub walking-end : (s : List ℕ) (count number at : ℕ) → number ≤ count → count ≤ number → Walking s count number at
    → length s ≤ at → Ok count ≡ set_answer (read_set s)
walking-end s count number at h g w l =
    sym (none_left s count number at h g w
    ∙ ap (λ xs. after count (walked 0 count xs)) (drop_of_length-le s l) ∙ ap Ok (add-zero count))

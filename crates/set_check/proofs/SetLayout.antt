-- Where the records of a set stand, in numbers, and what each comes to.
-- In order: set-layout.
-- Assumes nothing.
use Rattle.std.proofs.Common.{◌≡◌, ◌+◌, ◌*◌, ◌≤◌, ◌<◌}
use Rattle.laws.proofs.All.{refl, ap, ◌∙◌, List, ℕ, suc, arith, length, get_or, take, drop}
use Rattle.answer.specs.declared.Refusal.TheVariants.{Length}
use Rattle.answer.specs.Outcomes.{refused}
use Rattle.record_check.specs.Parse.{parse}
use Rattle.set_places.specs.Offsets.{offset_of}
use Rattle.set_places.proofs.Offsets.{place-whole, place-cut, record-none, record-at}
use Rattle.set_check.specs.Outcomes.{outcome_in, record_of}

-- THEOREM: the first length stands at 1 and each other behind the record before; a record is read from the bytes
-- behind its length, and refused with 8 where these are cut off or the count ends before it
pub set-layout : (s : List ℕ) → (offset_of s 0 ≡ 1) × ((i : ℕ) → let o = offset_of s i in
    let len = get_or s o 0 * 256 + get_or s (o + 1) 0 in (offset_of s (i + 1) ≡ o + 2 + len)
    × (i < get_or s 0 0 → o + 2 + len ≤ length s → record_of s i ≡ parse (take len (drop (o + 2) s)))
    × (i < get_or s 0 0 → length s < o + 2 + len → record_of s i ≡ refused Length)
    × (get_or s 0 0 ≤ i → record_of s i ≡ refused Length))
set-layout s = (
  refl,
  (λ i.
      let one : i + 1 ≡ suc i = omega arith in (
        ap (offset_of s) one,
        (λ h l. ap (outcome_in s) (record-at s i h ∙ place-whole s (offset_of s i) l)),
        (λ h l. ap (outcome_in s) (record-at s i h ∙ place-cut s (offset_of s i) l)),
        (λ h. ap (outcome_in s) (record-none s i h)),
      )),
)

-- Every outcome of a record's bytes has its reason, in the order of the checks, and no refusal but 7 to 10 comes.
-- In order: reason; among, record-refused.
-- Assumes nothing.
use Rattle.std.proofs.Common.{◌≡◌, ◌≤◌}
use Rattle.laws.proofs.All.{refl, sym, subst, Bool, true, false, List, ℕ, T, leb, eqb, length, leb-true}
use Rattle.laws.proofs.All.{leb-false, eqb-true, eqb-false, arith}
use Rattle.answer.specs.declared.Refusal.{Refusal}
use Rattle.answer.specs.declared.Refusal.TheVariants.{Field, Length, Disobeys, WindowFails}
use Rattle.answer.specs.Refusals.{number_of}
use Rattle.answer.specs.Outcomes.{done, unless, onward}
use Rattle.answer.proofs.RefusedOutcomes.{Refuses, refuses-done, refuses-unless, refuses-onward}
use Rattle.bits.specs.Fields.{bits_of}
use Rattle.window.specs.Works.{works}
use Rattle.record_obeys.specs.Obeys.{obeys}
use Rattle.record.specs.Layout.{header_bytes, size}
use Rattle.record.specs.Parse.{good_head}
use Rattle.record.specs.Checks.{rest_good, fields_checked}
use Rattle.record_check.specs.Parse.{judged, parse}
use Rattle.record_check.specs.Reasons.{header_of, code_from, Sized, Reason, short, headless, misfit, unranged}
use Rattle.record_check.specs.Reasons.{disobedient, windowless, accepted}

yes-so : (b : Bool) → b ≡ true → T b
yes-so b e = subst T (sym e) tt

pub reason : (xs : List ℕ) → Reason xs (parse xs)
unfolding parse fields_checked
reason xs =
    go (leb header_bytes (length xs)) refl (good_head (header_of xs)) refl (eqb (length xs) (size (header_of xs))) refl
    (rest_good (header_of xs) (bits_of xs)) refl
  where
    n : ℕ
    n = length xs

    sized : leb header_bytes n ≡ true → good_head (header_of xs) ≡ true → eqb n (size (header_of xs)) ≡ true → Sized xs
    sized a b c = record {
      long = leb-true header_bytes n a;
      headed = yes-so (good_head (header_of xs)) b;
      exact = eqb-true n (size (header_of xs)) c;
    }

    good : Sized xs → rest_good (header_of xs) (bits_of xs) ≡ true → (e : Bool) → obeys (code_from xs) ≡ e
        → (f : Bool) → works (code_from xs).table (code_from xs).window ≡ f
        → Reason xs (unless Disobeys e (unless WindowFails f (done (code_from xs))))
    good s pd false pe f pf = disobedient s (yes-so (rest_good (header_of xs) (bits_of xs)) pd) pe
    good s pd true pe false pf =
        windowless s (yes-so (rest_good (header_of xs) (bits_of xs)) pd) (yes-so (obeys (code_from xs)) pe) pf
    good s pd true pe true pf =
        accepted s (yes-so (rest_good (header_of xs) (bits_of xs)) pd) (yes-so (obeys (code_from xs)) pe)
        (yes-so (works (code_from xs).table (code_from xs).window) pf)

    go : (a : Bool) → leb header_bytes n ≡ a → (b : Bool) → good_head (header_of xs) ≡ b
        → (c : Bool) → eqb n (size (header_of xs)) ≡ c → (d : Bool) → rest_good (header_of xs) (bits_of xs) ≡ d
        → Reason xs (onward (unless Length a (unless Field b (unless Length c (unless Field d (done (code_from xs))))))
        judged)
    go false pa b pb c pc d pd = short (leb-false header_bytes n pa)
    go true pa false pb c pc d pd = headless (leb-true header_bytes n pa) pb
    go true pa true pb false pc d pd =
        misfit (leb-true header_bytes n pa) (yes-so (good_head (header_of xs)) pb)
        (eqb-false n (size (header_of xs)) pc)
    go true pa true pb true pc false pd = unranged (sized pa pb pc) pd
    go true pa true pb true pc true pd =
        good (sized pa pb pc) pd (obeys (code_from xs)) refl (works (code_from xs).table (code_from xs).window) refl

-- a record is refused with 7, 8, 9 or 10
abbrev among : Refusal → Type 0
among r = (7 ≤ number_of r) × (number_of r ≤ 10)

pub record-refused : (xs : List ℕ) → Refuses (λ r. (7 ≤ number_of r) × (number_of r ≤ 10)) (parse xs)
unfolding parse fields_checked
record-refused xs =
    refuses-onward among (fields_checked xs) judged
    (refuses-unless among Length (leb header_bytes (length xs)) _ (omega arith, omega arith)
    (refuses-unless among Field (good_head (header_of xs)) _ (omega arith, omega arith)
    (refuses-unless among Length (eqb (length xs) (size (header_of xs))) _ (omega arith, omega arith)
    (refuses-unless among Field (rest_good (header_of xs) (bits_of xs)) _ (omega arith, omega arith)
    (refuses-done among _)))))
    (λ c. refuses-unless among Disobeys (obeys c) _ (omega arith, omega arith)
    (refuses-unless among WindowFails (works c.table c.window) _ (omega arith, omega arith)
    (refuses-done among c)))

-- Why a record's bytes come to an outcome: each refusal with the check that fails and those before it that pass.
-- In order: header_of, code_from; Sized, a header in range and the length that it says; Reason.
-- Assumes nothing.
use Rattle.std.specs.Prelude.{◌≡◌, ◌≢◌, false, List, ℕ, ◌≤◌, ◌<◌, T, length}
use Rattle.answer.specs.declared.Refusal.TheVariants.{Field, Length, Disobeys, WindowFails}
use Rattle.answer.specs.Outcomes.{Outcome, done, refused}
use Rattle.bits.specs.Fields.{read, bits_of}
use Rattle.table.specs.Rows.{Code}
use Rattle.window.specs.Works.{works}
use Rattle.record_obeys.specs.Obeys.{obeys}
use Rattle.table.specs.declared.Head.{Head}
use Rattle.record.specs.Layout.{header, header_bytes, head_of, size}
use Rattle.record.specs.Parse.{good_head}
use Rattle.record.specs.Checks.{code_at, rest_good}

-- the numbers at the start of the bytes
abbrev pub header_of : List ℕ → Head
header_of xs = head_of (read header (bits_of xs))

-- the code that the bytes' fields name
abbrev pub code_from : List ℕ → Code
code_from xs = code_at (header_of xs) (bits_of xs)

-- the bytes have a header in range and the length that it says
pub record Sized (xs : List ℕ) : Type 0 where
  pub long : header_bytes ≤ length xs
  pub headed : T (good_head (header_of xs))
  pub exact : length xs ≡ size (header_of xs)

-- "the first check is 8 below five", then "header by 7, 8, the rest by 7, 9, 10"
pub data Reason (xs : List ℕ) : Outcome Code → Type 0 where
  short : length xs < header_bytes → Reason xs (refused Length)
  headless : header_bytes ≤ length xs → good_head (header_of xs) ≡ false → Reason xs (refused Field)
  misfit : header_bytes ≤ length xs → T (good_head (header_of xs)) → length xs ≢ size (header_of xs)
      → Reason xs (refused Length)
  unranged : Sized xs → rest_good (header_of xs) (bits_of xs) ≡ false → Reason xs (refused Field)
  disobedient : Sized xs → T (rest_good (header_of xs) (bits_of xs)) → obeys (code_from xs) ≡ false
      → Reason xs (refused Disobeys)
  windowless : Sized xs → T (rest_good (header_of xs) (bits_of xs)) → T (obeys (code_from xs))
      → works (code_from xs).table (code_from xs).window ≡ false → Reason xs (refused WindowFails)
  accepted : Sized xs → T (rest_good (header_of xs) (bits_of xs)) → T (obeys (code_from xs))
      → T (works (code_from xs).table (code_from xs).window) → Reason xs (done (code_from xs))

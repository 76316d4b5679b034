-- A record's fields read and checked, before the two checks of the table: "8 below five", "header by 7, 8, the rest by
-- 7"; and what values of the code's structs stand for.
-- In order: code_at, rest_good, fields_good, fields_checked; outcome_in; pack_with.
-- Assumes nothing.
use Rattle.std.specs.Prelude.{Bool, List, ℕ, Result, leb, eqb, length}
use Rattle.answer.specs.declared.Refusal.{Refusal}
use Rattle.answer.specs.declared.Refusal.TheVariants.{Field, Length}
use Rattle.answer.specs.Outcomes.{Outcome, done, unless, outcome_of}
use Rattle.bits.specs.Fields.{read, bits_of}
use Rattle.table.specs.Rows.{Code}
use Rattle.table.specs.declared.Head.{Head}
use Rattle.table.specs.declared.Table.{Table}
use Rattle.table.specs.Value.{code_in, ready}
use Rattle.record.specs.Layout.{header, header_bytes, head_of, size, widths, code_of}
use Rattle.record.specs.Parse.{good_head, good_rest, pack_into}

-- the code that the bits bs hold under the header h
abbrev pub code_at : Head → List ℕ → Code
code_at h bs = code_of h (read (widths h) bs)

-- the fields after the header h are in range
abbrev pub rest_good : Head → List ℕ → Bool
rest_good h bs = good_rest h (read (widths h) bs) (code_at h bs)

-- l bytes with the header h and the bits bs: "header by 7, 8, the rest by 7"
abbrev pub fields_good : ℕ → Head → List ℕ → Outcome Code
fields_good l h bs =
    let vs = read (widths h) bs in let c = code_of h vs in
    unless Field (good_head h) (unless Length (eqb l (size h)) (unless Field (good_rest h vs c) (done c)))

-- the code that the bytes' fields name, or the refusal: "the first check is 8 below five"
unfoldable pub fields_checked : List ℕ → Outcome Code
fields_checked xs =
    unless Length (leb header_bytes (length xs))
    (let bs = bits_of xs in fields_good (length xs) (head_of (read header bs)) bs)

-- what an answer with a table comes to
abbrev pub outcome_in : Result Table Refusal → Outcome Code
outcome_in r = outcome_of code_in r

-- the record of a table by value in lent bytes, with 7 for a value of the struct whose fields are not in range
unfoldable pub pack_with : Table → ℕ → Outcome (List ℕ)
pack_with t room = unless Field (ready t) (pack_into (code_in t) room)

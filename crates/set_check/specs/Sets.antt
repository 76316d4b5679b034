-- "A set is one count byte, 0 to 255, then each record behind a two-byte length, most significant first."
-- In order: Walk; also, next, walked, read_set; framed, write_set; Readable, codes whose records are good.
-- Assumes nothing.
use Rattle.std.specs.Prelude.{if◌then◌else◌, ◌≡◌, List, [], ◌∷◌, map, ℕ, zero, suc, ◌+◌, ◌*◌, ◌/◌, ◌%◌, ltb, length}
use Rattle.std.specs.Prelude.{take, drop}
use Rattle.laws.specs.Lists.{concat}
use Rattle.answer.specs.declared.Refusal.{Refusal}
use Rattle.answer.specs.declared.Refusal.TheVariants.{Length}
use Rattle.answer.specs.Outcomes.{Outcome, done, refused}
use Rattle.table.specs.Rows.{Code}
use Rattle.record.specs.Layout.{pack}
use Rattle.record_check.specs.Parse.{parse}

-- what a walk comes to: the codes of all records, or "the first bad one [..] with its number from 0 and its refusal"
pub data Walk : Type 0 where
  codes : List Code → Walk
  stopped : ℕ → Refusal → Walk

-- one more code in front
abbrev pub also : Code → Walk → Walk
also c (codes cs) = codes (c ∷ cs)
also c (stopped i r) = stopped i r

-- the outcome of record i, and the walk after it if that is good
abbrev pub next : ℕ → Outcome Code → Walk → Walk
next i (done c) w = also c w
next i (refused r) w = stopped i r

-- n records from number i on: "record by record, 8 if its length or bytes are cut off, else the record's own checks;
-- last 8, with the count as number, for bytes left over"
abbrev pub walked : ℕ → ℕ → List ℕ → Walk
walked zero i [] = codes []
walked zero i (x ∷ xs) = stopped i Length
walked (suc n) i [] = stopped i Length
walked (suc n) i (x ∷ []) = stopped i Length
walked (suc n) i (x ∷ y ∷ xs) =
    let l = x * 256 + y in
    let r = next i (parse (take l xs)) (walked n (suc i) (drop l xs)) in
    if ltb (length xs) l then stopped i Length else r

-- a set walked: "8 with number 0 for no bytes at all"
unfoldable pub read_set : List ℕ → Walk
read_set [] = stopped 0 Length
read_set (n ∷ xs) = walked n 0 xs

-- a record after its length
abbrev pub framed : Code → List ℕ
framed c = let b = pack c in (length b / 256) ∷ (length b % 256) ∷ b

-- the set of the records of codes
unfoldable pub write_set : List Code → List ℕ
write_set cs = length cs ∷ concat (map framed cs)

-- each code comes back from its record
abbrev pub Readable : List Code → Type 0
Readable [] = Unit {0}
Readable (c ∷ cs) = (parse (pack c) ≡ done c) × Readable cs

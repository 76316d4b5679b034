-- Where records stand in the bytes of a set: "each record behind a two-byte length, most significant first".
-- In order: length_at, end_at; found, place_at, next_at; offset_of, record_place.
-- Assumes nothing.
use Rattle.std.specs.Prelude.{if◌then◌else◌, List, ℕ, zero, suc, ◌+◌, ◌*◌, ltb, leb, length, get_or, Option, Some, None}
use Rattle.set_places.specs.declared.Place.{Place}

-- the two-byte length at an offset
abbrev pub length_at : List ℕ → ℕ → ℕ
length_at s at = get_or s at 0 * 256 + get_or s (at + 1) 0

-- the end of the record whose length stands at an offset
abbrev pub end_at : List ℕ → ℕ → ℕ
end_at s at = at + 2 + length_at s at

-- a record that stands somewhere, by its first byte and its length
abbrev pub found : ℕ → ℕ → Option Place
found start len = Some (record { start = start; len = len })

-- the record whose length stands at an offset, or none "if its length or bytes are cut off"
abbrev pub place_at : List ℕ → ℕ → Option Place
place_at s at = if leb (end_at s at) (length s) then found (at + 2) (length_at s at) else None

-- the offset after that record, or the same one where there is none
abbrev pub next_at : List ℕ → ℕ → ℕ
next_at s at = if leb (end_at s at) (length s) then end_at s at else at

-- the offset of record i's length: after the count byte for record 0, after record i − 1 for the others
abbrev pub offset_of : List ℕ → ℕ → ℕ
offset_of s zero = 1
offset_of s (suc i) = end_at s (offset_of s i)

-- where record i of a set stands, counted from 0
unfoldable pub record_place : List ℕ → ℕ → Option Place
record_place s i = if ltb i (get_or s 0 0) then place_at s (offset_of s i) else None

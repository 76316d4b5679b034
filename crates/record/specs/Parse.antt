-- The tests of a record's fields, and a record written into lent bytes.
-- In order: good_head; good_field, good_fields, good_target, filler, good_rest; pack_into.
-- Assumes nothing.
use Rattle.std.specs.Prelude.{if◌then◌else◌, Bool, true, ◌&&◌, List, ℕ, zero, suc, ◌*◌, ◌^◌, ltb, leb, eqb, get_or}
use Rattle.std.specs.Prelude.{drop}
use Rattle.laws.specs.Lists.{all}
use Rattle.answer.specs.Outcomes.{Outcome, fitting}
use Rattle.table.specs.Rows.{Edge, Code}
use Rattle.table.specs.declared.Head.{Head}
use Rattle.record.specs.Layout.{header_fields, pack}

-- what the widths of the header's fields leave open: p 1 to 4, q 1 to 8, a start that is a constraint state, and a tail
-- datum below 2^p: "A tail datum of 2^p or more is refusal 7, with the header"
abbrev pub good_head : Head → Bool
good_head h =
    (leb 1 h.p && leb h.p 4)
    && ((leb 1 h.q && leb h.q 8) && (ltb h.start h.count && ltb h.tail (2 ^ h.p)))

-- an absent state is written as 0, and a present one is a state
abbrev pub good_field : ℕ → ℕ → ℕ → Bool
good_field K b s = if eqb b 0 then eqb s 0 else ltb s K

-- the fields of n constraint states are good
abbrev pub good_fields : ℕ → ℕ → List ℕ → Bool
good_fields K zero vs = true
good_fields K (suc n) vs =
    (good_field K (get_or vs 0 0) (get_or vs 1 0) && good_field K (get_or vs 2 0) (get_or vs 3 0)) && good_fields K n
    (drop 4 vs)

-- the edge leads to one of n states
abbrev pub good_target : ℕ → Edge → Bool
good_target n e = ltb e.next n

-- the last field, the fill
abbrev pub filler : Head → List ℕ → ℕ
filler h vs = get_or (drop (h.states * (2 ^ h.p * 2)) (drop (h.count * 4) (drop header_fields vs))) 0 0

-- the fields after the header are in range, absent states are 0 and the fill is 0
abbrev pub good_rest : Head → List ℕ → Code → Bool
good_rest h vs c =
    good_fields h.count h.count (drop header_fields vs)
    && (all (all (good_target h.states)) c.table && eqb (filler h vs) 0)

-- the record of a code in lent bytes, with 13 where they are too few
unfoldable pub pack_into : Code → ℕ → Outcome (List ℕ)
pack_into c room = fitting room (pack c)

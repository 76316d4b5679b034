-- Weaving of recordings and the way back: "A scratch crosses many words in a row", and woven recordings share its words
-- among them (in the field: block interleaving of depth D).
-- In order: transposed_at, transposed, an array read by columns; woven, unwoven, the two ways; part, one recording of
-- several; good_depth, checked, the checks; weave_into, unweave_into, what weaving and unweaving come to.
-- `room` is the length of the output that was lent.
-- Assumes nothing.
use Rattle.std.specs.Prelude.{Bool, ◌&&◌, List, map, ℕ, ◌+◌, ◌*◌, ◌/◌, ◌%◌, leb, eqb, length, get_or, take, drop}
use Rattle.laws.specs.Lists.{range}
use Rattle.answer.specs.declared.Refusal.TheVariants.{Depth, ShortOutput}
use Rattle.answer.specs.Outcomes.{Outcome, done, unless, onward}

-- place i of `a` lists of `b` elements each, one after the other, read across: element i / a of list i % a
abbrev pub transposed_at : ℕ → ℕ → List ℕ → ℕ → ℕ
transposed_at a b ws i = get_or ws (i % a * b + i / a) 0

-- `a` lists of `b` elements each, one after the other, read across: the first elements of all, then the second, and so
-- on (in the field: an array of `a` rows, read by columns)
unfoldable pub transposed : ℕ → ℕ → List ℕ → List ℕ
transposed a b ws = map (transposed_at a b ws) (range (a * b))

-- D recordings "handed over one after the other: word j of recording r goes to place j × D + r"
unfoldable pub woven : ℕ → List ℕ → List ℕ
woven D ws = transposed D (length ws / D) ws

-- "the unweaving": the word at place j × D + r is word j of recording r
unfoldable pub unwoven : ℕ → List ℕ → List ℕ
unwoven D ws = transposed (length ws / D) D ws

-- recording r of those that stand one after the other, k words each
abbrev pub part : ℕ → ℕ → List ℕ → List ℕ
part k r ws = take k (drop (r * k) ws)

-- none of "D out of range or a length that D does not divide", for k words
unfoldable pub good_depth : ℕ → ℕ → Bool
good_depth D k = (leb 2 D && leb D 16) && eqb (k % D) 0

-- n words, if they pass: "16 for D out of range or a length that D does not divide, before 13"
abbrev pub checked : ℕ → ℕ → ℕ → Outcome ℕ
checked D n room = unless Depth (good_depth D n) (unless ShortOutput (leb n room) (done n))

-- weaving, with these checks
unfoldable pub weave_into : ℕ → ℕ → List ℕ → Outcome (List ℕ)
weave_into D room ws = onward (checked D (length ws) room) (λ n. done (woven D ws))

-- unweaving, with the same checks
unfoldable pub unweave_into : ℕ → ℕ → List ℕ → Outcome (List ℕ)
unweave_into D room ws = onward (checked D (length ws) room) (λ n. done (unwoven D ws))

-- The lines of a set's records, as the code puts them.
-- In order: record-within, text-nowhere, text_at, part-line; line-good; no_lines, lines_more.
-- Assumes nothing.
use Rattle.std.proofs.Common.{◌≡◌, ◌++◌, ◌+◌, ◌-◌, ◌≤◌, if◌then◌else◌}
use Rattle.laws.proofs.All.{refl, sym, ap, ◌∙◌, Bool, true, false, List, [], ℕ, arith, ltb}
use Rattle.laws.proofs.All.{length, take, drop, get_or, length-map, length-drop, length-take-le}
use Rattle.laws.proofs.All.{range, concat-more, length_from}
use Rattle.answer.specs.Outcomes.{Outcome, done}
use Rattle.table.specs.declared.Table.{Table}
use Rattle.table.specs.Rows.{Code}
use Rattle.table.specs.Value.{code_in, row_in}
use Rattle.record_check.specs.Parse.{parse}
use Rattle.set_places.specs.Offsets.{found, place_at, offset_of, record_place}
use Rattle.set_places.proofs.Offsets.{place→}
use Rattle.set_lines.specs.SetText.{good_line, record_line, placed_line, record_text, lines_to}
use Rattle.std.proofs.Common.{None}

-- ---- where a record stands
module _ (s : List ℕ) (i : ℕ) where
  pub record-within : (start len : ℕ) → record_place s i ≡ found start len → start + len ≤ length s
  unfolding record_place
  record-within start len e = go (ltb i (get_or s 0 0)) e
    where
      go : (b : Bool) → (if b then place_at s (offset_of s i) else None) ≡ found start len → start + len ≤ length s
      go true e = let (p, q, h) = place→ s (offset_of s i) start len e in omega arith
      go false e = let z : ◌≡◌ {A = ℕ} 0 1 = cc in absurd (omega arith)

  pub text-nowhere : record_place s i ≡ None → [] ≡ record_text s i
  unfolding record_text
  text-nowhere e = sym (ap (placed_line s i) e)

  pub text_at : (start len : ℕ) → record_place s i ≡ found start len
      → record_line i start len (parse (take len (drop start s))) ≡ record_text s i
  unfolding record_text
  text_at start len e = sym (ap (placed_line s i) e)

  -- the part of the set from its first byte to its end
  pub part-line : (start len : ℕ) → start + len ≤ length s
      → record_line i start (length (take (start + len - start) (drop start s)))
      (parse (take (start + len - start) (drop start s)))
      ≡ record_line i start len (parse (take len (drop start s)))
  part-line start len h =
      let e : start + len - start ≡ len = omega arith in
      let d = length-drop start s in
      let l : len ≤ length (drop start s) = omega arith in
      ap (λ k. record_line i start (length (take k (drop start s))) (parse (take k (drop start s)))) e
      ∙ ap (λ k. record_line i start k (parse (take len (drop start s)))) (length-take-le len (drop start s) l)

-- ---- the line of a record
module _ (i start len : ℕ) (t : Table) (o : Outcome Code) where
  pub line-good : done (code_in t) ≡ o
      → good_line i start len t.p t.q t.states t.memory t.lookahead ≡ record_line i start len o
  line-good q =
      ap (λ n. good_line i start len t.p t.q n t.memory t.lookahead)
      (sym (length-map (range t.states) (row_in t) ∙ length_from 0 t.states))
      ∙ ap (record_line i start len) q

-- ---- the lines of all records
pub no_lines : (s : List ℕ) → [] ≡ lines_to s 0
unfolding lines_to
no_lines s = refl

pub lines_more : (s : List ℕ) (i : ℕ) → lines_to s i ++ record_text s i ≡ lines_to s (i + 1)
unfolding lines_to
lines_more s i = sym (concat-more (record_text s) i)

-- E1 to E10 and a foreign table as one statement, proved by computing: from bytes where the documents give bytes.
-- In order: compiled, weighed, what run-length jobs come to; code_at; code1, record1; code2, record2, old_record2;
-- code7, record7; code8; job9, ladder, ladder_rows, code9; code10, record10, listing10; one_way, other_way, all_bits;
-- Examples, the statement; examples, its proof.
-- Assumes nothing.
use Rattle.std.specs.Prelude.{◌≡◌, refl, List, [], ◌∷◌, ◌++◌, ℕ, true}
use Rattle.laws.specs.Lists.{sum}
use Rattle.answer.specs.declared.Refusal.TheVariants.{NoCode, Field, ShortOutput, WindowFails}
use Rattle.answer.specs.Outcomes.{Outcome, done, refused, onward}
use Rattle.constraint.specs.Walking.{Constraint, run_length}
use Rattle.table.specs.Rows.{Edge, edge, Rows, Code, with_tail}
use Rattle.window.specs.Works.{works}
use Rattle.window.specs.Search.{sizes, window}
use Rattle.record_obeys.specs.Obeys.{obeys}
use Rattle.record_check.specs.Accepted.{accepted}
use Rattle.record.specs.Layout.{pack}
use Rattle.record.specs.Parse.{pack_into}
use Rattle.record.specs.Checks.{fields_checked}
use Rattle.record_check.specs.Parse.{parse}
use Rattle.record_tail.specs.Closing.{closed_with}
use Rattle.codec.specs.Answers.{encoded, decoded, encode_under, decode_under}
use Rattle.compile_graph.specs.Arcs.{power}
use Rattle.compile_graph.specs.Weights.{weights}
use Rattle.compile_graph.specs.Component.{component_states, component_graph}
use Rattle.compile_graph.specs.Splitting.{split, splits, split_all}
use Rattle.compile_table.specs.TableOf.{table_states, table_of}
use Rattle.compile_labels.specs.Labels.{data_of, relabelled}
use Rattle.compile_job.specs.Jobs.{held_job, read_job, held_run_length, read_run_length, read_listed}
use Rattle.text.specs.Texts.{bytes, decimal}
use Rattle.view_listing.specs.Listing.{entry, listing}
use Rattle.view_job.specs.Listings.{list_into}
use Rattle.compile.specs.Compile.{weights_of, component_of, compile, compile_run_length}

-- the code to which the run-length job d, k, p, q, cap compiles
abbrev pub compiled : ℕ → ℕ → ℕ → ℕ → ℕ → Outcome Code
compiled d k p q cap = onward (read_run_length (d ∷ k ∷ p ∷ q ∷ cap ∷ [])) compile

-- its weights
abbrev pub weighed : ℕ → ℕ → ℕ → ℕ → ℕ → Outcome (List ℕ)
weighed d k p q cap = onward (read_run_length (d ∷ k ∷ p ∷ q ∷ cap ∷ [])) (λ j. done (weights_of j))

-- a code at p blocks to q bits, with memory m and lookahead a, for a constraint that starts in state 0; tail datum 0
abbrev pub code_at : ℕ → ℕ → ℕ → ℕ → Constraint → Rows → Code
code_at p q m a c t = record {
  p = p;
  q = q;
  window = record { memory = m; lookahead = a };
  constraint = c;
  start = 0;
  tail = 0;
  table = t;
}

-- E1: "state 0 gives 01/0, 10/1 (word/next)"; state 1 gives 11/0, 10/1, with 10 for 1 in both; m 0, a 0
abbrev pub code1 : Code
code1 = code_at 1 2 0 0 (run_length 0 1) ((edge 1 0 ∷ edge 2 1 ∷ []) ∷ (edge 3 0 ∷ edge 2 1 ∷ []) ∷ [])

-- its record
abbrev pub record1 : List ℕ
record1 = 0x24 ∷ 0x04 ∷ 0x00 ∷ 0x40 ∷ 0x23 ∷ 0x00 ∷ 0x41 ∷ 0x01 ∷ 0x01 ∷ 0xC0 ∷ 0x40 ∷ 0x40 ∷ []

-- E2: the table that document 01 first gave under E1: "state 1 gives 10/1, 11/0; m 1, a 0"
abbrev pub code2 : Code
code2 = code_at 1 2 1 0 (run_length 0 1) ((edge 1 0 ∷ edge 2 1 ∷ []) ∷ (edge 2 1 ∷ edge 3 0 ∷ []) ∷ [])

-- its record: "E2 is worked afresh for the table it already holds, with tail datum 0"
abbrev pub record2 : List ℕ
record2 = 0x24 ∷ 0x04 ∷ 0x40 ∷ 0x40 ∷ 0x23 ∷ 0x00 ∷ 0x41 ∷ 0x01 ∷ 0x01 ∷ 0x80 ∷ 0xE0 ∷ 0x00 ∷ []

-- "its record, hexadecimal: 24 04 40 42 30 04 10 10 18 0E 00", in the shape that is no longer read
abbrev pub old_record2 : List ℕ
old_record2 = 0x24 ∷ 0x04 ∷ 0x40 ∷ 0x42 ∷ 0x30 ∷ 0x04 ∷ 0x10 ∷ 0x10 ∷ 0x18 ∷ 0x0E ∷ 0x00 ∷ []

-- E7: three states, "E7 now has m 0", a 0
abbrev pub code7 : Code
code7 =
    code_at 1 2 0 0 (run_length 1 3)
    ((edge 0 2 ∷ edge 1 0 ∷ []) ∷ (edge 2 1 ∷ edge 1 0 ∷ []) ∷ (edge 2 1 ∷ edge 1 0 ∷ []) ∷ [])

-- its record
abbrev pub record7 : List ℕ
record7 =
    0x24 ∷ 0x08 ∷ 0x00 ∷ 0xC0 ∷ 0x22 ∷ 0x09 ∷ 0x42 ∷ 0x70 ∷ 0x04 ∷ 0x00 ∷ 0x48 ∷ 0x08 ∷ 0x0A ∷ 0x02 ∷ 0x02
    ∷ 0x80 ∷ []

-- E8: "MFM: state 0 gives 00/1, 01/0; state 1 gives 10/1, 01/0", for (1,3), m 0, a 0
abbrev pub code8 : Code
code8 = code_at 1 2 0 0 (run_length 1 3) ((edge 0 1 ∷ edge 1 0 ∷ []) ∷ (edge 2 1 ∷ edge 1 0 ∷ []) ∷ [])

-- E9: "the refusal 4 row with 8 states": "bit 0 to state 0, bit 1 to the next (last to 0), p 1, q 1, cap 16"
abbrev pub job9 : List ℕ
job9 = 1 ∷ 1 ∷ 16 ∷ 8 ∷ 0 ∷ 1 ∷ 0 ∷ 2 ∷ 0 ∷ 3 ∷ 0 ∷ 4 ∷ 0 ∷ 5 ∷ 0 ∷ 6 ∷ 0 ∷ 7 ∷ 0 ∷ 0 ∷ []

-- its constraint: each state and the state to which bit 1 leads from it
abbrev pub ladder : List ℕ → Constraint
ladder [] = []
ladder (t ∷ ts) = record { zero = 0; one = t } ∷ ladder ts

-- its table: word 0 to state 0, word 1 to the next
abbrev pub ladder_rows : List ℕ → Rows
ladder_rows [] = []
ladder_rows (t ∷ ts) = (edge 0 0 ∷ edge 1 t ∷ []) ∷ ladder_rows ts

-- the code that E9 compiles to
abbrev pub code9 : Code
code9 =
    let nexts : List ℕ = 1 ∷ 2 ∷ 3 ∷ 4 ∷ 5 ∷ 6 ∷ 7 ∷ 0 ∷ [] in
    code_at 1 1 0 0 (ladder nexts) (ladder_rows nexts)

-- the table of the listing, worked anew: m 0, a 1
abbrev pub code10 : Code
code10 =
    code_at 2 3 0 1 (run_length 0 1)
    ((edge 3 0 ∷ edge 3 2 ∷ edge 5 0 ∷ edge 5 2 ∷ []) ∷ (edge 6 1 ∷ edge 7 0 ∷ edge 5 0 ∷ edge 5 2 ∷ [])
    ∷ (edge 6 1 ∷ edge 7 0 ∷ edge 2 1 ∷ edge 7 2 ∷ []) ∷ [])

-- its record
abbrev pub record10 : List ℕ
record10 =
    0x46 ∷ 0x08 ∷ 0x04 ∷ 0x40 ∷ 0x23 ∷ 0x00 ∷ 0x41 ∷ 0x80 ∷ 0x60 ∷ 0xA8 ∷ 0x0A ∷ 0x0B ∷ 0x01 ∷ 0xE0 ∷ 0x28
    ∷ 0x0A ∷ 0x0B ∷ 0x01 ∷ 0xE0 ∷ 0x10 ∷ 0x1E ∷ 0x08 ∷ []

-- the listing of that table
abbrev pub listing10 : List ℕ
listing10 =
    bytes "2 3 3 0 1\n0 0 011 0\n0 1 011 2\n0 2 101 0\n0 3 101 2\n1 0 110 1\n1 1 111 0\n"
    ++ bytes "1 2 101 0\n1 3 101 2\n2 0 110 1\n2 1 111 0\n2 2 010 1\n2 3 111 2\n"

-- a state that has the word 0 for datum 0 and the word 1 for datum 1, both edges to itself
abbrev pub one_way : ℕ → List Edge
one_way s = edge 0 s ∷ edge 1 s ∷ []

-- one that has them the other way round
abbrev pub other_way : ℕ → List Edge
other_way s = edge 1 s ∷ edge 0 s ∷ []

-- the code of such states, m 0, a 0, for a constraint of one state that allows all bits
abbrev pub all_bits : Rows → Code
all_bits t = code_at 1 2 0 0 (ladder (0 ∷ [])) t

-- document 01's examples, as document 02 has worked them anew
pub record Examples : Type 0 where
  -- E1 (0,1), p 1, q 2, cap 1: weights 1, 1; the table; its record
  pub e1-weights : weighed 0 1 1 2 1 ≡ done (1 ∷ 1 ∷ [])
  pub e1-table : compiled 0 1 1 2 1 ≡ done code1
  pub e1-written : compile_run_length (0 ∷ 1 ∷ 1 ∷ 2 ∷ 1 ∷ []) 12 ≡ done record1
  -- E2, of the table that it already held; its old bytes are no record now, since their tail datum is 8; "the row of
  -- refusal 13 with it": 11 bytes for a 12-byte record
  pub e2-read : parse record2 ≡ done code2
  pub e2-packed : pack code2 ≡ record2
  pub e2-old : parse old_record2 ≡ refused Field
  pub e2-short : closed_with record2 0 11 ≡ refused ShortOutput
  -- E3 blocks 1 0 1 1 under E1 give words 2 3 2 2, and under E2's record 2 2 3 2
  pub e3 : encode_under record1 4 (1 ∷ 0 ∷ 1 ∷ 1 ∷ []) ≡ done (2 ∷ 3 ∷ 2 ∷ 2 ∷ [])
  pub e3-old : encode_under record2 4 (1 ∷ 0 ∷ 1 ∷ 1 ∷ []) ≡ done (2 ∷ 2 ∷ 3 ∷ 2 ∷ [])
  -- E4 "under E2's record, is now 1 1 254 1" for words 2 3 3 2
  pub e4 : decode_under record2 4 (2 ∷ 3 ∷ 3 ∷ 2 ∷ []) ≡ done (1 ∷ 1 ∷ 254 ∷ 1 ∷ [])
  -- E5 (0,1), 2 to 3: cap 1 gives refusal 3, cap 2 weights 2, 1
  pub e5-none : compiled 0 1 2 3 1 ≡ refused NoCode
  pub e5-weights : weighed 0 1 2 3 2 ≡ done (2 ∷ 1 ∷ [])
  -- E6 (2,7), 1 to 2: cap 3 gives refusal 3; cap 4 gives 2 3 4 4 3 3 2 1
  pub e6-none : compiled 2 7 1 2 3 ≡ refused NoCode
  pub e6-weights : weighed 2 7 1 2 4 ≡ done (2 ∷ 3 ∷ 4 ∷ 4 ∷ 3 ∷ 3 ∷ 2 ∷ 1 ∷ [])
  -- E7 (1,3), 1 to 2, cap 1: weights 1 1 1 0, three states, m 0, a 0; its record
  pub e7-weights : weighed 1 3 1 2 1 ≡ done (1 ∷ 1 ∷ 1 ∷ 0 ∷ [])
  pub e7-table : compiled 1 3 1 2 1 ≡ done code7
  pub e7-written : compile_run_length (1 ∷ 3 ∷ 1 ∷ 2 ∷ 1 ∷ []) 16 ≡ done record7
  -- E8 MFM is accepted for (1,3)
  pub e8-accepted : accepted code8 ≡ true
  pub e8-read : parse (pack code8) ≡ done code8
  -- E9 the refusal 4 row with 8 states: sum 128, compiled
  pub e9-sum : onward (read_job job9) (λ j. done (sum (component_of j).weights)) ≡ done 128
  pub e9-table : onward (read_job job9) compile ≡ done code9
  -- E10 no data under the table of the listing gives one word, 3
  pub e10-table : compiled 0 1 2 3 2 ≡ done code10
  pub e10-packed : pack code10 ≡ record10
  pub e10-listed : list_into (0 ∷ 1 ∷ 2 ∷ 3 ∷ 2 ∷ []) 130 ≡ done listing10
  pub e10 : encode_under record10 1 [] ≡ done (3 ∷ [])
  -- and 5 where the record states the tail datum 2
  pub e10-closed : encode_under (pack (with_tail code10 2)) 1 [] ≡ done (5 ∷ [])
  -- "Unreachable states of a foreign table count too": state 1 is not reachable, and only with it the window fails
  pub foreign-alone : parse (pack (all_bits (one_way 0 ∷ []))) ≡ done (all_bits (one_way 0 ∷ []))
  pub foreign-alike : parse (pack (all_bits (one_way 0 ∷ one_way 1 ∷ [])))
      ≡ done (all_bits (one_way 0 ∷ one_way 1 ∷ []))
  pub foreign-fails : parse (pack (all_bits (one_way 0 ∷ other_way 1 ∷ []))) ≡ refused WindowFails

-- they hold
pub examples : Examples
unfolding held_job read_job held_run_length read_run_length read_listed compile compile_run_length pack_into pack
    fields_checked
    parse closed_with encoded decoded encode_under decode_under works sizes window obeys power weights component_states
    component_graph split splits split_all table_states table_of data_of relabelled decimal entry listing list_into
examples = record {
  e1-weights = refl;
  e1-table = refl;
  e1-written = refl;
  e2-read = refl;
  e2-packed = refl;
  e2-old = refl;
  e2-short = refl;
  e3 = refl;
  e3-old = refl;
  e4 = refl;
  e5-none = refl;
  e5-weights = refl;
  e6-none = refl;
  e6-weights = refl;
  e7-weights = refl;
  e7-table = refl;
  e7-written = refl;
  e8-accepted = refl;
  e8-read = refl;
  e9-sum = refl;
  e9-table = refl;
  e10-table = refl;
  e10-packed = refl;
  e10-listed = refl;
  e10 = refl;
  e10-closed = refl;
  foreign-alone = refl;
  foreign-alike = refl;
  foreign-fails = refl;
}

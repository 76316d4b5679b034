-- A table's record written part by part into lent bytes.
-- In order: small-in; even, whole-record; pack-field, pack-ready, pack-long, pack-short, pack-fits.
-- Assumes nothing.
use Rattle.std.proofs.Common.{◌≡◌, ◌++◌, ◌+◌, ◌*◌, ◌^◌, ◌≤◌, ◌<◌}
use Rattle.laws.proofs.All.{sym, ap, subst, ◌∙◌, true, false, List, ℕ}
use Rattle.laws.proofs.All.{arith, lt-leb, le-leb, T, length, take, drop, length-append, range, Each}
use Rattle.laws.proofs.All.{Below, each-image, each-always, length-map-range}
use Rattle.answer.specs.declared.Refusal.TheVariants.{Field, ShortOutput}
use Rattle.answer.specs.Outcomes.{done, refused}
use Rattle.answer.proofs.Outcomes.{unless-true}
use Rattle.bits.specs.Fields.{bits, bits_of}
use Rattle.bits.specs.Bytes.{spliced}
use Rattle.bits.proofs.Fields.{length-bits}
use Rattle.bits.proofs.Puts.{length-bits_of, spliced-field}
use Rattle.bits.proofs.Runs.{spliced-next, size_holds}
use Rattle.table.specs.declared.Table.{Table}
use Rattle.table.specs.Rows.{Code}
use Rattle.table.specs.Formed.{head}
use Rattle.table.specs.Value.{edge_in, row_in, rows_in, code_in, ready, Ready}
use Rattle.table.proofs.ReadyTables.{head_in}
use Rattle.record.specs.Layout.{header_bits, state_size, bit_count, size, fill, pack}
use Rattle.record.specs.Parse.{pack_into}
use Rattle.record.specs.Checks.{pack_with}
use Rattle.table.specs.Value.{table_head}
use Rattle.record.specs.Parts.{front_bits, states_bits, rows_bits}
use Rattle.record.specs.Places.{Small}
use Rattle.record.proofs.RecordWrite.{length-pack}
use Rattle.record.proofs.RecordOut.{length_front, length-states, length-table, parts_are, length-parts}
use Rattle.record.proofs.RecordOut.{bytes-are}

pub small-in : (t : Table) → Ready t → Small (table_head t)
small-in t r = record { p₂ = r.narrow; q₂ = r.short; s₂ = r.few; k₂ = r.limits }

pub even : (t : Table) → Each (λ es. length es ≡ 2 ^ t.p) (rows_in t)
even t =
    each-image (λ es. length es ≡ 2 ^ t.p) (row_in t) (range t.states)
    (each-always (λ s. length (row_in t s) ≡ 2 ^ t.p) (λ s. length-map-range (edge_in t s) (2 ^ t.p))
    (range t.states))

-- the four parts put one after the other are the record
module _ (c : Code) (each : Each (λ es. length es ≡ 2 ^ c.p) c.table) (out new B₁ B₂ B₃ : List ℕ) (a w m : ℕ) where
  abbrev B : List ℕ
  B = bits_of out

  abbrev F : List ℕ
  F = front_bits (head c)

  abbrev S : List ℕ
  S = states_bits c.constraint

  abbrev R : List ℕ
  R = rows_bits c.q c.table

  pub whole-record : Below 256 out → Below 256 new → size (head c) ≤ length out → length new ≡ length out
      → m ≡ header_bits + length c.constraint * state_size → a ≡ bit_count (head c) → w ≡ fill (head c)
      → B₁ ≡ spliced 0 F B → B₂ ≡ spliced header_bits S B₁ → B₃ ≡ spliced m R B₂
      → bits_of new ≡ take a B₃ ++ bits w 0 ++ drop (a + w) B₃ → new ≡ pack c ++ drop (length (pack c)) out
  whole-record b d h l em ea ew e₁ e₂ e₃ e₄ =
      let lb = length-bits_of out in
      let lf : length F ≡ header_bits = length_front (head c) in
      let ls : length S ≡ length c.constraint * state_size = length-states c.constraint in
      let lr : length R ≡ length c.table * (2 ^ c.p * (c.q + 7)) = length-table c.q (2 ^ c.p) c.table
      each in
      let lz : length (bits w 0) ≡ w = length-bits w 0 in
      let fits : bit_count (head c) ≤ 8 * size (head c) = size_holds (bit_count (head c)) in
      let fs = length-append F S in
      let fr = length-append (F ++ S) R in
      let s₂ = spliced-next B B₁ B₂ F S 0 header_bits (omega arith) (omega arith) e₁ e₂ in
      let s₃ = spliced-next B B₂ B₃ (F ++ S) R 0 m (omega arith) (omega arith) s₂ e₃ in
      let g₄ : bits_of new ≡ spliced a (bits w 0) B₃ = e₄ ∙ sym (spliced-field a w 0 B₃) in
      let s₄ = spliced-next B B₃ (bits_of new) ((F ++ S) ++ R) (bits w 0) 0 a (omega arith) (omega arith) s₃ g₄ in
      bytes-are c (length-parts c each) out new b d h l
      (s₄ ∙ ap (λ x. spliced 0 x B) (ap (λ n. ((F ++ S) ++ R) ++ bits n 0) ew ∙ parts_are c each))

-- ---- the outcome at each return of the code
pub pack-field : (t : Table) (room : ℕ) → ready t ≡ false → pack_with t room ≡ refused Field
unfolding pack_with
pack-field t room e = rw e

pub pack-ready : (t : Table) (room : ℕ) → T (ready t) → pack_with t room ≡ pack_into (code_in t) room
unfolding pack_with
pack-ready t room k = unless-true Field (ready t) (pack_into (code_in t) room) k

module _ (t : Table) (long room : ℕ) (e : long ≡ size (table_head t)) where
  pub pack-long : long ≡ length (pack (code_in t))
  pack-long = e ∙ ap size (head_in t) ∙ sym (length-pack (code_in t))

  module _ (r : ready t ≡ true) where
    pub pack-short : room < long → pack_with t room ≡ refused ShortOutput
    unfolding pack_with pack_into
    pack-short h =
        rw (r, lt-leb (length (pack (code_in t))) room (subst (λ n. room < n) pack-long h))

    pub pack-fits : long ≤ room → pack_with t room ≡ done (pack (code_in t))
    unfolding pack_with pack_into
    pack-fits h =
        rw (r, le-leb (length (pack (code_in t))) room (subst (λ n. n ≤ room) pack-long h))

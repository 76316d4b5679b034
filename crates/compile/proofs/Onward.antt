-- A table that was compiled is written as its code is.
-- In order: goes-packed.
-- Assumes nothing.
use Rattle.std.proofs.Common.{Result, ◌≡◌}
use Rattle.laws.proofs.All.{List, ℕ, T, length}
use Rattle.answer.specs.declared.Refusal.{Refusal}
use Rattle.answer.specs.Outcomes.{Outcome, done, onward, answer_of, output_of}
use Rattle.table.specs.Rows.{Code}
use Rattle.table.specs.declared.Table.{Table}
use Rattle.table.specs.Value.{code_in, ready}
use Rattle.record.specs.Parse.{pack_into}
use Rattle.record.specs.Checks.{pack_with}
use Rattle.record.proofs.RecordWriting.{pack-ready}

pub goes-packed : (t : Table) (o : Outcome Code) (B C : List ℕ) (r : Result ℕ Refusal) → T (ready t)
    → o ≡ done (code_in t) → r ≡ answer_of (pack_with t (length B)) → C ≡ output_of (pack_with t (length B)) B
    → (r ≡ answer_of (onward o (λ c. pack_into c (length B))))
    × (C ≡ output_of (onward o (λ c. pack_into c (length B))) B)
goes-packed t o B C r k e p q =
    let z = pack-ready t (length B) k in rw e (rw z at p, rw z at q)

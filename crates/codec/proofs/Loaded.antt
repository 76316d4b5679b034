-- Encoding and decoding under the record in some bytes, once the record is read or loaded: o is what that came to.
-- In order: under-bad, under-good; encode-read, decode-read.
-- Assumes nothing.
use Rattle.std.proofs.Common.{◌≡◌}
use Rattle.laws.proofs.All.{List, ℕ, T, T→true}
use Rattle.answer.specs.declared.Refusal.{Refusal}
use Rattle.answer.specs.declared.Refusal.TheVariants.{Field}
use Rattle.answer.specs.Outcomes.{Outcome, done, refused, unless, onward}
use Rattle.table.specs.Rows.{Code}
use Rattle.table.specs.Value.{code_in, ready}
use Rattle.table.specs.declared.Table.{Table}
use Rattle.codec.specs.Answers.{encoded, decoded}
use Rattle.codec.specs.With.{encoded_with, decoded_with}

module _ (o : Outcome Code) where
  pub under-bad : {A : Type 0} (f : Code → Outcome A) (x : Refusal) → refused x ≡ o → onward o f ≡ refused x
  under-bad f x e = rw (← e)

  -- what is done under a table that is ready is done with what was read
  module _ (t : Table) (e : done (code_in t) ≡ o) (k : T (ready t)) where
    pub under-good : (f : Code → Outcome (List ℕ)) → unless Field (ready t) (f (code_in t)) ≡ onward o f
    under-good f = rw (T→true (ready t) k, ← e)

    module _ (room : ℕ) (ys : List ℕ) where
      pub encode-read : encoded_with t room ys ≡ onward o (λ c. encoded c room ys)
      unfolding encoded_with
      encode-read = under-good (λ c. encoded c room ys)

      pub decode-read : decoded_with t room ys ≡ onward o (λ c. decoded c room ys)
      unfolding decoded_with
      decode-read = under-good (λ c. decoded c room ys)

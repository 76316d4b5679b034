-- Verifying under a table by value, check by check, and under a record that was loaded.
-- In order: verify-7; counted; verify-12, verify-last, verify-done; verify-read.
-- Assumes nothing.
use Rattle.std.proofs.Common.{◌≡◌, ◌^◌, ◌≤◌, ◌<◌, Ok}
use Rattle.laws.proofs.All.{sym, ap, ◌∙◌, true, false, List, ℕ, lt-leb, le-leb}
use Rattle.laws.proofs.All.{T, length}
use Rattle.answer.specs.declared.Refusal.TheVariants.{Field, TooFewWords}
use Rattle.answer.specs.Outcomes.{Outcome, done, refused, onward, answer_of}
use Rattle.answer.specs.FirstBad.{all_below}
use Rattle.table.specs.declared.Table.{Table}
use Rattle.table.specs.Rows.{Code}
use Rattle.table.specs.Value.{code_in, ready}
use Rattle.table.specs.Edges.{lent}
use Rattle.codec.proofs.Loaded.{under-good}
use Rattle.codec_verify.specs.declared.Sizes.{Sizes}
use Rattle.codec_verify.specs.Fronts.{same_front}
use Rattle.codec_verify.specs.Verify.{rebuilt, verified, verified_with}
use Rattle.codec_verify.specs.Counting.{followed, agreed, sizes_of, come_back}

module _ (t : Table) (ws : List ℕ) where
  pub verify-7 : ready t ≡ false → verified_with t ws ≡ refused Field
  unfolding verified_with
  verify-7 e = rw e

  -- the words in front that come back
  abbrev pub counted : List ℕ
  counted = same_front (rebuilt (code_in t) ws) ws

  module _ (r : ready t ≡ true) where
    pub verify-12 : length ws < t.lookahead → verified_with t ws ≡ refused TooFewWords
    unfolding verified_with verified
    verify-12 h = rw (r, lt-leb t.lookahead (length ws) h)

    pub verify-last : t.lookahead ≤ length ws → verified_with t ws ≡ all_below (2 ^ t.q) ws counted
    unfolding verified_with verified
    verify-last h = rw (r, le-leb t.lookahead (length ws) h)

  pub verify-done : verified_with t ws ≡ done counted → (z : Sizes) (v : ℕ) → z ≡ sizes_of t
      → v ≡ come_back (lent t) z ws → Ok v ≡ answer_of (verified_with t ws)
  unfolding followed agreed
  verify-done e z v f g = ap Ok (rw f at g) ∙ sym (ap answer_of e)

-- under a record that was loaded
pub verify-read : (o : Outcome Code) (t : Table) → done (code_in t) ≡ o → T (ready t) → (ws : List ℕ)
    → verified_with t ws ≡ onward o (λ c. verified c ws)
unfolding verified_with
verify-read o t e k ws = under-good o t e k (λ c. verified c ws)

-- How many blocks differ from the data written where one word is overwritten.
-- In order: same_block; one_word.
-- Assumes nothing.
use Rattle.std.proofs.Common.{◌≡◌, ◌⊎◌, ◌+◌, ◌-◌, ◌^◌, ◌≤◌, ◌<◌}
use Rattle.laws.proofs.All.{ap, inl, inr, false, not, List, ℕ, arith, eq-eqb}
use Rattle.laws.proofs.All.{length, get_or, filter-interval, Below}
use Rattle.answer.specs.Outcomes.{done}
use Rattle.table.specs.Rows.{Code}
use Rattle.table.specs.Paths.{Blocks, recording}
use Rattle.record_check.specs.Parse.{parse}
use Rattle.codec_steps.specs.Reading.{mark_ahead}
use Rattle.codec.specs.Answers.{decode_under}
use Rattle.codec.specs.Damage.{SameOutside, differ, differences}
use Rattle.codec.proofs.Reach.{words-reach}

-- a block that comes out as written does not differ
same_block : (out ds : List ℕ) (i : ℕ) → get_or out i mark_ahead ≡ get_or ds i 0 → differ out ds i ≡ false
same_block out ds i e = ap not (eq-eqb (get_or out i mark_ahead) (get_or ds i 0) e)

module _ (xs : List ℕ) (bytes : Below 256 xs) (c : Code) (read : parse xs ≡ done c) where
  -- overwriting word y: at most m + a + 1 blocks differ from the data written, those from y − a to y + m
  pub one_word : (ds L : List ℕ) → Blocks c ds → Below (2 ^ c.q) L → (y room : ℕ)
      → SameOutside y y L (recording c ds) → length ds ≤ room → (out : List ℕ) × (decode_under xs room L ≡ done out)
      × (differences out ds ≤ c.window.memory + c.window.lookahead + 1)
  one_word ds L b w y room s h =
      let m = c.window.memory in
      let a = c.window.lookahead in
      let (out, e, f) = words-reach xs bytes c read ds L b w y y room s h in
      let clear : (j : ℕ) → (j < y - a) ⊎ (y - a + (m + a + 1) ≤ j) → (j < y - a) ⊎ (y + m < j) =
      λ j o. elim o [ inl l ↦ inl l | inr g ↦ inr (omega arith) ] in (
        out,
        e,
        filter-interval (differ out ds) (y - a) (m + a + 1) 0 (length ds)
            (λ j l o. same_block out ds j (f j (omega arith) (clear j o))),
      )

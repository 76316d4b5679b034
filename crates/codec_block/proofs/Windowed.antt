-- The window of a block as the code cuts it.
-- In order: past-start, past-later, past-set, past-none; block_read, the block by its readings.
-- Assumes nothing.
use Rattle.std.proofs.Common.{◌≡◌, ◌+◌, ◌-◌, ◌≤◌, ◌<◌, if◌then◌else◌}
use Rattle.laws.proofs.All.{sym, ap, ap₂, ◌∙◌, Bool, List, ℕ, arith, dec_lt, lt-ltb}
use Rattle.laws.proofs.All.{le-ltb, eqb, ltb, get_or, take, drop}
use Rattle.table.specs.Rows.{Rows}
use Rattle.table.specs.Edges.{Arrays, rows_of, Fits}
use Rattle.table.proofs.RowsOf.{length-rows}
use Rattle.bitsets.specs.declared.BitSet.{BitSet}
use Rattle.bitsets.specs.BitSets.{holds, yes_no}
use Rattle.codec_steps.specs.StateSets.{every_state, one_state, along_all, able}
use Rattle.codec_steps.specs.Reading.{readings, mark_for, past, block}
use Rattle.codec_steps.specs.BlockParts.{under}
use Rattle.codec_steps.proofs.StateSteps.{states-every, states-one}

module _ (t : Rows) (m a : ℕ) (ws : List ℕ) (i : ℕ) where
  pub past-start : i < m
      → along_all t (one_state t 0) (take (i - (i - m)) (drop (i - m) ws)) ≡ past (under t m a) ws i
  past-start h =
      let z : i - m ≡ 0 = omega arith in
      let y : i - (i - m) ≡ i = omega arith in
      ap₂ (λ n k. along_all t (one_state t 0) (take n (drop k ws))) y z
      ∙ sym (ap (λ b. if b then along_all t (one_state t 0) (take i ws)
      else along_all t (every_state t) (take m (drop (i - m) ws))) (lt-ltb i m h))

  pub past-later : m ≤ i
      → along_all t (every_state t) (take (i - (i - m)) (drop (i - m) ws)) ≡ past (under t m a) ws i
  past-later h =
      let z : i - (i - m) ≡ m = omega arith in
      ap (λ n. along_all t (every_state t) (take n (drop (i - m) ws))) z
      ∙ sym (ap (λ b. if b then along_all t (one_state t 0) (take i ws)
      else along_all t (every_state t) (take m (drop (i - m) ws))) (le-ltb i m h))

-- the start of the window, stepped by its words, is the past set
pub past-set : (t : Arrays) → Fits t → (m a : ℕ) (ws : List ℕ) (i : ℕ) (R : BitSet) (k : ℕ)
    → (i < m → (s : ℕ) → holds R s ≡ eqb 0 s) → (m ≤ i → (s : ℕ) → holds R s ≡ ltb s 128) → k ≡ i - m
    → (P : List Bool) → P ≡ along_all (rows_of t) (yes_no t.states R) (take (i - k) (drop k ws))
    → P ≡ past (under (rows_of t) m a) ws i
past-set t g m a ws i R k one all e P q = q ∙ go (dec_lt i m)
  where
    go : Dec (i < m)
        → along_all (rows_of t) (yes_no t.states R) (take (i - k) (drop k ws)) ≡ past (under (rows_of t) m a) ws i
    go (yes h) =
        ap₂ (λ S j. along_all (rows_of t) S (take (i - j) (drop j ws)))
        (states-one t.states (rows_of t) (length-rows t) R (one h)) e
        ∙ past-start (rows_of t) m a ws i h
    go (no h) =
        let l : m ≤ i = omega arith in
        ap₂ (λ S j. along_all (rows_of t) S (take (i - j) (drop j ws)))
        (states-every t.states (rows_of t) (length-rows t) R
        (λ s b. all l s ∙ lt-ltb s 128 (omega (arith, g.few)))) e
        ∙ past-later (rows_of t) m a ws i l

-- with no memory it is the start of the window itself
pub past-none : (t : Arrays) → Fits t → (a : ℕ) (ws : List ℕ) (i : ℕ) (R : BitSet) (m : ℕ) → m ≡ 0
    → (0 ≤ i → (s : ℕ) → holds R s ≡ ltb s 128) → yes_no t.states R ≡ past (under (rows_of t) m a) ws i
past-none t g a ws i R m e all =
    let z : i - i ≡ 0 = omega arith in
    past-set t g m a ws i R i (λ h. absurd (omega (arith, e))) (λ h. all (omega arith)) (omega (arith, e))
    (yes_no t.states R) (sym (ap (λ n. along_all (rows_of t) (yes_no t.states R) (take n (drop i ws))) z))

module _ (t : Rows) (m a : ℕ) (ws : List ℕ) (i : ℕ) (P A : List Bool) (p : P ≡ past (under t m a) ws i)
    (q : A ≡ able t (take (i + 1 + a - (i + 1)) (drop (i + 1) ws))) where
  pub block_read : get_or (readings t P (get_or ws i 0) A) 0 (mark_for t P (get_or ws i 0)) ≡ block (under t m a) ws i
  block_read =
      let z : i + 1 + a - (i + 1) ≡ a = omega arith in
      ap₂ (λ S B. get_or (readings t S (get_or ws i 0) B) 0 (mark_for t S (get_or ws i 0))) p
      (q ∙ ap (λ n. able t (take n (drop (i + 1) ws))) z)

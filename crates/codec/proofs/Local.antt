-- The reading of a block depends on its window of words alone.
-- In order: read_behind, read_window; cut-window; past-later, past-early; block-later, block-early; block-local,
-- block-local-start; block-part.
-- Assumes nothing.
use Rattle.std.proofs.Common.{◌≡◌, ◌⊎◌, ◌+◌, ◌-◌, ◌≤◌, ◌<◌}
use Rattle.laws.proofs.All.{sym, ap, ◌∙◌, inl, inr, Bool, List, ℕ, suc, arith, dec_le}
use Rattle.laws.proofs.All.{get_or, take, drop, lt-ltb, le-ltb, take-take, get_or-take, get_or-drop, drop-take}
use Rattle.laws.proofs.All.{drop-drop}
use Rattle.table.specs.Rows.{Rows, Code}
use Rattle.codec_steps.specs.StateSets.{every_state, one_state, along_all}
use Rattle.codec_steps.specs.Reading.{reading, past, block}

-- the datum of the word w after the words `pre` from the states of S, and before the words ws
abbrev read_behind : Rows → List Bool → List ℕ → ℕ → List ℕ → ℕ
read_behind t S pre w ws = reading t (along_all t S pre) w ws

-- the datum after k words of the window W, from the states of S
abbrev pub read_window : Rows → List Bool → ℕ → List ℕ → ℕ
read_window t S k W = read_behind t S (take k W) (get_or W k 0) (drop (suc k) W)

-- the parts of words n to n + k + a: those before word n + k, the word, and those after it
pub cut-window : {A : Type 0} (F : List ℕ → ℕ → List ℕ → A) (L : List ℕ) (n k a : ℕ)
    → let W = take (suc k + a) (drop n L) in
    F (take k W) (get_or W k 0) (drop (suc k) W)
    ≡ F (take k (drop n L)) (get_or L (n + k) 0) (take a (drop (n + suc k) L))
cut-window F L n k a = rw (
  take-take k (suc k + a) (drop n L) (omega arith),
  get_or-take (suc k + a) (drop n L) k 0 (omega arith),
  get_or-drop n L k 0,
  drop-take (suc k) a (drop n L),
  drop-drop (suc k) n L,
)

module _ (c : Code) where
  abbrev t : Rows
  t = c.table

  abbrev m : ℕ
  m = c.window.memory

  abbrev a : ℕ
  a = c.window.lookahead

  -- the past set, by where the block stands
  pub past-later : (L : List ℕ) (j : ℕ) → m ≤ j → past c L j ≡ along_all t (every_state t) (take m (drop (j - m) L))
  past-later L j h = rw (le-ltb j m h)

  pub past-early : (L : List ℕ) (j : ℕ) → j < m → past c L j ≡ along_all t (one_state t 0) (take j L)
  past-early L j h = rw (lt-ltb j m h)

  pub block-later : (L : List ℕ) (j : ℕ) → m ≤ j
      → block c L j ≡ read_window t (every_state t) m (take (suc m + a) (drop (j - m) L))
  block-later L j h =
      let q₁ : j - m + m ≡ j = omega arith in
      let q₂ : j - m + suc m ≡ j + 1 = omega arith in
      rw (cut-window (read_behind t (every_state t)) L (j - m) m a, past-later L j h, q₁, q₂)

  pub block-early : (L : List ℕ) (j : ℕ) → j < m
      → block c L j ≡ read_window t (one_state t 0) j (take (suc j + a) L)
  block-early L j h =
      let q₁ : 0 + j ≡ j = omega arith in
      let q₂ : 0 + suc j ≡ j + 1 = omega arith in
      rw (past-early L j h) (sym (cut-window (read_behind t (one_state t 0)) L 0 j a ∙ rw (q₁, q₂)))

  wide : (k : ℕ) → k + 1 + a ≡ suc k + a
  wide k = omega arith

  -- words j − m to j + a settle block j
  pub block-local : (L L' : List ℕ) (j j' : ℕ) → m ≤ j → m ≤ j'
      → take (m + 1 + a) (drop (j - m) L) ≡ take (m + 1 + a) (drop (j' - m) L') → block c L j ≡ block c L' j'
  block-local L L' j j' h h' e =
      block-later L j h ∙ ap (read_window t (every_state t) m) (rw (wide m) at e) ∙ sym (block-later L' j' h')

  -- words 0 to j + a settle block j below m
  pub block-local-start : (L L' : List ℕ) (j : ℕ) → j < m → take (j + 1 + a) L ≡ take (j + 1 + a) L'
      → block c L j ≡ block c L' j
  block-local-start L L' j h e =
      block-early L j h ∙ ap (read_window t (one_state t 0) j) (rw (wide j) at e) ∙ sym (block-early L' j h)

  -- words that agree on k places have the same windows there
  same-window : (X M : List ℕ) (k n w : ℕ) → n + w ≤ k → take k M ≡ take k X → take w (drop n X) ≡ take w (drop n M)
  same-window X M k n w h e =
      sym (drop-take n w X)
      ∙ ap (drop n) (sym (take-take (n + w) k X h) ∙ ap (take (n + w)) (sym e) ∙ take-take (n + w) k M h)
      ∙ drop-take n w M

  -- a block is read from the words M that hold k words of L, those from the place `base` on, where its window lies
  -- among them, or begins with them at the first word of all
  module _ (L M : List ℕ) (base k i : ℕ) (in-front : i + a < base + k) (e : take k M ≡ take k (drop base L)) where
    part-later : base + m ≤ i → block c L i ≡ block c M (i - base)
    part-later h =
        let n = i - base - m in
        let p : base + n ≡ i - m = omega arith in
        block-local L M i (i - base) (omega arith) (omega arith)
        (ap (λ o. take (m + 1 + a) (drop o L)) (sym p) ∙ ap (take (m + 1 + a)) (sym (drop-drop n base L))
        ∙ same-window (drop base L) M k n (m + 1 + a) (omega arith) e)

    pub block-part : (base ≡ 0) ⊎ (base + m ≤ i) → base ≤ i → block c L i ≡ block c M (i - base)
    block-part (inr h) l = part-later h
    block-part (inl z) l = elim (dec_le m i) [
      | yes h ↦ part-later (omega arith)
      | no h ↦
          let p : i - base ≡ i = omega arith in
          block-local-start L M i (omega arith)
          (same-window L M k 0 (i + 1 + a) (omega arith) (e ∙ ap (λ o. take k (drop o L)) z))
          ∙ ap (block c M) (sym p)
    ]

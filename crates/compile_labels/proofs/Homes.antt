-- For each word the lowest state that has it: what that state gave the word, and a state added.
-- In order: gave-state, gave-none, given-home; homes_none, home-more, homes_more; noted-none, noted_more, note-put,
-- note-skip, the words of a state one by one.
-- Assumes nothing.
use Rattle.std.proofs.Common.{◌≡◌, ◌&&◌, ◌||◌, ◌∷◌, ◌++◌, ◌+◌, ◌≤◌, ◌<◌, if◌then◌else◌}
use Rattle.laws.proofs.All.{refl, sym, ap, subst, ◌∙◌, inl, inr, Bool, true, false, and-false, List}
use Rattle.laws.proofs.All.{[], ℕ, add-one, arith, lt-ltb, le-ltb, eq-eqb, ne_eqb, eqb}
use Rattle.laws.proofs.All.{length, get_or, take, set, replicate, length-append, length-map, get_or-replicate}
use Rattle.laws.proofs.All.{get_or-append, get_or-append_seam, take-suc, get_or-set_same, get_or-set_other, below_more}
use Rattle.laws.proofs.All.{range, filter, elem, any_append, Whether, so, nay, eqb_is, each-range}
use Rattle.laws.proofs.All.{each_map, filter_same, get_or-map-lt, first-place, first-nowhere}
use Rattle.table.specs.Rows.{Edge, edge, Rows, edges, words_of, has_word}
use Rattle.compile_labels.specs.Labels.{carries, gave, given}
use Rattle.compile_labels.specs.Parts.{row_at, gave_at, Worded, Home, Homes, noted}
use Rattle.compile_labels.proofs.Columns.{row-entry}

-- ---- what a state gave a word, read off the column
module _ (n : ℕ) (column : List ℕ) (h w : ℕ) where
  pub gave-state : h < 128 → gave_at n column h w ≡ gave n (row_at column h) w
  gave-state l = ap (λ b. if b then gave n (row_at column h) w else []) (lt-ltb h 128 l)

  pub gave-none : 128 ≤ h → gave_at n column h w ≡ []
  gave-none l = ap (λ b. if b then gave n (row_at column h) w else []) (le-ltb h 128 l)

-- what the lowest earlier state with the word gave it
pub given-home : (n : ℕ) (t : Rows) (column : List ℕ) → n ≤ 16 → Worded n t column → (w h : ℕ) → Home t w h
    → given t w ≡ gave_at n column h w
given-home n t column few W w h (inl (l, e, f)) =
    ap (λ es. filter (carries (words_of es) w) (range (length (words_of es)))) (first-place (has_word w) [] t h l e f)
    ∙ ap (λ k. filter (carries (words_of (edges t h)) w) (range k))
    (length-map (edges t h) (λ (e : Edge). e.word) ∙ W.full h l)
    ∙ filter_same (carries (words_of (edges t h)) w) (carries (row_at column h) w) (range n)
    (each_map (λ d. d < n) _ (λ d k. ap (λ x. eqb x w)
    (get_or-map-lt (λ (e : Edge). e.word) (edges t h) d (edge 0 0) 0 (rw (W.full h l) k)
    ∙ W.words h d l k ∙ sym (row-entry column h d (omega arith)))) (range n) (each-range n))
    ∙ sym (gave-state n column h w (let k = W.few in omega arith))
given-home n t column few W w h (inr (e, f)) =
    ap (λ es. filter (carries (words_of es) w) (range (length (words_of es)))) (first-nowhere (has_word w) [] t f)
    ∙ sym (gave-none n column h w (omega arith))

-- ---- a state added
pub homes_none : Homes [] (replicate 256 128)
homes_none w h = inr (get_or-replicate 256 w 128 0 h, λ s k. absurd (omega arith))

module _ (t : Rows) (es : List Edge) (i : ℕ) (l : length t ≡ i) (few : i < 128) (w : ℕ) where
  abbrev more : Rows
  more = t ++ es ∷ []

  long : length more ≡ i + 1
  long = length-append t (es ∷ []) ∙ ap (λ k. k + 1) l

  before : (s : ℕ) → s < i → edges more s ≡ edges t s
  before s h = get_or-append t (es ∷ []) [] s (rw l h)

  here : edges more i ≡ es
  here = ap (edges more) (sym l) ∙ get_or-append_seam t es [] []

  home-more : (h : ℕ) → Home t w h → Home more w (if eqb h 128 && elem w (words_of es) then i else h)
  home-more h (inl (b, e, f)) =
      rw (ne_eqb h 128 (λ q. omega arith)) (inl (
        omega (arith, long),
        ap (has_word w) (before h (rw l at b)) ∙ e,
        λ s k. ap (has_word w) (before s (omega arith)) ∙ f s k,
      ))
  home-more h (inr (e, f)) = rw (eq-eqb h 128 e) (go (elem w (words_of es)) refl)
    where
      lower : (s : ℕ) → s < i → has_word w (edges more s) ≡ false
      lower s k = ap (has_word w) (before s k) ∙ f s (rw l k)

      go : (b : Bool) → has_word w es ≡ b → Home more w (if b then i else h)
      go true q = inl (omega (arith, long), ap (has_word w) here ∙ q, lower)
      go false q =
          inr (
            e,
            λ s k. below_more (λ s. has_word w (edges more s) ≡ false) i lower (ap (has_word w) here ∙ q) s
                (rw long at k),
          )

pub homes_more : (t : Rows) (es : List Edge) (i : ℕ) (home home' : List ℕ) → length t ≡ i → i < 128 → Homes t home
    → ((w : ℕ) → w < 256 → get_or home' w 0 ≡ noted (words_of es) i home w) → Homes (t ++ es ∷ []) home'
homes_more t es i home home' l few H e w h =
    subst (Home (t ++ es ∷ []) w) (sym (e w h)) (home-more t es i l few w (get_or home w 0) (H w h))

-- ---- the words of a state one by one
pub noted-none : (i : ℕ) (home : List ℕ) (w : ℕ) → noted [] i home w ≡ get_or home w 0
noted-none i home w = ap (λ b. if b then i else get_or home w 0) (and-false (eqb (get_or home w 0) 128))

noted_more : (xs : List ℕ) (v i : ℕ) (home : List ℕ) (w : ℕ) → i < 128 → noted (xs ++ v ∷ []) i home w
    ≡ (if eqb w v && eqb (noted xs i home w) 128 then i else noted xs i home w)
noted_more xs v i home w few =
    ap (λ b. if eqb h 128 && b then i else h) (any_append (eqb w) xs (v ∷ []))
    ∙ go (eqb h 128) refl (elem w xs) (eqb w v)
  where
    h : ℕ
    h = get_or home w 0

    go : (e : Bool) → eqb h 128 ≡ e → (a b : Bool) → (if e && (a || (b || false)) then i else h)
        ≡ (if b && eqb (if e && a then i else h) 128 then i else (if e && a then i else h))
    go true q true true = rw (ne_eqb i 128 (λ p. omega arith))
    go true q true false = refl
    go true q false true = rw q
    go true q false false = refl
    go false q a true = rw q
    go false q a false = refl

module _ (words : List ℕ) (i d : ℕ) (home r : List ℕ) (hd : d < length words) (few : i < 128)
    (H : (w : ℕ) → w < 256 → get_or r w 0 ≡ noted (take d words) i home w) where
  abbrev v : ℕ
  v = get_or words d 0

  step : (w : ℕ) → w < 256 → noted (take (d + 1) words) i home w
      ≡ (if eqb w v && eqb (get_or r w 0) 128 then i else get_or r w 0)
  step w h =
      ap (λ xs. noted xs i home w) (ap (λ k. take k words) (add-one d) ∙ take-suc words d 0 hd)
      ∙ noted_more (take d words) v i home w few ∙ ap (λ x. if eqb w v && eqb x 128 then i else x) (sym (H w h))

  pub note-put : length r ≡ 256 → v < 256 → get_or r v 0 ≡ 128 → (w : ℕ) → w < 256
      → get_or (set r v i) w 0 ≡ noted (take (d + 1) words) i home w
  note-put l b e w h = go (eqb_is w v) ∙ sym (step w h)
    where
      go : Whether (w ≡ v) (eqb w v)
          → get_or (set r v i) w 0 ≡ (if eqb w v && eqb (get_or r w 0) 128 then i else get_or r w 0)
      go (so p q) =
          rw (q, eq-eqb (get_or r w 0) 128 (ap (λ x. get_or r x 0) p ∙ e))
          (ap (λ x. get_or (set r v i) x 0) p ∙ get_or-set_same r v i 0 (rw l b))
      go (nay p q) = rw q (get_or-set_other r v w i 0 p)

  pub note-skip : (get_or r v 0 ≡ 128 → ⊥) → (w : ℕ) → w < 256 → get_or r w 0 ≡ noted (take (d + 1) words) i home w
  note-skip ne w h = go (eqb_is w v) ∙ sym (step w h)
    where
      go : Whether (w ≡ v) (eqb w v) → get_or r w 0 ≡ (if eqb w v && eqb (get_or r w 0) 128 then i else get_or r w 0)
      go (so p q) = rw (q, ne_eqb (get_or r w 0) 128 (λ e. ne (ap (λ x. get_or r x 0) (sym p) ∙ e)))
      go (nay p q) = rw q

-- Reading a stretch of a recording: the block that the reading rule gives is the block that was recorded.
-- In order: Reads, path→reads, reads→path, reads-length, reads_same, reads-append, reads-take, reads-drop, along_all→,
-- →along_all, reads_end, able→, →able, one→, →one, reading→, →reading, first_or_none; reading→path, path→reading;
-- stretch, at_place, one-reading.
-- Assumes nothing.
use Rattle.std.proofs.Common.{◌≡◌, ◌⊎◌, ◌&&◌, ◌∷◌, ◌++◌, ◌-◌, ◌<◌}
use Rattle.laws.proofs.All.{refl, sym, ap, ap₂, subst, subst₂, ◌∙◌, inl, inr, Bool, true, List, []}
use Rattle.laws.proofs.All.{ℕ, zero, suc, arith, T, eqb, eqb→eq, eqb_refl, length, get_or, take}
use Rattle.laws.proofs.All.{drop, length-drop, drop-cons, drop_at, length-take-le, take-append_seam, range, any, elem}
use Rattle.laws.proofs.All.{and→, →and, →any, any→, any-below→, →any-below, →or_l, tab→, →tab, member}
use Rattle.table.specs.Rows.{edge, Rows, edges, at}
use Rattle.table.specs.Paths.{Path, ends, spells, Closed}
use Rattle.codec_steps.specs.StateSets.{leads, along, along_all, one_state, able, enters}
use Rattle.codec_steps.specs.Reading.{readings, reading, mark_for}
use Rattle.codec_steps.proofs.Readings.{readings→, →readings}
use Rattle.window.proofs.Same.{Same, AgreeSame}

-- ---- a path by its data and its words
pub data Reads (g : Rows) : ℕ → List ℕ → List ℕ → Type 0 where
  end : {s : ℕ} → Reads g s [] []
  step : {s x w : ℕ} {xs ws : List ℕ} → x < length (edges g s) → (at g s x).word ≡ w
      → Reads g (at g s x).next xs ws → Reads g s (x ∷ xs) (w ∷ ws)

-- a path reads the words that it spells, and what is read is a path that spells it
pub path→reads : (g : Rows) (ds : List ℕ) (s : ℕ) → Path g s ds → Reads g s ds (spells g s ds)
path→reads g [] s p = end
path→reads g (d ∷ ds) s (h, p) = step h refl (path→reads g ds (at g s d).next p)

pub reads→path : {g : Rows} {s : ℕ} {xs ws : List ℕ} → Reads g s xs ws → Path g s xs × (spells g s xs ≡ ws)
reads→path end = (tt, refl)
reads→path (step a b h) = let (p, q) = reads→path h in ((a, p), ap₂ ◌∷◌ b q)

pub reads-length : {g : Rows} {s : ℕ} {xs ws : List ℕ} → Reads g s xs ws → length xs ≡ length ws
reads-length end = refl
reads-length (step a b h) = ap suc (reads-length h)

-- two paths with the same words
pub reads_same : {g : Rows} {s t : ℕ} {xs ys ws : List ℕ} → Reads g s xs ws → Reads g t ys ws → Same g s t xs ys
reads_same end end = tt
reads_same (step a b h) (step a' b' k) = (a, a', b ∙ sym b', reads_same h k)

pub reads-append : {g : Rows} {s : ℕ} {xs ys vs ws : List ℕ} → Reads g s xs vs → Reads g (ends g s xs) ys ws
    → Reads g s (xs ++ ys) (vs ++ ws)
reads-append end k = k
reads-append (step a b h) k = step a b (reads-append h k)

pub reads-take : {g : Rows} (k : ℕ) {s : ℕ} {xs ws : List ℕ} → Reads g s xs ws → Reads g s (take k xs) (take k ws)
reads-take zero h = end
reads-take (suc k) end = end
reads-take (suc k) (step a b h) = step a b (reads-take k h)

pub reads-drop : {g : Rows} (k : ℕ) {s : ℕ} {xs ws : List ℕ} → Reads g s xs ws
    → Reads g (ends g s (take k xs)) (drop k xs) (drop k ws)
reads-drop zero h = h
reads-drop (suc k) end = end
reads-drop (suc k) (step a b h) = reads-drop k h

-- ---- sets of states

leads→ : (g : Rows) (s w t : ℕ) → T (leads g s w t)
    → (x : ℕ) × (x < length (edges g s)) × ((at g s x).word ≡ w) × ((at g s x).next ≡ t)
leads→ g s w t h =
    let (x, a, u) = any→ (λ e. eqb e.word w && eqb e.next t) (edge 0 0) (edges g s) h in
    let (b, c) = and→ (eqb (at g s x).word w) (eqb (at g s x).next t) u in
    (x, a, eqb→eq (at g s x).word w b, eqb→eq (at g s x).next t c)

→leads : (g : Rows) (s x : ℕ) → x < length (edges g s) → T (leads g s (at g s x).word (at g s x).next)
→leads g s x a = →any _ (edge 0 0) (edges g s) x a
    (→and (eqb (at g s x).word (at g s x).word) (eqb (at g s x).next (at g s x).next) (eqb_refl (at g s x).word)
    (eqb_refl (at g s x).next))

-- ---- along words
pub along_all→ : (g : Rows) (ws : List ℕ) (S : List Bool) (t : ℕ) → T (member (along_all g S ws) t)
    → (s : ℕ) × (xs : List ℕ) × T (member S s) × Reads g s xs ws × (ends g s xs ≡ t)
along_all→ g [] S t h = (t, [], h, end, refl)
along_all→ g (w ∷ ws) S t h =
    let (s', xs, h', r, e) = along_all→ g ws (along g S w) t h in
    let (s, i, l) = any-below→ _ (length g)
    (tab→ (λ t. any (λ s. member S s && leads g s w t) (range (length g))) (length g) s' h').1 in
    let (m, l') = and→ (member S s) (leads g s w s') l in
    let (x, a, b, c) = leads→ g s w s' l' in
    (s, x ∷ xs, m, step a b (subst (λ k. Reads g k xs ws) (sym c) r), rw c e)

pub →along_all : {g : Rows} {ws xs : List ℕ} {s : ℕ} → Closed g → (S : List Bool) → s < length g → T (member S s)
    → Reads g s xs ws → T (member (along_all g S ws) (ends g s xs))
→along_all c S i h end = h
→along_all {g} {s} c S i h (step {x} {w} a b r) =
    →along_all c (along g S w) (c s x a) (→tab _ (length g) (at g s x).next (c s x a) (→any-below _ (length g) s i
    (→and (member S s) (leads g s w (at g s x).next) h
    (subst (λ v. T (leads g s v (at g s x).next)) b (→leads g s x a))))) r

pub reads_end : {g : Rows} {s : ℕ} {xs ws : List ℕ} → Closed g → s < length g → Reads g s xs ws
    → ends g s xs < length g
reads_end c i end = i
reads_end {s} c i (step {x} a b h) = reads_end c (c s x a) h

-- ---- the set holds the states from which some path spells the words
pub able→ : (g : Rows) (ws : List ℕ) (s : ℕ) → T (member (able g ws) s) → (xs : List ℕ) × Reads g s xs ws
able→ g [] s h = ([], end)
able→ g (w ∷ ws) s h =
    let (x, a, u) = any→ (enters (able g ws) w) (edge 0 0) (edges g s)
    (tab→ (λ s. any (enters (able g ws) w) (edges g s)) (length g) s h).1 in
    let (b, k) = and→ (eqb (at g s x).word w) (member (able g ws) (at g s x).next) u in
    let (xs, r) = able→ g ws (at g s x).next k in
    (x ∷ xs, step a (eqb→eq (at g s x).word w b) r)

pub →able : {g : Rows} {ws xs : List ℕ} {s : ℕ} → Closed g → s < length g → Reads g s xs ws
    → T (member (able g ws) s)
→able {g} {s} c h end = →tab (λ s. true) (length g) s h tt
→able {g} {s} c h (step {x} {w} {ws} a b r) =
    →tab (λ s. any (enters (able g ws) w) (edges g s)) (length g) s h
    (→any (enters (able g ws) w) (edge 0 0) (edges g s) x a
    (→and (eqb (at g s x).word w) (member (able g ws) (at g s x).next) (rw b (eqb_refl w)) (→able c (c s x a) r)))

-- ---- the readings

pub one→ : (g : Rows) (s t : ℕ) → T (member (one_state g s) t) → s ≡ t
one→ g s t h = eqb→eq s t (tab→ (eqb s) (length g) t h).1

pub →one : (g : Rows) (s : ℕ) → s < length g → T (member (one_state g s) s)
→one g s i = →tab (eqb s) (length g) s i (eqb_refl s)

Reading : Rows → List Bool → ℕ → List ℕ → ℕ → Type 0
Reading g S w ws d = (s : ℕ) × (ys : List ℕ) × (s < length g) × T (member S s) × (d < length (edges g s))
    × ((at g s d).word ≡ w) × Reads g (at g s d).next ys ws

reading→ : (g : Rows) (S : List Bool) (w : ℕ) (ws : List ℕ) (d : ℕ) → T (elem d (readings g S w (able g ws)))
    → Reading g S w ws d
unfolding Reading
reading→ g S w ws d h =
    let (s, n, i, a, e) = readings→ g S w (able g ws) d h in
    let (b, k) = and→ (eqb (at g s d).word w) (member (able g ws) (at g s d).next) e in
    let (ys, r) = able→ g ws (at g s d).next k in
    (s, ys, n, i, a, eqb→eq (at g s d).word w b, r)

→reading : (g : Rows) → Closed g → (S : List Bool) (w : ℕ) (ws : List ℕ) (d : ℕ) → Reading g S w ws d
    → T (elem d (readings g S w (able g ws)))
unfolding Reading
→reading g c S w ws d (s, ys, n, i, a, b, r) =
    →readings g S w (able g ws) s d n i a
    (→and (eqb (at g s d).word w) (member (able g ws) (at g s d).next) (rw b (eqb_refl w)) (→able c (c s d a) r))

-- the first of a list is in it, or the list has none and its first is the default
pub first_or_none : (l : List ℕ) (v : ℕ)
    → T (elem (get_or l 0 v) l) ⊎ (((d : ℕ) → T (elem d l) → ⊥) × (get_or l 0 v ≡ v))
first_or_none [] v = inr ((λ d h. h), refl)
first_or_none (x ∷ l) v = inl (→or_l (eqb x x) (elem x l) (eqb_refl x))

only : (l : List ℕ) (x v : ℕ) → T (elem x l) → ((d : ℕ) → T (elem d l) → d ≡ x) → get_or l 0 v ≡ x
only l x v h f = elim (first_or_none l v) [ inl k ↦ f (get_or l 0 v) k | inr (none, _) ↦ absurd (none x h) ]

-- ---- words read after the words before
module _ (g : Rows) (c : Closed g) (S : List Bool) (pre ws : List ℕ) (w : ℕ) where
  -- a datum that the rule can read lies on a path from S that reads all the words
  pub reading→path : (d : ℕ) → T (elem d (readings g (along_all g S pre) w (able g ws)))
      → (s : ℕ) × (xs : List ℕ) × T (member S s) × Reads g s xs (pre ++ w ∷ ws)
  unfolding Reading
  reading→path d h =
      let (u, ys, n, k, a, b, r) = reading→ g (along_all g S pre) w ws d h in
      let (s, us, i, q, e) = along_all→ g pre S u k in
      (s, us ++ d ∷ ys, i, reads-append q (rw e (step a b r)))

  -- and such a path has a datum that the rule can read
  pub path→reading : (s : ℕ) (xs : List ℕ) → s < length g → T (member S s) → Reads g s xs (pre ++ w ∷ ws)
      → (d : ℕ) × T (elem d (readings g (along_all g S pre) w (able g ws)))
  unfolding Reading
  path→reading s xs n i r =
      go (drop (length pre) xs) (subst (Reads g (ends g s (take (length pre) xs)) (drop (length pre) xs))
      (drop_at pre (w ∷ ws) (length pre) refl) (reads-drop (length pre) r))
    where
      before : Reads g s (take (length pre) xs) pre
      before = subst (Reads g s (take (length pre) xs)) (take-append_seam pre (w ∷ ws)) (reads-take (length pre) r)

      go : (ys : List ℕ) → Reads g (ends g s (take (length pre) xs)) ys (w ∷ ws)
          → (d : ℕ) × T (elem d (readings g (along_all g S pre) w (able g ws)))
      go [] r' = elim r' [ ]
      go (d ∷ ys) (step a b h) = (
        d,
        →reading g c (along_all g S pre) w ws d
            (ends g s (take (length pre) xs), ys, reads_end c n before, →along_all c S n i before, a, b, h),
      )

-- ---- a stretch: words before, one word, words ahead
module _ (g : Rows) (c : Closed g) (S : List Bool) (us vs : List ℕ) (x : ℕ) (pre ws : List ℕ) (w s : ℕ)
    (before : Reads g s us pre) (here : x < length (edges g (ends g s us))) (word : (at g (ends g s us) x).word ≡ w)
    (after : Reads g (at g (ends g s us) x).next vs ws)
    (agree : (t : ℕ) → T (member S t) → AgreeSame g (length pre) (length ws) t s) where
  other : (d : ℕ) → Reading g (along_all g S pre) w ws d → d ≡ x
  unfolding Reading
  other d (t', ys, n, k, a, b, r) =
      let (t, us', i, q, e) = along_all→ g pre S t' k in
      agree t i us' us ys vs d x (reads-length q) (reads-length before) (reads-length r) (reads-length after)
      (reads_same (reads-append q (rw e (step a b r))) (reads-append before (step here word after)))

  pub stretch : s < length g → T (member S s) → reading g (along_all g S pre) w ws ≡ x
  unfolding Reading
  stretch n i = only (readings g (along_all g S pre) w (able g ws)) x (mark_for g (along_all g S pre) w)
      (→reading g c (along_all g S pre) w ws x
      (ends g s us, vs, reads_end c n before, →along_all c S n i before, here, word, after))
      (λ d h. other d (reading→ g (along_all g S pre) w ws d h))

-- the same at place k of a stretch W of words
pub at_place : (g : Rows) → Closed g → (S : List Bool) (ds W : List ℕ) (k s : ℕ) → s < length g → T (member S s)
    → Reads g s ds W → k < length W
    → ((t : ℕ) → T (member S t) → AgreeSame g k (length W - suc k) t s)
    → reading g (along_all g S (take k W)) (get_or W k 0) (drop (suc k) W) ≡ get_or ds k 0
at_place g c S ds W k s n i r l agree =
    go (subst₂ (λ a b. Reads g (ends g s (take k ds)) a b) (drop-cons ds k 0 (rw (reads-length r) l))
    (drop-cons W k 0 l) (reads-drop k r))
  where
    go : Reads g (ends g s (take k ds)) (get_or ds k 0 ∷ drop (suc k) ds) (get_or W k 0 ∷ drop (suc k) W)
        → reading g (along_all g S (take k W)) (get_or W k 0) (drop (suc k) W) ≡ get_or ds k 0
    go (step a b h) =
        stretch g c S (take k ds) (drop (suc k) ds) (get_or ds k 0) (take k W) (drop (suc k) W) (get_or W k 0) s
        (reads-take k r) a b h (rw (length-take-le k W (omega arith), length-drop) agree) n i

-- two data that the rule can read after the same words are one, if all paths from S agree there
pub one-reading : (g : Rows) → Closed g → (S : List Bool) (pre ws : List ℕ) (w : ℕ)
    → ((t u : ℕ) → T (member S t) → T (member S u) → AgreeSame g (length pre) (length ws) t u)
    → (d e : ℕ) → T (elem d (readings g (along_all g S pre) w (able g ws)))
    → T (elem e (readings g (along_all g S pre) w (able g ws))) → d ≡ e
unfolding Reading
one-reading g c S pre ws w agree d e h k =
    let (t, vs, n, m, a, b, r) = reading→ g (along_all g S pre) w ws e k in
    let (s, us, i, q, p) = along_all→ g pre S t m in
    other g c S us vs e pre ws w s q (rw p a) (rw p b) (rw p r) (λ u l. agree u s l i) d
    (reading→ g (along_all g S pre) w ws d h)

-- Two edges with one word: by states, and by places, as the code marks them.
-- In order: Bytes; Two, two edges; turned; by→, →by, by places; join→, →join, clash→, →clash, the code's tests.
-- Assumes nothing.
use Rattle.std.proofs.Common.{Option, Some, None, ◌≡◌, ◌&&◌, ◌+◌, ◌*◌, ◌/◌, ◌%◌, ◌<◌}
use Rattle.laws.proofs.All.{sym, ap, subst, subst₂, ◌∙◌, Bool, true, false, not, List, ℕ}
use Rattle.laws.proofs.All.{arith, T, T_not, not_T, eqb, eqb→eq, eqb_refl, ltb→lt, and→, →and}
use Rattle.table.specs.Marks.{some}
use Rattle.table.specs.Edges.{Arrays, Fits, places, is_edge, word_of, next_of, bears}
use Rattle.table.proofs.Marks.{found, some_at}
use Rattle.table.proofs.RowsOf.{place, place-state, place-datum, place-lt, place-edge}
use Rattle.bitsets.specs.declared.BitSet.{BitSet}
use Rattle.bitsets.specs.BitSets.{holds, set_at}
use Rattle.table_words.specs.Gathered.{carries}
use Rattle.window_pairs.specs.PairSets.{takes, beyond, joins, joins_by, clashes_by}

-- the words of all edges are bytes
abbrev pub Bytes : Arrays → Type 0
Bytes t = (e : ℕ) → e < places t → is_edge t e ≡ true → word_of t e < 256

-- edges of s and u that carry d and e lead from a pair of P to x and y, with different data where they must differ
pub record Two (t : Arrays) (P : List BitSet) (apart : Bool) (x y : ℕ) : Type 0 where
  pub s : ℕ
  pub u : ℕ
  pub d : ℕ
  pub e : ℕ
  pub hs : s < t.states
  pub hu : u < t.states
  pub hd : d < t.ways
  pub he : e < t.ways
  pub inside : T (holds (set_at P s) u)
  pub differ : T apart → T (not (eqb d e))
  pub word : word_of t (s * 16 + d) ≡ word_of t (u * 16 + e)
  pub next : next_of t (s * 16 + d) ≡ x
  pub next' : next_of t (u * 16 + e) ≡ y

-- a test for two that differ, turned round
turned : (a b : ℕ) → T (not (eqb a b)) → T (not (eqb b a))
turned a b h = not_T (eqb b a) (λ e. T_not (eqb a b) h (subst (λ k. T (eqb a k)) (sym (eqb→eq b a e)) (eqb_refl a)))

-- ---- two edges by places
module _ (t : Arrays) (g : Fits t) (P : List BitSet) (apart : Bool) (x y : ℕ) (k : Option ℕ) where
  -- two edges with the word w, of which one carries k and the other does not
  by→ : (w : ℕ) → ((i j : ℕ) → T (takes k i) → T (not (carries k j)) → T apart → T (not (eqb (i % 16) (j % 16))))
      → T (joins_by t P k x y w) → Two t P apart x y
  by→ w o h =
      let (i, li, f) = found (joins t P w k x y) (places t) h in
      let beside = some (beyond t P w k (i / 16) y) (places t) in
      let (bi, f₂) = and→ (bears t w i) (takes k i && (eqb (next_of t i) x && beside)) f in
      let (ki, f₃) = and→ (takes k i) (eqb (next_of t i) x && beside) f₂ in
      let (ni, f₄) = and→ (eqb (next_of t i) x) beside f₃ in
      let (j, lj, f₅) = found (beyond t P w k (i / 16) y) (places t) f₄ in
      let inside = holds (set_at P (i / 16)) (j / 16) in
      let (bj, f₆) = and→ (bears t w j) (not (carries k j) && (inside && eqb (next_of t j) y)) f₅ in
      let (kj, f₇) = and→ (not (carries k j)) (inside && eqb (next_of t j) y) f₆ in
      let (m, nj) = and→ inside (eqb (next_of t j) y) f₇ in
      let (ei, wi) = and→ (is_edge t i) (eqb (word_of t i) w) bi in
      let (ej, wj) = and→ (is_edge t j) (eqb (word_of t j) w) bj in
      record {
        s = i / 16;
        u = j / 16;
        d = i % 16;
        e = j % 16;
        hs = omega arith;
        hu = omega arith;
        hd = ltb→lt (i % 16) t.ways ei;
        he = ltb→lt (j % 16) t.ways ej;
        inside = m;
        differ = o i j ki kj;
        word = ap (word_of t) (place i) ∙ eqb→eq (word_of t i) w wi ∙ sym (eqb→eq (word_of t j) w wj)
            ∙ ap (word_of t) (sym (place j));
        next = ap (next_of t) (place i) ∙ eqb→eq (next_of t i) x ni;
        next' = ap (next_of t) (place j) ∙ eqb→eq (next_of t j) y nj;
      }

  →by : (r : Two t P apart x y) → T (takes k (r.s * 16 + r.d)) → T (not (carries k (r.u * 16 + r.e)))
      → T (joins_by t P k x y (word_of t (r.s * 16 + r.d)))
  →by r ki kj =
      let i = r.s * 16 + r.d in
      let j = r.u * 16 + r.e in
      let w = word_of t i in
      let beside = some (beyond t P w k (i / 16) y) (places t) in
      let inside = holds (set_at P (i / 16)) (j / 16) in
      some_at (joins t P w k x y) (places t) i (place-lt t r.s r.d g r.hs r.hd)
      (→and (bears t w i) (takes k i && (eqb (next_of t i) x && beside))
      (→and (is_edge t i) (eqb (word_of t i) w) (rw (place-edge t r.s r.d g r.hs r.hd) tt) (eqb_refl w))
      (→and (takes k i) (eqb (next_of t i) x && beside) ki
      (→and (eqb (next_of t i) x) beside (rw r.next (eqb_refl x))
      (some_at (beyond t P w k (i / 16) y) (places t) j (place-lt t r.u r.e g r.hu r.he)
      (→and (bears t w j) (not (carries k j) && (inside && eqb (next_of t j) y))
      (→and (is_edge t j) (eqb (word_of t j) w) (rw (place-edge t r.u r.e g r.hu r.he) tt)
      (rw r.word (eqb_refl (word_of t j))))
      (→and (not (carries k j)) (inside && eqb (next_of t j) y)
      kj
      (→and inside (eqb (next_of t j) y)
      (subst₂ (λ a b. T (holds (set_at P a) b)) (sym (place-state t r.s r.d g r.hs r.hd))
      (sym (place-state t r.u r.e g r.hu r.he)) r.inside)
      (rw r.next' (eqb_refl y)))))))))

-- ---- the code's tests
module _ (t : Arrays) (g : Fits t) (l : Bytes t) (P : List BitSet) (x y : ℕ) where
  -- the word of the first of two edges is a byte
  byte : (apart : Bool) (r : Two t P apart x y) → word_of t (r.s * 16 + r.d) < 256
  byte apart r = l (r.s * 16 + r.d) (place-lt t r.s r.d g r.hs r.hd)
      (place-edge t r.s r.d g r.hs r.hd)

  pub join→ : T (some (joins_by t P None x y) 256) → Two t P false x y
  join→ h =
      let (w, lw, f) = found (joins_by t P None x y) 256 h in
      by→ t g P false x y None w (λ i j p q a. absurd a) f

  pub →join : Two t P false x y → T (some (joins_by t P None x y) 256)
  →join r = some_at (joins_by t P None x y) 256 (word_of t (r.s * 16 + r.d)) (byte false r)
      (→by t g P false x y None r tt tt)

  pub clash→ : T (some (clashes_by t P x y) 256) → Two t P true x y
  clash→ h =
      let (w, lw, f) = found (clashes_by t P x y) 256 h in
      let (d, ld, f₂) = found (λ d. joins_by t P (Some d) x y w) t.ways f in
      by→ t g P true x y (Some d) w
      (λ i j p q a. turned (j % 16) (i % 16) (subst (λ k. T (not (eqb (j % 16) k))) (sym (eqb→eq (i % 16) d p)) q)) f₂

  pub →clash : Two t P true x y → T (some (clashes_by t P x y) 256)
  →clash r = some_at (clashes_by t P x y) 256 (word_of t (r.s * 16 + r.d)) (byte true r)
      (some_at (λ d. joins_by t P (Some d) x y (word_of t (r.s * 16 + r.d))) t.ways r.d r.hd
      (→by t g P true x y (Some r.d) r
      (rw (place-datum t r.s r.d g r.hs r.hd) (eqb_refl r.d))
      (rw (place-datum t r.u r.e g r.hu r.he) (turned r.d r.e (r.differ tt)))))

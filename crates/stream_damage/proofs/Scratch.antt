-- A scratch across woven recordings: overwriting D neighbouring places touches at most one word of each recording, and
-- that word reaches few blocks.
-- In order: one-word-each; below-part; scratch.
-- Assumes nothing.
use Rattle.std.proofs.Common.{◌≡◌, ◌⊎◌, ◌+◌, ◌-◌, ◌*◌, ◌/◌, ◌^◌, ◌≤◌, ◌<◌}
use Rattle.laws.proofs.All.{sym, subst, ◌∙◌, inl, inr, List, ℕ, suc, arith}
use Rattle.laws.proofs.All.{dec_lt, T, length, get_or, pow_pos, Below, below_all, below-any, le-div_iff_mul-le}
use Rattle.laws.proofs.All.{div-lt_iff_lt-mul}
use Rattle.answer.specs.Outcomes.{done}
use Rattle.table.specs.Rows.{Code}
use Rattle.table.specs.Paths.{Blocks, recording}
use Rattle.record_check.specs.Parse.{parse}
use Rattle.weaving.specs.Weaving.{woven, unwoven, part, good_depth}
use Rattle.weaving.proofs.Weaving.{part_at, part-past, length_part, depth→, length-woven, length-unwoven}
use Rattle.weaving.proofs.Weaving.{weave-places, unweave-places}
use Rattle.codec.specs.Answers.{decode_under}
use Rattle.codec.specs.Damage.{SameOutside, differences}
use Rattle.codec.proofs.Differences.{one_word}

module _ (D : ℕ) (ws W : List ℕ) (good : T (good_depth D (length ws))) (long : length W ≡ length ws) (r : ℕ)
    (h : r < D) where
  abbrev k : ℕ
  k = length ws / D

  good_w : T (good_depth D (length W))
  good_w = subst (λ n. T (good_depth D n)) (sym long) good

  -- word j of recording r, from where it was woven to
  back_at : (j : ℕ) → j < k → get_or (part k r (unwoven D W)) j 0 ≡ get_or W (j * D + r) 0
  back_at j l =
      part_at k r (unwoven D W) j l
      ∙ subst (λ n. (j < n / D) → get_or (unwoven D W) (r * (n / D) + j) 0 ≡ get_or W (j * D + r) 0) long
      (unweave-places D W good_w r j h) l

  -- the words of a recording are words of W
  below-part : (n : ℕ) → 0 < n → Below n W → Below n (part k r (unwoven D W))
  below-part n z b =
      below_all n (part k r (unwoven D W))
      (λ j. elim (dec_lt j k) [
        | yes l ↦ subst (λ v. v < n) (sym (back_at j l)) (below-any n W (j * D + r) z b)
        | no l ↦ subst (λ v. v < n) (sym (part-past k r (unwoven D W) j (omega arith))) z
      ])

  -- a word that was woven to a place before x or after y
  same_word : (x y : ℕ) → SameOutside x y W (woven D ws) → (j : ℕ) → (j * D + r < x) ⊎ (y < j * D + r)
      → get_or (part k r (unwoven D W)) j 0 ≡ get_or (part k r ws) j 0
  same_word x y s j o = elim (dec_lt j k) [
    | yes l ↦ back_at j l
        ∙ elim o [ inl b ↦ s.before (j * D + r) b | inr b ↦ s.behind (j * D + r) b ]
        ∙ weave-places D ws good r j h l ∙ sym (part_at k r ws j l)
    | no l ↦ part-past k r (unwoven D W) j (omega arith) ∙ sym (part-past k r ws j (omega arith))
  ]

  -- the one word of recording r that lies in places x to x + D − 1
  only-word : (x : ℕ) → SameOutside x (x + D - 1) W (woven D ws)
      → let y = (x + (D - 1 - r)) / D in SameOutside y y (part k r (unwoven D W)) (part k r ws)
  only-word x s =
      let n = x + (D - 1 - r) in
      let d : 0 < D = omega arith in
      let whole : length ws ≡ D * k = (depth→ D (length ws) good).2 in
      record {
        long = length_part k r (unwoven D W) D (length-unwoven D W good_w ∙ long ∙ whole) h
            ∙ sym (length_part k r ws D whole h);
        before = λ j l. same_word x (x + D - 1) s j
            (inl (omega (arith, (le-div_iff_mul-le {k = D} {x = suc j} {y = n} d).0 l)));
        behind = λ j l. same_word x (x + D - 1) s j
            (inr (omega (arith, (div-lt_iff_lt-mul {k = D} {x = n} {y = j} d).0 l)));
      }

-- "Overwriting at most D neighbouring places" "touches at most one word of each recording"
pub one-word-each : (D : ℕ) (ws W : List ℕ) → T (good_depth D (length ws)) → (x : ℕ)
    → SameOutside x (x + D - 1) W (woven D ws) → (r : ℕ) → r < D → let k = length ws / D in
    (y : ℕ) × SameOutside y y (part k r (unwoven D W)) (part k r ws)
one-word-each D ws W good x s r h =
    ((x + (D - 1 - r)) / D, only-word D ws W good (s.long ∙ length-woven D ws good) r h x s)

module _ (rec : List ℕ) (bytes : Below 256 rec) (c : Code) (read : parse rec ≡ done c) where
  -- "so in each at most m + a + 1 blocks can come out otherwise than written"
  pub scratch : (D : ℕ) (ws W : List ℕ) → T (good_depth D (length ws)) → Below (2 ^ c.q) W → (x : ℕ)
      → SameOutside x (x + D - 1) W (woven D ws) → (r : ℕ) → r < D → (ds : List ℕ) → Blocks c ds
      → part (length ws / D) r ws ≡ recording c ds → (room : ℕ) → length ds ≤ room
      → (out : List ℕ) × (decode_under rec room (part (length ws / D) r (unwoven D W)) ≡ done out)
      × (differences out ds ≤ c.window.memory + c.window.lookahead + 1)
  scratch D ws W good w x s r h ds b e room l =
      let L = part (length ws / D) r (unwoven D W) in
      let (y, o) = one-word-each D ws W good x s r h in
      one_word rec bytes c read ds L b
      (below-part D ws W good (s.long ∙ length-woven D ws good) r h (2 ^ c.q) (pow_pos c.q) w) y room
      (subst (λ R. SameOutside y y L R) e o) l

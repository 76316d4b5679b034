-- The diagram of the code that a table stands for.
-- In order: opens-so, opens_not; others-none, others-joined, others_apart; arrows-none, arrows-open,
-- arrows-same; diagram-is, diagram-drawn, matrix-drawn, nothing-drawn.
-- Assumes nothing.
use Rattle.std.proofs.Common.{◌≡◌, ◌&&◌, ◌∷◌, ◌++◌, ◌+◌, ◌*◌, ◌/◌, ◌%◌, ◌^◌, ◌≤◌, ◌<◌, if◌then◌else◌}
use Rattle.laws.proofs.All.{refl, sym, ap, ap₂, subst, ◌∙◌, true, false, not, and-false, List, []}
use Rattle.laws.proofs.All.{append-nil, ℕ, zero, suc, arith, lt-ltb}
use Rattle.laws.proofs.All.{le-ltb, lt-leb, le-leb, eqb, ltb, concat, any-range-same, concat-more}
use Rattle.constraint.proofs.Values.{map_below}
use Rattle.table.specs.declared.Table.{Table}
use Rattle.table.specs.Edges.{lent}
use Rattle.table.specs.Marks.{some}
use Rattle.table.specs.Rows.{at}
use Rattle.table.specs.Value.{word_at, next_at, code_in, ready}
use Rattle.table.proofs.Marks.{some-stop}
use Rattle.table.proofs.RowsOf.{length-rows, row-long, edge-at}
use Rattle.text.specs.Texts.{bytes}
use Rattle.text.specs.Words.{binary}
use Rattle.sentences.specs.Sentences.{said}
use Rattle.view_draw.specs.Drawn.{joined, opens, other, others, arrow_head, arrow_text, arrow}
use Rattle.view_draw.specs.Drawn.{arrow_of, table_arrow, arrows_to, opening, diagram, drawn, draw_text}
use Rattle.view_matrix.specs.Matrix.{matrix}
use Rattle.view_listing.proofs.Edges.{edges_are}

-- ---- the first datum of an arrow
pub opens-so : (next : ℕ → ℕ) (d : ℕ) → some (joined next d) d ≡ false → true ≡ opens next d
unfolding opens
opens-so next d e = sym (ap not e)

pub opens_not : (next : ℕ → ℕ) (d j : ℕ) → j < d → joined next d j ≡ true → false ≡ opens next d
unfolding opens
opens_not next d j h e = sym (ap not (some-stop (joined next d) d j h e))

-- ---- the other data of a label
module _ (q : ℕ) (word next : ℕ → ℕ) (d : ℕ) where
  other-before : (j : ℕ) → j ≤ d → other q word next d j ≡ []
  unfolding other
  other-before j h = rw (le-ltb d j h)

  other-apart : (j : ℕ) → joined next d j ≡ false → other q word next d j ≡ []
  unfolding other
  other-apart j e = rw (e, and-false (ltb d j))

  other-joined : (j : ℕ) → d < j → joined next d j ≡ true
      → other q word next d j ≡ said ", #/" (j ∷ []) ++ binary q (word j)
  unfolding other
  other-joined j h e = rw (lt-ltb d j h, e)

  others-more : (n : ℕ) → others q word next d (n + 1) ≡ others q word next d n ++ other q word next d n
  unfolding others
  others-more n = concat-more (other q word next d) n

  -- the data up to d add nothing
  pub others-none : (k : ℕ) → k ≤ d + 1 → [] ≡ others q word next d k
  unfolding others
  others-none zero h = refl
  others-none (suc k) h =
      let z : suc k ≡ k + 1 = omega arith in
      sym (ap (others q word next d) z ∙ others-more k
      ∙ ap₂ ◌++◌ (sym (others-none k (omega arith))) (other-before k (omega arith)))

  pub others-joined : (n : ℕ) → d < n → joined next d n ≡ true
      → others q word next d n ++ (said ", #/" (n ∷ []) ++ binary q (word n)) ≡ others q word next d (n + 1)
  others-joined n h e = sym (others-more n ∙ ap (λ l. others q word next d n ++ l) (other-joined n h e))

  pub others_apart : (n : ℕ) → joined next d n ≡ false → others q word next d n ≡ others q word next d (n + 1)
  others_apart n e =
      let l = others q word next d n in
      sym (others-more n ∙ ap (λ o. l ++ o) (other-apart n e) ∙ append-nil l)

-- ---- an arrow
arrow-open : (q n : ℕ) (word next : ℕ → ℕ) (s d : ℕ) → opens next d ≡ true
    → arrow q n word next s d ≡ arrow_text q n word next s d
unfolding arrow
arrow-open q n word next s d e = rw e

arrow-none : (q n : ℕ) (word next : ℕ → ℕ) (s d : ℕ) → opens next d ≡ false → arrow q n word next s d ≡ []
unfolding arrow
arrow-none q n word next s d e = rw e

-- words and next states that are the same below n give the same arrow
arrow-same : (q n : ℕ) (w v x y : ℕ → ℕ) (s d : ℕ) → ((j : ℕ) → j < n → w j ≡ v j) → ((j : ℕ) → j < n → x j ≡ y j)
    → d < n → arrow q n w x s d ≡ arrow q n v y s d
unfolding arrow other others opens some
arrow-same q n w v x y s d words nexts h =
    ap₂ (λ b l. if not b then l else [])
    (any-range-same (joined x d) (joined y d) d (λ j l. ap₂ eqb (nexts j (omega arith)) (nexts d h)))
    (ap₂ (λ a l. a ++ concat l ++ bytes "\"];\n")
    (ap₂ (λ a b. arrow_head s b d ++ binary q a) (words d h) (nexts d h))
    (map_below [] (other q w x d) (other q v y d) n (λ j l.
    ap₂ (λ a b. if ltb d j && b then said ", #/" (j ∷ []) ++ binary q a else []) (words j l)
    (ap₂ eqb (nexts j l) (nexts d h)))))

-- ---- the arrows of a table
module _ (t : Table) where
  pub arrows-none : [] ≡ arrows_to t 0
  unfolding arrows_to
  arrows-none = refl

  arrows-more : (n e : ℕ) → n ≡ 2 ^ t.p
      → arrows_to t (e + 1) ≡ arrows_to t e ++ arrow t.q n (word_at t (e / n)) (next_at t (e / n)) (e / n) (e % n)
  unfolding arrows_to
  arrows-more n e p =
      concat-more (λ i. table_arrow t (i / 2 ^ t.p) (i % 2 ^ t.p)) e
      ∙ ap (λ m. arrows_to t e ++ arrow t.q m (word_at t (e / m)) (next_at t (e / m)) (e / m) (e % m)) (sym p)

  pub arrows-open : (n e : ℕ) → n ≡ 2 ^ t.p → opens (next_at t (e / n)) (e % n) ≡ true
      → arrows_to t e ++ arrow_text t.q n (word_at t (e / n)) (next_at t (e / n)) (e / n) (e % n) ≡ arrows_to t (e + 1)
  arrows-open n e p h =
      sym (arrows-more n e p ∙ ap (λ l. arrows_to t e ++ l)
      (arrow-open t.q n (word_at t (e / n)) (next_at t (e / n)) (e / n) (e % n) h))

  pub arrows-same : (n e : ℕ) → n ≡ 2 ^ t.p → opens (next_at t (e / n)) (e % n) ≡ false
      → arrows_to t e ≡ arrows_to t (e + 1)
  arrows-same n e p h =
      sym (arrows-more n e p ∙ ap (λ l. arrows_to t e ++ l)
      (arrow-none t.q n (word_at t (e / n)) (next_at t (e / n)) (e / n) (e % n) h) ∙ append-nil (arrows_to t e))

  same : (s d : ℕ) → s < t.states → d < 2 ^ t.p → arrow_of (code_in t) s d ≡ table_arrow t s d
  same s d h l =
      ap (λ n. arrow t.q n (λ j. (at (code_in t).table s j).word) (λ j. (at (code_in t).table s j).next) s d)
      (row-long (lent t) s h)
      ∙ arrow-same t.q (2 ^ t.p) (λ j. (at (code_in t).table s j).word) (word_at t s)
      (λ j. (at (code_in t).table s j).next) (next_at t s) s d
      (λ j k. ap (λ x. x.word) (edge-at (lent t) s j h k)) (λ j k. ap (λ x. x.next) (edge-at (lent t) s j h k)) l

  -- THEOREM: the diagram has its opening, all arrows in order and the closing brace
  pub diagram-is : (n : ℕ) → n ≡ 2 ^ t.p
      → opening ++ arrows_to t (t.states * n) ++ bytes "}\n" ≡ diagram (code_in t)
  unfolding diagram arrows_to
  diagram-is n p =
      ap (λ l. opening ++ l ++ bytes "}\n") (edges_are t (arrow_of (code_in t)) (table_arrow t) same n p)

  pub diagram-drawn : ready t ≡ true → t.states ≤ 24 → diagram (code_in t) ≡ draw_text t
  unfolding draw_text drawn
  diagram-drawn e h = rw (e, length-rows (lent t), le-leb t.states 24 h)

  pub matrix-drawn : ready t ≡ true → 24 < t.states → matrix (code_in t) ≡ draw_text t
  unfolding draw_text drawn
  matrix-drawn e h = rw (e, length-rows (lent t), lt-leb t.states 24 h)

  pub nothing-drawn : ready t ≡ false → [] ≡ draw_text t
  unfolding draw_text
  nothing-drawn e = rw e

-- The loop over the states: the columns hold the rows that have their data, and then those that wait for them.
-- In order: Relabels; relabelled-start, relabels-start; worded-front, state-onto, relabels-more, one state;
-- relabels-end.
-- Assumes nothing.
use Rattle.std.proofs.Common.{◌≡◌, ◌∷◌, ◌++◌, ◌+◌, ◌≤◌, ◌<◌}
use Rattle.laws.proofs.All.{refl, sym, ap, ap₂, subst, ◌∙◌, List, [], append-nil, map, ℕ, suc}
use Rattle.laws.proofs.All.{add-one, arith, lit<, T, length, get_or, take, drop, set, replicate, length-take-le}
use Rattle.laws.proofs.All.{take-append-drop, take_all, take_at, take-suc, drop-cons, drop_of_length-le, get_or_at}
use Rattle.laws.proofs.All.{put-at, range, elem, extend-start}
use Rattle.table.specs.Rows.{Rows, edges, words_of}
use Rattle.table.specs.Paths.{Full}
use Rattle.table.specs.Edges.{Arrays, arrays, row_of, rows_of}
use Rattle.table.proofs.RowsOf.{length-rows, row-at, row-long}
use Rattle.compile_labels.specs.Labels.{data_of, bearer, relabelled_row, relabelled}
use Rattle.compile_labels.specs.Parts.{row_at, Worded, Homes, noted, Reordered}
use Rattle.compile_labels.proofs.Data.{data-length, data-onto}
use Rattle.compile_labels.proofs.Labels.{relabelled-length, labels-row}
use Rattle.compile_labels.proofs.Columns.{length-row, worded-rows, words_row, reordered-row, reordered-rows}
use Rattle.compile_labels.proofs.Homes.{homes_none, homes_more}

-- the states below i of the table t have their data, and a state that waits finds the homes of all before it
pub record Relabels (n count : ℕ) (t : Rows) (i : ℕ) (word next home : List ℕ) : Type 0 where
  pub long_w : length word ≡ 2048
  pub long_n : length next ≡ 2048
  pub rows : rows_of (arrays count n word next) ≡ take i (relabelled n t) ++ drop i t
  pub homes : i < count → Homes (take i (relabelled n t)) home

relabelled-start : (n : ℕ) (t : Rows) → take 1 (relabelled n t) ≡ take 1 t
unfolding relabelled
relabelled-start n [] = refl
relabelled-start n (es ∷ rest) = extend-start (relabelled_row n) (es ∷ []) rest

module _ (n count : ℕ) (word₀ next₀ : List ℕ) (few : n ≤ 16) (small : count ≤ 128) where
  abbrev A₀ : Arrays
  A₀ = arrays count n word₀ next₀

  abbrev t : Rows
  t = rows_of A₀

  abbrev R : Rows
  R = relabelled n t

  length_R : length R ≡ count
  length_R = relabelled-length n t ∙ length-rows A₀

  full : Full n t
  full s h = row-long A₀ s (rw (length-rows A₀) at h)

  pub relabels-start : (home : List ℕ) → length word₀ ≡ 2048 → length next₀ ≡ 2048
      → ((w : ℕ) → w < 256 → get_or home w 0 ≡ noted (take n (row_at word₀ 0)) 0 (replicate 256 128) w)
      → Relabels n count t 1 word₀ next₀ home
  relabels-start home lw ln e = record {
    long_w = lw;
    long_n = ln;
    rows = sym (ap (λ l. l ++ drop 1 t) (relabelled-start n t) ∙ take-append-drop 1 t);
    homes = λ h. subst (λ r. Homes r home) (sym (front h))
        (homes_more [] (row_of A₀ 0) 0 (replicate 256 128) home refl (lit< tt) homes_none
        (λ w k. e w k ∙ ap (λ ws. noted ws 0 (replicate 256 128) w) (sym (words_row A₀ 0 few (lit< tt) lw))));
  }
    where
      front : 1 < count → take 1 R ≡ row_of A₀ 0 ∷ []
      front h =
          relabelled-start n t ∙ take-suc t 0 [] (rw (length-rows A₀) (omega arith))
          ∙ ap (λ es. es ∷ []) (row-at A₀ 0 (omega arith))

  -- ---- one state
  module _ (i : ℕ) (word next home : List ℕ) (pos : 1 ≤ i) (hi : i < count)
      (I : Relabels n count t i word next home) where
    abbrev A : Arrays
    A = arrays count n word next

    abbrev E : Rows
    E = take i R

    length-E : length E ≡ i
    length-E = length-take-le i R (rw length_R (omega arith))

    -- the row of state i is still to do
    row-left : row_of A i ≡ edges t i
    row-left =
        sym (row-at A i hi) ∙ ap (λ r. edges r i) I.rows
        ∙ ap (λ l. edges (E ++ l) i) (drop-cons t i [] (rw (length-rows A₀) hi))
        ∙ get_or_at E (edges t i) (drop (suc i) t) [] i length-E

    pub worded-front : Worded n E word
    worded-front =
        subst (λ r. Worded n r word) (ap (take i) I.rows ∙ take_at E (drop i t) i length-E) (worded-rows A i small)

    module _ (ds : List ℕ) (e : take n ds ≡ data_of n E (take n (row_at word i))) where
      words_long : length (take n (row_at word i)) ≡ n
      words_long = length-take-le n (row_at word i) (rw (length-row word i I.long_w (omega arith)) few)

      pub state-onto : (d : ℕ) → d < n → T (elem d (take n ds))
      state-onto d h = subst (λ l. T (elem d l)) (sym e) (data-onto n E (take n (row_at word i)) words_long d h)

      data_is : take n ds ≡ data_of n E (words_of (edges t i))
      data_is =
          e ∙ ap (data_of n E) (sym (words_row A i few (omega arith) I.long_w) ∙ ap words_of row-left)

      module _ (word' next' home' : List ℕ) (a : Reordered n i (take n ds) word word')
          (b : Reordered n i (take n ds) next next')
          (c : (w : ℕ) → w < 256 → get_or home' w 0 ≡ noted (take n (row_at word' i)) i home w) where
        abbrev A' : Arrays
        A' = arrays count n word' next'

        row_done : row_of A' i ≡ edges R i
        row_done =
            reordered-row count n i (take n ds) word next word' next' few a b
            (ap length e ∙ data-length n E (take n (row_at word i)) words_long) state-onto
            ∙ ap₂ (λ es D. map (bearer es D) (range n)) row-left data_is
            ∙ sym (labels-row n t full i pos (rw (length-rows A₀) hi))

        front-more : take (i + 1) R ≡ E ++ row_of A' i ∷ []
        front-more =
            ap (λ k. take k R) (add-one i) ∙ take-suc R i [] (rw length_R hi) ∙ ap (λ es. E ++ es ∷ []) (sym row_done)

        pub relabels-more : Relabels n count t (i + 1) word' next' home'
        relabels-more = record {
          long_w = a.long;
          long_n = b.long;
          rows =
              reordered-rows count n i (take n ds) word next word' next' few a b hi
              ∙ ap (λ r. set r i (row_of A' i)) I.rows
              ∙ put-at [] E t i (row_of A' i) length-E (rw (length-rows A₀) hi)
              ∙ ap (λ l. l ++ drop (i + 1) t) (sym front-more);
          homes = λ _. subst (λ r. Homes r home') (sym front-more)
              (homes_more E (row_of A' i) i home home' length-E (omega arith) (I.homes hi)
              (λ w h. c w h ∙ ap (λ ws. noted ws i home w) (sym (words_row A' i few (omega arith) a.long))));
        }

  pub relabels-end : (i : ℕ) (word next home : List ℕ) → count ≤ i → Relabels n count t i word next home
      → rows_of (arrays count n word next) ≡ R
  relabels-end i word next home h I =
      I.rows
      ∙ ap₂ (λ a b. a ++ b) (take_all i R (rw length_R h)) (drop_of_length-le t {i = i} (rw (length-rows A₀) h))
      ∙ append-nil R

-- The graph of words, read off the power table.
-- In order: out-tabled; between-count; tabled-power, the table of a constraint.
-- Assumes nothing.
use Rattle.std.proofs.Common.{◌≡◌, ◌∷◌, ◌^◌, ◌<◌}
use Rattle.laws.proofs.All.{refl, sym, ap, ◌∙◌, List, [], map, ℕ, eq-eqb, ne_eqb, T, eqb→eq}
use Rattle.laws.proofs.All.{length, length-map, range, filter, concat, pick-range, filter_map, filter-filter}
use Rattle.laws.proofs.All.{filter-both, map-range-same}
use Rattle.constraint.specs.Walking.{Constraint, walk}
use Rattle.compile_graph.specs.Arcs.{Arc, arc, leaves, enters, out, word_from, words_from, leads_on, power}
use Rattle.compile_graph.specs.Weights.{words_between}
use Rattle.compile_weights.specs.PowerTable.{entry_at, word_at, words_at, tabled, word_leads, word_count}

module _ (P : List ℕ) (words : ℕ) where
  words-leave : (s j : ℕ) (l : List ℕ) → (j ≡ s → ⊥) → filter (leaves s) (map (word_at P j) l) ≡ []
  words-leave s j [] h = refl
  words-leave s j (w ∷ l) h = rw (ne_eqb j s h) (words-leave s j l h)

  words-own : (s : ℕ) (l : List ℕ) → filter (leaves s) (map (word_at P s) l) ≡ map (word_at P s) l
  words-own s [] = refl
  words-own s (w ∷ l) = rw (eq-eqb s s refl) (ap (λ y. word_at P s w ∷ y) (words-own s l))

  module _ (K : ℕ) where
    pub out-tabled : (s : ℕ) → s < K → out (tabled P words K) s ≡ filter leads_on (words_at P words s)
    unfolding tabled
    out-tabled s h =
        filter-filter (leaves s) leads_on (concat (map (words_at P words) (range K)))
        ∙ ap (filter leads_on) (pick-range (leaves s) (words_at P words) s (words-own s (range words))
        (λ j e. words-leave s j (range words) e) K h)

    pub between-count : (s t : ℕ) → s < K → (t ≡ 255 → ⊥) → words_between (tabled P words K) s t ≡ word_count P words s
        t
    unfolding word_count
    between-count s t h d =
        ap (λ l. length (filter (enters t) l)) (out-tabled s h)
        ∙ ap length (filter-both (enters t) leads_on on (words_at P words s)
        ∙ filter_map (enters t) (word_at P s) (range words))
        ∙ length-map (filter (word_leads P s t) (range words)) (word_at P s)
      where
        on : (e : Arc) → T (enters t e) → T (leads_on e)
        on e u = rw (ne_eqb e.target 255 (λ q. d (sym (eqb→eq e.target t u) ∙ q))) tt

-- the table that holds where each word leads gives the words that the constraint allows
pub tabled-power : (c : Constraint) (q : ℕ) (P : List ℕ)
    → ((s w : ℕ) → s < length c → w < 2 ^ q → entry_at P s w ≡ walk c q w s) → tabled P (2 ^ q) (length c) ≡ power c q
unfolding tabled power
tabled-power c q P h =
    ap (λ l. filter leads_on (concat l))
    (map-range-same (words_at P (2 ^ q)) (words_from c q) (length c)
    (λ s b. map-range-same (word_at P s) (word_from c q s) (2 ^ q) (λ w k. ap (arc s w) (h s w b k))))

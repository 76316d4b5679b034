-- The edges of a run of keys.
-- In order: keys_text, keys-more, kept-told, one after the other.
-- Assumes nothing.
use Rattle.std.proofs.Common.{◌≡◌, ◌+◌, ◌≤◌}
use Rattle.laws.proofs.All.{refl, sym, ap, ◌∙◌, List, map, ℕ, arith, length, get_or, range, concat}
use Rattle.laws.proofs.All.{is-map, map-map, concat-more}
use Rattle.compile_order.specs.EdgeKeys.{arc_of}
use Rattle.text.specs.Texts.{Added}
use Rattle.text.proofs.Adding.{added-same, ◌then◌}
use Rattle.trace_splits.specs.SplitText.{arc_text}
use Rattle.trace_splits.specs.ChoiceParts.{key_text}

-- the edges of the first i keys
abbrev pub keys_text : ℕ → List ℕ → ℕ → List ℕ
keys_text q l i = concat (map (λ j. key_text q (get_or l j 0)) (range i))

pub keys-more : (q : ℕ) (l : List ℕ) (i : ℕ) {at m r : ℕ} {B C D : List ℕ} → Added (keys_text q l i) at B C m
    → Added (key_text q (get_or l i 0)) m C D r → Added (keys_text q l (i + 1)) at B D r
keys-more q l i a b = added-same (sym (concat-more (λ j. key_text q (get_or l j 0)) i)) (a then b)

-- THEOREM: all together are those of the run
pub kept-told : (q s : ℕ) (l : List ℕ) (i : ℕ) → i ≤ length l → length l ≤ i
    → {at r : ℕ} {B C : List ℕ} → Added (keys_text q l i) at B C r
    → Added (concat (map (arc_text q) (map (arc_of s) l))) at B C r
kept-told q s l i a b =
    let e : i ≡ length l = omega arith in
    let keys : l ≡ map (λ j. get_or l j 0) (range (length l)) =
    is-map 0 (λ j. get_or l j 0) (length l) l refl (λ j b. refl) in
    added-same (ap (keys_text q l) e ∙ sym (ap (λ k. concat (map (arc_text q) (map (arc_of s) k))) keys
    ∙ ap (λ k. concat (map (arc_text q) k)) (map-map (arc_of s) _ (range (length l)))
    ∙ ap concat (map-map (arc_text q) _ (range (length l)))))

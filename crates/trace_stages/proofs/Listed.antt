-- Numbers with a blank in front of each are a sentence.
-- In order: items, items-long; listed-told, component-told.
-- Assumes nothing.
use Rattle.std.proofs.Common.{◌≡◌, ◌∷◌, ◌++◌, ◌*◌, ◌≤◌}
use Rattle.laws.proofs.All.{refl, sym, ap, ◌∙◌, List, [], ℕ, zero, suc, arith, length, get_or}
use Rattle.laws.proofs.All.{take, length-take-le}
use Rattle.text.specs.Texts.{bytes, Added}
use Rattle.text.specs.Words.{told}
use Rattle.text.proofs.Adding.{added-same, ◌then◌}
use Rattle.sentences.specs.Sentences.{sentence, said}
use Rattle.trace_stages.specs.StageText.{listed, component_line}

-- a pattern of n numbers
abbrev pub items : ℕ → List ℕ
items zero = []
items (suc n) = 32 ∷ 35 ∷ items n

pub items-long : (k : ℕ) → k ≤ 16 → 2 * k ≡ length (take (2 * k) (items 16))
items-long k h = sym (length-take-le (2 * k) (items 16) (omega arith))

-- the pattern cut after its number k
listed-items : (n k : ℕ) (l : List ℕ) → k ≤ n → k ≤ length l → sentence (take (2 * k) (items n)) l ≡ listed (take k l)
unfolding listed
listed-items n zero l h b = refl
listed-items zero (suc k) l h b = absurd (omega arith)
listed-items (suc n) (suc k) [] h b = absurd (omega arith)
listed-items (suc n) (suc k) (x ∷ l) h b =
    let e : 2 * suc k ≡ suc (suc (2 * k)) = omega arith in
    ap (λ m. sentence (take m (items (suc n))) (x ∷ l)) e
    ∙ ap (λ t. told " " x ++ t) (listed-items n k l (omega arith) (omega arith))

-- THEOREM: the first k of 16 numbers
pub listed-told : (k : ℕ) (l : List ℕ) → k ≤ 16 → length l ≡ 16 → {at r : ℕ} {B C : List ℕ}
    → Added (sentence (take (2 * k) (items 16)) l) at B C r → Added (listed (take k l)) at B C r
listed-told k l h e = added-same (listed-items 16 k l h (omega arith))

-- THEOREM: the component starts with its first state
pub component-told : (C : List ℕ) (start total : ℕ) → start ≡ get_or C 0 0 → {at m r : ℕ} {B D E : List ℕ}
    → Added (bytes "component of states" ++ listed C) at B D m
    → Added (said ", start #, total weight #\n" (start ∷ total ∷ [])) m D E r → Added (component_line C total) at B E r
unfolding component_line
component-told C start total e a b =
    a then added-same (ap (λ s. said ", start #, total weight #\n" (s ∷ total ∷ [])) e) b

-- A sentence grows by what stands for the next byte of its pattern.
-- In order: used; sentence-more, used-more; takes-le, used_le; sentence-next, used-next, used-fits, along the
-- pattern.
-- Assumes nothing.
use Rattle.std.proofs.Common.{◌≡◌, ◌∷◌, ◌++◌, ◌+◌, ◌≤◌, ◌<◌, if◌then◌else◌}
use Rattle.laws.proofs.All.{sym, ap, ◌∙◌, Bool, true, false, List, [], append_assoc, append-nil}
use Rattle.laws.proofs.All.{ℕ, suc, arith, eqb, length, take, drop, get_or, length-take-le, get_or-drop}
use Rattle.laws.proofs.All.{take-suc}
use Rattle.sentences.specs.Sentences.{shown, takes, sentence}

-- how many numbers a pattern takes
abbrev pub used : List ℕ → ℕ
used [] = 0
used (b ∷ bs) = takes b + used bs

pub sentence-more : (bs ns : List ℕ) (b : ℕ)
    → sentence (bs ++ (b ∷ [])) ns ≡ sentence bs ns ++ shown b (get_or ns (used bs) 0)
sentence-more [] ns b = append-nil (shown b (get_or ns 0 0))
sentence-more (x ∷ bs) ns b =
    let first = shown x (get_or ns 0 0) in
    ap (λ l. first ++ l)
    (sentence-more bs (drop (takes x) ns) b
    ∙ ap (λ n. sentence bs (drop (takes x) ns) ++ shown b n) (get_or-drop (takes x) ns (used bs) 0))
    ∙ sym (append_assoc first (sentence bs (drop (takes x) ns)) (shown b (get_or ns (takes x + used bs) 0)))

pub used-more : (bs : List ℕ) (b : ℕ) → used (bs ++ (b ∷ [])) ≡ used bs + takes b
used-more [] b = omega arith
used-more (x ∷ bs) b = let e = used-more bs b in omega arith

pub takes-le : (b : ℕ) → takes b ≤ 1
takes-le b = go (eqb b 35) (eqb b 126)
  where
    go : (s t : Bool) → (if s then 1 else if t then 1 else 0) ≤ 1
    go true t = omega arith
    go false true = omega arith
    go false false = omega arith

pub used_le : (bs : List ℕ) → used bs ≤ length bs
used_le [] = omega arith
used_le (x ∷ bs) = let e = used_le bs in let t = takes-le x in omega arith

module _ (p : List ℕ) (i k : ℕ) (h : i < length p) (e : k ≡ used (take i p)) where
  one_more : take (i + 1) p ≡ take i p ++ (get_or p i 0 ∷ [])
  one_more = let s : i + 1 ≡ suc i = omega arith in rw s (take-suc p i 0 h)

  pub sentence-next : (ns : List ℕ) (n : ℕ) → n ≡ get_or ns k 0
      → sentence (take i p) ns ++ shown (get_or p i 0) n ≡ sentence (take (i + 1) p) ns
  sentence-next ns n f =
      ap (λ m. sentence (take i p) ns ++ shown (get_or p i 0) m) (f ∙ ap (λ j. get_or ns j 0) e)
      ∙ sym (sentence-more (take i p) ns (get_or p i 0)) ∙ ap (λ l. sentence l ns) (sym one_more)

  pub used-next : (t : ℕ) → t ≡ takes (get_or p i 0) → k + t ≡ used (take (i + 1) p)
  used-next t f =
      ap (λ m. m + t) e ∙ ap (λ m. used (take i p) + m) f ∙ sym (used-more (take i p) (get_or p i 0))
      ∙ ap used (sym one_more)

  pub used-fits : (t : ℕ) → t ≡ takes (get_or p i 0) → k + t ≤ length p
  used-fits t f =
      let e = used-next t f in
      let u = used_le (take (i + 1) p) in
      let m = length-take-le (i + 1) p (omega arith) in
      omega arith

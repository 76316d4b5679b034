-- A set of accepted codes, written and walked, gives the codes; and a set that the walk accepts is what its codes are
-- written as.
-- In order: set_back; next→; Whole, set-canonical.
-- Assumes nothing.
use Rattle.std.proofs.Common.{◌≡◌, ◌∷◌, ◌++◌, ◌+◌, ◌*◌, ◌/◌, ◌%◌, ◌≤◌, ◌<◌, if◌then◌else◌}
use Rattle.laws.proofs.All.{refl, sym, ap, ap₂, subst, ◌∙◌, Bool, true, false, List, [], map, ℕ}
use Rattle.laws.proofs.All.{zero, suc, div-add-mod', arith, digits_div, digits_mod}
use Rattle.laws.proofs.All.{ltb, le-ltb, ltb-false, length, take, drop, length-append, take-append-drop, take_at}
use Rattle.laws.proofs.All.{drop_at, length-take-le, concat, Below, below-take, below-drop, never}
use Rattle.table.specs.Rows.{Code}
use Rattle.record.specs.Layout.{pack}
use Rattle.record_check.specs.Parse.{parse}
use Rattle.answer.specs.Outcomes.{Outcome, done, refused}
use Rattle.record_check.proofs.Parse.{parse-good}
use Rattle.set_check.specs.Sets.{Walk, codes, stopped, also, next, walked, read_set, framed, write_set, Readable}
use Rattle.answer.specs.declared.Refusal.TheVariants.{Length}

walked-framed : (cs : List Code) (i : ℕ) → Readable cs → walked (length cs) i (concat (map framed cs)) ≡ codes cs
walked-framed [] i e = refl
walked-framed (c ∷ cs) i (e, es) =
    let b = pack c in
    let r = concat (map framed cs) in
    let l = length b / 256 * 256 + length b % 256 in
    let q : l ≡ length b = div-add-mod' (length b) 256 in
    ap (λ t. if t then stopped i Length else next i (parse (take l (b ++ r)))
    (walked (length cs) (suc i) (drop l (b ++ r))))
    (le-ltb (length (b ++ r)) l (rw (length-append b r) (omega arith)))
    ∙ ap₂ (λ u v. next i (parse u) (walked (length cs) (suc i) v)) (take_at b r l (sym q)) (drop_at b r l (sym q))
    ∙ ap₂ (λ u v. next i u v) e (walked-framed cs (suc i) es)

-- codes that were written are read back
pub set_back : (cs : List Code) → Readable cs → read_set (write_set cs) ≡ codes cs
unfolding read_set write_set
set_back cs e = walked-framed cs 0 e

-- ---- the other way round
also→ : (c : Code) (w : Walk) (cs : List Code) → also c w ≡ codes cs
    → (ds : List Code) × (w ≡ codes ds) × (c ∷ ds ≡ cs)
also→ c (codes ds) cs e = (ds, refl, (cc))
also→ c (stopped i r) cs e = never (cc)

pub next→ : (i : ℕ) (a : Outcome Code) (w : Walk) (cs : List Code) → next i a w ≡ codes cs
    → (c : Code) × (ds : List Code) × (a ≡ done c) × (w ≡ codes ds) × (c ∷ ds ≡ cs)
next→ i (done c) w cs e = let (ds, p, q) = also→ c w cs e in (c, ds, refl, p, q)
next→ i (refused r) w cs e = never (cc)

cut→ : (t : Bool) (i : ℕ) (r : Walk) (cs : List Code) → (if t then stopped i Length else r) ≡ codes cs
    → (t ≡ false) × (r ≡ codes cs)
cut→ true i r cs e = never (cc)
cut→ false i r cs e = (refl, e)

abbrev pub Whole : ℕ → List ℕ → List Code → Type 0
Whole n xs cs = (length cs ≡ n) × (concat (map framed cs) ≡ xs) × Readable cs

-- one record in front
front : (x y n : ℕ) (xs : List ℕ) (c : Code) (ds : List Code) → x < 256 → y < 256 → x * 256 + y ≤ length xs
    → pack c ≡ take (x * 256 + y) xs → parse (take (x * 256 + y) xs) ≡ done c
    → Whole n (drop (x * 256 + y) xs) ds → Whole (suc n) (x ∷ y ∷ xs) (c ∷ ds)
front x y n xs c ds hx hy h p g (l, e, k) =
    let len : length (pack c) ≡ x * 256 + y = ap length p ∙ length-take-le (x * 256 + y) xs h in
    let a : length (pack c) / 256 ≡ x = ap (λ m. m / 256) len ∙ digits_div x hy in
    let b : length (pack c) % 256 ≡ y = ap (λ m. m % 256) len ∙ digits_mod x hy in
    let tail : pack c ++ concat (map framed ds) ≡ xs = ap₂ ◌++◌ p e ∙ take-append-drop (x * 256 + y) xs in (
      ap suc l,
      ap₂ (λ u v. u ∷ v ∷ (pack c ++ concat (map framed ds))) a b
          ∙ ap (λ t. x ∷ y ∷ t) tail,
      (ap parse p ∙ g, k),
    )

walked→ : (n i : ℕ) (xs : List ℕ) (cs : List Code) → Below 256 xs → walked n i xs ≡ codes cs → Whole n xs cs
walked→ zero i [] cs b e = let q : [] ≡ cs = cc in subst (λ cs. Whole 0 [] cs) q (refl, refl, tt)
walked→ zero i (x ∷ xs) cs b e = never (cc)
walked→ (suc n) i [] cs b e = never (cc)
walked→ (suc n) i (x ∷ []) cs b e = never (cc)
walked→ (suc n) i (x ∷ y ∷ xs) cs (hx, (hy, b)) e =
    let l = x * 256 + y in
    let (t, e₁) = cut→ (ltb (length xs) l) i (next i (parse (take l xs)) (walked n (suc i) (drop l xs))) cs e in
    go (next→ i (parse (take l xs)) (walked n (suc i) (drop l xs)) cs e₁) (ltb-false (length xs) l t)
    (λ ds q. walked→ n (suc i) (drop l xs) ds (below-drop 256 l xs b) q)
  where
    go : (c : Code) × (ds : List Code) × (parse (take (x * 256 + y) xs) ≡ done c)
        × (walked n (suc i) (drop (x * 256 + y) xs) ≡ codes ds) × (c ∷ ds ≡ cs)
        → x * 256 + y ≤ length xs
        → ((ds : List Code) → walked n (suc i) (drop (x * 256 + y) xs) ≡ codes ds
        → Whole n (drop (x * 256 + y) xs) ds) → Whole (suc n) (x ∷ y ∷ xs) cs
    go (c, ds, p, w, q) h f =
        let k = parse-good (take (x * 256 + y) xs) (below-take 256 (x * 256 + y) xs b) c p in
        subst (λ cs. Whole (suc n) (x ∷ y ∷ xs) cs) q (front x y n xs c ds hx hy h k.canonical p (f ds w))

-- a set that the walk accepts is what its codes are written as, and each of them is good
pub set-canonical : (xs : List ℕ) (cs : List Code) → Below 256 xs → read_set xs ≡ codes cs
    → (write_set cs ≡ xs) × Readable cs
unfolding read_set write_set
set-canonical [] cs b e = never (cc)
set-canonical (n ∷ xs) cs (h, b) e = let (l, q, k) = walked→ n 0 xs cs b e in (ap₂ ◌∷◌ l q, k)

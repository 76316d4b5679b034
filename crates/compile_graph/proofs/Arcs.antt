-- Edges: when two are the same, how often one occurs, sorting, and the sum over the edges that a list names.
-- In order: arc-eq, same→eq, same_refl, same-is, among→count, each-among, image-count, none-count,
-- tot-sort, length-sort, tot-same, pick.
-- Assumes nothing.
use Rattle.std.proofs.Common.{◌≡◌, ◌&&◌, ◌||◌, ◌∷◌, ◌+◌, ◌*◌, ◌≤◌, ◌<◌, if◌then◌else◌}
use Rattle.laws.proofs.All.{refl, sym, ap₂, subst, ◌∙◌, Bool, true, false, List, [], ℕ}
use Rattle.laws.proofs.All.{zero-add, add-zero, zero-mul, arith, T, eqb, eqb→eq, eqb_refl, length}
use Rattle.laws.proofs.All.{and→, →and, →or_l, →or_r, so, nay, Whether, T→true, Each, tot, mask, one}
use Rattle.laws.proofs.All.{each_map, each-always, tot-eq, tot-add, tot-zero, any→count, tot-map, tot-le, map}
use Rattle.laws.proofs.All.{le_refl, zero-le}
use Rattle.laws.proofs.Sorted as sorted
use Rattle.compile_graph.specs.Arcs.{Arc}
use Rattle.compile_graph.specs.Splitting.{earlier, sort, same, among}
use Rattle.compile_graph.specs.Invariant.{count}

-- ---- a test with what it says

pub arc-eq : {e f : Arc} → e.source ≡ f.source → e.word ≡ f.word → e.target ≡ f.target → e ≡ f
arc-eq a b c = λ i. record { source = a i; word = b i; target = c i }

pub same→eq : (e f : Arc) → T (same e f) → e ≡ f
same→eq e f t =
    let (a, u) = and→ (eqb e.source f.source) (eqb e.word f.word && eqb e.target f.target) t in
    let (b, c) = and→ (eqb e.word f.word) (eqb e.target f.target) u in
    arc-eq (eqb→eq e.source f.source a) (eqb→eq e.word f.word b) (eqb→eq e.target f.target c)

pub same_refl : (e : Arc) → T (same e e)
same_refl e =
    →and (eqb e.source e.source) (eqb e.word e.word && eqb e.target e.target) (eqb_refl e.source)
    (→and (eqb e.word e.word) (eqb e.target e.target) (eqb_refl e.word) (eqb_refl e.target))

pub same-is : (e f : Arc) → Whether (e ≡ f) (same e f)
same-is e f = go (same e f) refl
  where
    go : (t : Bool) → same e f ≡ t → Whether (e ≡ f) (same e f)
    go true q = so (same→eq e f (rw q tt)) q
    go false q = nay (λ p. let u : T (same e f) = subst (λ y. T (same e y)) p (same_refl e) in rw q at u) q

-- ---- how often an arc occurs

pub among→count : (l : List Arc) (e : Arc) → T (among l e) → 0 < count e l
among→count l e t = any→count (same e) l t

-- each arc of a list is among it
pub each-among : (l : List Arc) → Each (λ e. T (among l e)) l
each-among [] = tt
each-among (x ∷ l) = (
  →or_l (same x x) (among l x) (same_refl x),
  each_map (λ e. T (among l e)) (λ e. T (among (x ∷ l) e))
      (λ e t. →or_r (same e x) (among l e) t) l (each-among l),
)

-- an edge that becomes e by f was b: e is among what becomes of them no more often than b is among them
pub image-count : (f : Arc → Arc) (e b : Arc) (g : List Arc) → Each (λ a. e ≡ f a → b ≡ a) g
    → count e (map f g) ≤ count b g
image-count f e b g h =
    rw (tot-map (one (same e)) f g) (tot-le (λ a. one (same e) (f a)) (one (same b)) g
    (each_map (λ a. e ≡ f a → b ≡ a) _ (λ a k. elim (same-is e (f a)) [
      | so p q ↦ rw (q, k p, T→true (same a a) (same_refl a)) (le_refl 1)
      | nay p q ↦ rw q zero-le
    ]) g h))

pub none-count : (e : Arc) (g : List Arc) → Each (λ a. e ≡ a → ⊥) g → count e g ≡ 0
none-count e [] h = refl
none-count e (a ∷ g) h = elim (same-is e a) [
  | so p q ↦ absurd (h.0 p)
  | nay p q ↦ rw q (omega (arith, none-count e g h.1))
]

-- ---- sorting changes no sum
pub tot-sort : (f : Arc → ℕ) (l : List Arc) → tot f (sort l) ≡ tot f l
tot-sort f l = sorted.tot-sort earlier f l

pub length-sort : (l : List Arc) → length (sort l) ≡ length l
length-sort l = sorted.length-sort earlier l

-- ---- the sum over those arcs of g that are among keep
pub tot-same : (f : Arc → ℕ) (k : Arc) (g : List Arc) → tot (mask (λ e. same e k) f) g ≡ tot (one (same k)) g * f k
tot-same f k [] = sym (zero-mul (f k))
tot-same f k (e ∷ g) = rw (tot-same f k g) (go (same-is e k) (same-is k e))
  where
    go : Whether (e ≡ k) (same e k) → Whether (k ≡ e) (same k e)
        → mask (λ e. same e k) f e + count k g * f k ≡ (one (same k) e + count k g) * f k
    go (so p q) (so p' q') = rw (q, q', p) (omega arith)
    go (so p q) (nay p' q') = absurd (p' (sym p))
    go (nay p q) (so p' q') = absurd (p (sym p'))
    go (nay p q) (nay p' q') = rw (q, q', zero-add (count k g)) (zero-add (count k g * f k))

-- the terms of the sum, when k is not among keep
mask-cons : (f : Arc → ℕ) (k : Arc) (keep : List Arc) → (T (among keep k) → ⊥) → (e : Arc)
    → mask (among (k ∷ keep)) f e ≡ mask (λ e. same e k) f e + mask (among keep) f e
mask-cons f k keep h e = go (same-is e k) (among keep e) refl
  where
    go : Whether (e ≡ k) (same e k) → (b : Bool) → among keep e ≡ b
        → (if same e k || b then f e else 0) ≡ mask (λ e. same e k) f e + (if b then f e else 0)
    go (so p q) true u = absurd (h (subst (λ y. T (among keep y)) p (rw u tt)))
    go (so p q) false u = rw q (sym (add-zero (f e)))
    go (nay p q) true u = rw q (sym (zero-add (f e)))
    go (nay p q) false u = rw q

pub pick : (f : Arc → ℕ) (keep g : List Arc) → ((e : Arc) → count e keep ≤ count e g) → ((e : Arc) → count e g ≤ 1)
    → tot (mask (among keep) f) g ≡ tot f keep
pick f [] g h d = tot-zero g
pick f (k ∷ keep) g h d =
    let c : one (same k) k ≡ 1 = rw (T→true (same k k) (same_refl k)) in
    let a : count k g ≡ 1 = omega (arith, h k, d k) in
    let new : T (among keep k) → ⊥ = λ t. let u : 0 < count k keep = among→count keep k t in
    omega (arith, h k, d k) in
    let rest : tot (mask (among keep) f) g ≡ tot f keep = pick f keep g (λ e. omega (arith, h e)) d in
    let here : tot (mask (λ e. same e k) f) g ≡ f k = tot-same f k g ∙ (rw a (omega arith)) in
    tot-eq (mask (among (k ∷ keep)) f) (λ e. mask (λ e. same e k) f e + mask (among keep) f e) g
    (each-always (λ e. mask (among (k ∷ keep)) f e ≡ mask (λ e. same e k) f e + mask (among keep) f e)
    (mask-cons f k keep new) g)
    ∙ tot-add (mask (λ e. same e k) f) (mask (among keep) f) g ∙ ap₂ (λ a b. a + b) here rest

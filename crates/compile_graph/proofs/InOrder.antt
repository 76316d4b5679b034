-- Lists by place: the lowest place that passes a test; and lists in order: the numbers below a bound that pass a test,
-- and the edges of a state by word, then target.
-- In order: Lowest, lowest-place; ordered_at; from-above, filter-rises; Before, order-strict, edges-apart,
-- edges-ordered, edges-rise.
-- Assumes nothing.
use Rattle.std.proofs.Common.{◌≡◌, ◌⊎◌, ◌||◌, ◌∷◌, ◌≤◌, ◌<◌, if◌then◌else◌}
use Rattle.laws.proofs.All.{refl, sym, subst, ◌∙◌, inl, inr, Bool, true, false, List, [], ℕ}
use Rattle.laws.proofs.All.{zero, suc, zero-le, suc-le-suc, le_refl, le_trans, le_of_suc-le-suc}
use Rattle.laws.proofs.All.{not-suc-le-zero, arith, dec_lt, T, T→true, ltb, lt→ltb, eqb→eq, length, get_or}
use Rattle.laws.proofs.All.{from, filter, any, Each, one, each_map, each-always, each_both}
use Rattle.laws.proofs.All.{each-filter, each_at}
use Rattle.laws.specs.Sorted.{Ordered, Apart, StrictOrder}
use Rattle.laws.proofs.Sorted.{sort-ordered}
use Rattle.compile_graph.specs.Arcs.{Arc, arc, leaves, out}
use Rattle.compile_graph.specs.Splitting.{earlier, sort, same, among}
use Rattle.compile_graph.specs.Invariant.{count}
use Rattle.compile_graph.proofs.Arcs.{arc-eq, same_refl, among→count, each-among}
use Rattle.compile_graph.proofs.Sorted.{earlier→, →earlier}
use Rattle.compile_graph.proofs.PartedInv.{count-out}

-- ---- the lowest place that passes
module _ {A : Type 0} (p : A → Bool) (d : A) where
  -- j is the lowest place whose element passes
  abbrev pub Lowest : List A → Type 0
  Lowest l = (j : ℕ) × (j < length l) × (p (get_or l j d) ≡ true) × ((k : ℕ) → k < j → p (get_or l k d) ≡ false)

  pub lowest-place : (l : List A) → T (any p l) → Lowest l
  lowest-place [] t = absurd t
  lowest-place (x ∷ l) t = go (p x) refl t (lowest-place l)
    where
      later : (j : ℕ) → p x ≡ false → ((k : ℕ) → k < j → p (get_or l k d) ≡ false) → (k : ℕ) → k < suc j
          → p (get_or (x ∷ l) k d) ≡ false
      later j q f zero h = q
      later j q f (suc k) h = f k (le_of_suc-le-suc h)

      go : (b : Bool) → p x ≡ b → T (b || any p l) → (T (any p l) → Lowest l) → Lowest (x ∷ l)
      go true q u f = (0, suc-le-suc zero-le, q, λ k h. absurd (not-suc-le-zero h))
      go false q u f = let (j, h, e, n) = f u in (suc j, suc-le-suc h, e, later j q n)

-- ---- lists in order
-- of two places the lower has what comes before
pub ordered_at : {A : Type 0} (before : A → A → Bool) (d : A) (l : List A) → Ordered before l → (i k : ℕ) → i < k
    → k < length l → T (before (get_or l i d) (get_or l k d))
ordered_at before d [] o i k h b = absurd (not-suc-le-zero b)
ordered_at before d (x ∷ l) o i zero h b = absurd (not-suc-le-zero h)
ordered_at before d (x ∷ l) o zero (suc k) h b = each_at (λ f. T (before x f)) d l o.0 k (le_of_suc-le-suc b)
ordered_at before d (x ∷ l) o (suc i) (suc k) h b =
    ordered_at before d l o.1 i k (le_of_suc-le-suc h) (le_of_suc-le-suc b)

-- ---- numbers that pass a test
from-above : (a b k : ℕ) → a ≤ b → Each (λ y. a ≤ y) (from b k)
from-above a b zero h = tt
from-above a b (suc k) h = (h, from-above a (suc b) k (omega arith))

pub filter-rises : (p : ℕ → Bool) (b k : ℕ) → Ordered ltb (filter p (from b k))
filter-rises p b zero = tt
filter-rises p b (suc k) = go (p b) (filter-rises p (suc b) k)
  where
    go : (q : Bool) → Ordered ltb (filter p (from (suc b) k))
        → Ordered ltb (if q then b ∷ filter p (from (suc b) k) else filter p (from (suc b) k))
    go true o = (
      each-filter (λ y. T (ltb b y)) p (from (suc b) k)
          (each_map (λ y. suc b ≤ y) _ (λ y h t. lt→ltb b y h) (from (suc b) k)
          (from-above (suc b) (suc b) k (le_refl (suc b)))),
      o,
    )
    go false o = o

-- ---- the edges of a state
-- e comes before f by word, then target
abbrev Before : Arc → Arc → Type 0
Before e f = (e.word < f.word) ⊎ ((e.word ≡ f.word) × (e.target < f.target))

before-itself : (e : Arc) → Before e e → ⊥
before-itself e (inl h) = omega arith
before-itself e (inr (p, h)) = omega arith

before_on : (e f g : Arc) → Before e f → Before f g → Before e g
before_on e f g (inl h) (inl k) = inl (omega arith)
before_on e f g (inl h) (inr (q, k)) = inl (omega arith)
before_on e f g (inr (p, h)) (inl k) = inl (omega arith)
before_on e f g (inr (p, h)) (inr (q, k)) = inr (omega arith, omega arith)

order-strict : StrictOrder earlier
order-strict = record {
  irreflexive = λ e t. before-itself e (earlier→ e e t);
  transitive = λ e f g t u. →earlier e g (before_on e f g (earlier→ e f t) (earlier→ f g u));
}

-- of two edges of one state one comes before
either-before : (e f : Arc) → e.source ≡ f.source → (e ≡ f → ⊥) → Before e f ⊎ Before f e
either-before e f s ne = elim (dec_lt e.word f.word) [
  | yes h ↦ inl (inl h)
  | no h ↦ elim (dec_lt f.word e.word) [
    | yes k ↦ inr (inl k)
    | no k ↦ elim (dec_lt e.target f.target) [
      | yes l ↦ inl (inr (omega arith, l))
      | no l ↦ elim (dec_lt f.target e.target) [
        | yes m ↦ inr (inr (omega arith, m))
        | no m ↦ absurd (ne (arc-eq s (omega arith) (omega arith)))
      ]
    ]
  ]
]

edges-apart : (s : ℕ) (l : List Arc) → Each (λ e. e.source ≡ s) l → ((e : Arc) → count e l ≤ 1) → Apart earlier l
edges-apart s [] h once = tt
edges-apart s (e ∷ l) h once = (
  each_map _ (λ f. earlier e f ≡ false → T (earlier f e)) (λ f p. go f p.0 p.1) l
      (each_both (λ f. f.source ≡ s) _ l h.1 (each-among l)),
  edges-apart s l h.1 (λ f. le_trans (omega arith) (once f)),
)
  where
    alone : count e l ≡ 0
    alone =
        let z : one (same e) e ≡ 1 = rw (T→true (same e e) (same_refl e)) in
        omega (arith, once e, z)

    go : (f : Arc) → f.source ≡ s → T (among l f) → earlier e f ≡ false
        → T (earlier f e)
    go f p t q = on (either-before e f (h.0 ∙ sym p)
        (λ r. let c = subst (λ g. 0 < count g l) (sym r) (among→count l f t) in omega (arith, alone, c)))
      where
        on : Before e f ⊎ Before f e → T (earlier f e)
        on (inl b) = absurd (subst T q (→earlier e f b))
        on (inr b) = →earlier f e b

module _ (g : List Arc) (once : (e : Arc) → count e g ≤ 1) (s : ℕ) where
  pub edges-ordered : Ordered earlier (sort (out g s))
  edges-ordered =
      sort-ordered earlier order-strict (out g s) (edges-apart s (out g s)
      (each-filter (λ e. e.source ≡ s) (leaves s) g (each-always _ (λ e t. eqb→eq e.source s t) g))
      (λ e. le_trans (count-out g s e) (once e)))

  -- of two places of the sorted edges the lower has the lower word, or the same word and the lower target
  pub edges-rise : (i k : ℕ) → i < k → k < length (sort (out g s)) → let e = get_or (sort (out g s)) i (arc 0 0 0) in
      let f = get_or (sort (out g s)) k (arc 0 0 0) in
      (e.word < f.word) ⊎ ((e.word ≡ f.word) × (e.target < f.target))
  edges-rise i k h b =
      let es = sort (out g s) in
      earlier→ (get_or es i (arc 0 0 0)) (get_or es k (arc 0 0 0))
      (ordered_at earlier (arc 0 0 0) es edges-ordered i k h b)

-- The first edge of a state with a word: the search for it, and what it is.
-- In order: sought_from, sought-start, sought-here, sought-next, sought-end; Least, edge-least.
-- Assumes nothing.
use Rattle.std.proofs.Common.{◌≡◌, ◌+◌, ◌-◌, ◌*◌, ◌≤◌, ◌<◌, if◌then◌else◌}
use Rattle.laws.proofs.All.{refl, sym, ap, subst, ◌∙◌, Bool, true, false, List, ℕ, zero, suc}
use Rattle.laws.proofs.All.{le_refl, arith, ℕ_discrete, T, from, first}
use Rattle.codec_groups.specs.Groups.{has_at, first_edge}

-- ---- the search: what is found from place e on
unfoldable pub sought_from : List ℕ → ℕ → ℕ → ℕ → ℕ
sought_from word w end e = first (has_at word w) end (from e (end - e))

module _ (word : List ℕ) (w : ℕ) where
  -- it starts at the first entry of the state
  pub sought-start : (n s : ℕ) → first_edge n word w s ≡ sought_from word w (s * 16 + n) (s * 16)
  unfolding first_edge sought_from
  sought-start n s =
      let e : n ≡ s * 16 + n - s * 16 = omega arith in
      ap (λ k. first (has_at word w) (s * 16 + n) (from (s * 16) k)) e

  module _ (end e : ℕ) where
    -- one entry looked at
    sought-one : e < end → sought_from word w end e
        ≡ (if has_at word w e then e else sought_from word w end (e + 1))
    unfolding sought_from
    sought-one h =
        let a : end - e ≡ suc (end - (e + 1)) = omega arith in
        let b : suc e ≡ e + 1 = omega arith in
        ap (λ k. first (has_at word w) end (from e k)) a
        ∙ ap (λ k. if has_at word w e then e else first (has_at word w) end (from k (end - (e + 1)))) b

    pub sought-here : e < end → has_at word w e ≡ true → sought_from word w end e ≡ e
    sought-here h q = sought-one h ∙ ap (λ b. if b then e else sought_from word w end (e + 1)) q

    pub sought-next : e < end → has_at word w e ≡ false → sought_from word w end e ≡ sought_from word w end (e + 1)
    sought-next h q = sought-one h ∙ ap (λ b. if b then e else sought_from word w end (e + 1)) q

    pub sought-end : end ≤ e → sought_from word w end e ≡ end
    unfolding sought_from
    sought-end h =
        let a : end - e ≡ 0 = omega arith in
        ap (λ k. first (has_at word w) end (from e k)) a

-- ---- what is found where there is one: f is the least from i on that passes, and is no greater than e
pub record Least (p : ℕ → Bool) (i e f : ℕ) : Type 0 where
  pub low : i ≤ f
  pub high : f ≤ e
  pub here : p f ≡ true
  pub none : (x : ℕ) → i ≤ x → x < f → p x ≡ false

-- the first of a list of numbers in a row
first_of : (p : ℕ → Bool) (d i k e : ℕ) → i ≤ e → e < i + k → p e ≡ true → Least p i e (first p d (from i k))
first_of p d i zero e h l q = absurd (omega arith)
first_of p d i (suc k) e h l q = go (p i) refl (ℕ_discrete e i) (first_of p d (suc i) k e)
  where
    go : (b : Bool) → p i ≡ b → Dec (e ≡ i)
        → (suc i ≤ e → e < suc i + k → p e ≡ true → Least p (suc i) e (first p d (from (suc i) k)))
        → Least p i e (if b then i else first p d (from (suc i) k))
    go true r z ih = record { low = le_refl i; high = h; here = r; none = λ x a b. absurd (omega arith) }
    go false r (yes z) ih = absurd (subst T (sym q ∙ ap p z ∙ r) tt)
    go false r (no z) ih =
        let m = ih (omega arith) (omega arith) q in
        record {
          low = omega (arith, m.low);
          high = m.high;
          here = m.here;
          none = λ x a b. at_x x (ℕ_discrete x i) a b (m.none x);
        }
      where
        at_x : (x : ℕ) → Dec (x ≡ i) → i ≤ x → x < first p d (from (suc i) k)
            → (suc i ≤ x → x < first p d (from (suc i) k) → p x ≡ false) → p x ≡ false
        at_x x (yes y) a b f = ap p y ∙ r
        at_x x (no y) a b f = f (omega arith) b

-- the first edge of a state that has one with the word
pub edge-least : (n : ℕ) (word : List ℕ) (w s e : ℕ) → s * 16 ≤ e → e < s * 16 + n → has_at word w e ≡ true
    → Least (has_at word w) (s * 16) e (first_edge n word w s)
unfolding first_edge
edge-least n word w s e h l q = first_of (has_at word w) (s * 16 + n) (s * 16) n e h l q

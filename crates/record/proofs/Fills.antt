-- Arrays filled place by place.
-- In order: fill_more, one place more; spot-once, spot-lt, the places of edges; reach-spot, reach_step, reach-end,
-- column-more.
-- Assumes nothing.
use Rattle.std.proofs.Common.{◌≡◌, ◌+◌, ◌*◌, ◌/◌, ◌%◌, ◌≤◌, ◌<◌}
use Rattle.laws.proofs.All.{sym, ap₂, subst, ◌∙◌, List, ℕ, mod-lt, div-add-mod'}
use Rattle.laws.proofs.All.{div-lt_iff_lt-mul, arith, below_more, length, get_or, set, length-set, get_or-set_same}
use Rattle.laws.proofs.All.{get_or-set_other}
use Rattle.bits.specs.Fields.{field}
use Rattle.record.specs.Places.{spot, Column, Reach}
use Rattle.record.proofs.Sizes.{place-le, product_le}

-- places g k of the list hold F k for each k below e, and then for e
pub fill_more : (g F : ℕ → ℕ) (a : List ℕ) (e v : ℕ) → ((k : ℕ) → k < e → g k ≡ g e → k ≡ e) → g e < length a → v ≡ F e
    → ((k : ℕ) → k < e → get_or a (g k) 0 ≡ F k) → (k : ℕ) → k < e + 1 → get_or (set a (g e) v) (g k) 0 ≡ F k
fill_more g F a e v once h q below =
    below_more (λ k. get_or (set a (g e) v) (g k) 0 ≡ F k) e
    (λ k l. get_or-set_other a (g e) (g k) v 0 (λ s. let t : k ≡ e = once k l s in omega arith) ∙ below k l)
    (get_or-set_same a (g e) v 0 h ∙ q)

-- two edges do not share a place
pub spot-once : (n e k : ℕ) → 1 ≤ n → n ≤ 16 → spot n k ≡ spot n e → k ≡ e
spot-once n e k h l q =
    let me : e % n < n = mod-lt e (omega arith) in
    let mk : k % n < n = mod-lt k (omega arith) in
    let d : k / n ≡ e / n = omega arith in
    let m : k % n ≡ e % n = omega arith in
    sym (div-add-mod' k n) ∙ ap₂ (λ x y. x * n + y) d m ∙ div-add-mod' e n

-- the edges of 128 states fit
pub spot-lt : (n e k : ℕ) → 1 ≤ n → n ≤ 16 → e < k → k ≤ 128 * n → spot n e < 2048
spot-lt n e k h l g r =
    let q : e / n < 128 = (div-lt_iff_lt-mul {k = n} {x = e} {y = 128} (omega arith)).1 (omega arith) in
    omega (arith, mod-lt e {m = n} (omega arith))

module _ (l n k o d w e : ℕ) (r : Reach l n k o d w) (h : e < k) where
  pub reach-spot : spot n e < 2048
  reach-spot = spot-lt n e k r.some r.few h r.states

  pub reach_step : e * d ≤ 30720
  reach_step =
      let f : e ≤ 2048 = omega (arith, r.states, r.few) in
      product_le e d 2048 15 f r.apart

  pub reach-end : o + e * d + w ≤ l
  reach-end = place-le o k d w l e h r.last

  -- the field of one edge more
  pub column-more : (bs a : List ℕ) (v : ℕ) → v ≡ field bs (o + e * d) w → Column bs n e o d w a
      → Column bs n (e + 1) o d w (set a (spot n e) v)
  column-more bs a v q c = record {
    whole = length-set a (spot n e) v ∙ c.whole;
    filled = fill_more (spot n) (λ i. field bs (o + i * d) w) a e v (λ i g. spot-once n e i r.some r.few)
        (subst (λ m. spot n e < m) (sym c.whole) reach-spot) q c.filled;
  }

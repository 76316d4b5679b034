-- The edges among the states of weight above 0, by the counts of words.
-- In order: live-elem, live-lt; any-tabled; linked-is.
-- Assumes nothing.
use Rattle.std.proofs.Common.{◌≡◌, ◌&&◌, ◌+◌, ◌*◌, ◌/◌, ◌%◌, ◌≤◌, ◌<◌}
use Rattle.laws.proofs.All.{sym, ap, subst, ◌∙◌, Bool, false, List, ℕ}
use Rattle.laws.proofs.All.{arith, ne_eqb, T, ltb, eqb, eqb→eq, eqb_refl, ltb→lt, lt→ltb, length, get_or, take}
use Rattle.laws.proofs.All.{length-take-le, get_or-take, range, filter, any, elem, member, and→, →and, any-below→}
use Rattle.laws.proofs.All.{→any-below, bool_eq, any-map, any-filter, any-concat, each-range, elem-filter}
use Rattle.laws.proofs.All.{elem-each, filter-pos, filter-some, quotient-of, remainder_of}
use Rattle.compile_graph.specs.Arcs.{Arc, leads_on}
use Rattle.compile_graph.specs.Component.{leads_into, both, within, weighs, live}
use Rattle.compile_weights.specs.PowerTable.{entry_at, word_at, tabled, Powers, word_leads, word_count}
use Rattle.compile_reach.specs.ReachSets.{links_into, Linked, live_edge}
use Rattle.compile_graph.proofs.UpTo.{elem-kept}

pub any-tabled : (P : List ℕ) (words k : ℕ) (p : Arc → Bool) → any p (tabled P words k)
    ≡ any (λ s. any (λ w. leads_on (word_at P s w) && p (word_at P s w)) (range words)) (range k)
unfolding tabled
any-tabled P words k p = simp (any-filter, any-concat, any-map)

module _ (v : List ℕ) (k : ℕ) (few : k ≤ 16) (long : length v ≡ 16) where
  abbrev L : List ℕ
  L = live (take k v)

  live-range : L ≡ filter (weighs (take k v)) (range k)
  live-range = ap (λ n. filter (weighs (take k v)) (range n)) (length-take-le k v (omega arith))

  pub live-elem : (t : ℕ) → t < k → elem t L ≡ ltb 0 (get_or v t 0)
  live-elem t h = rw (live-range, elem-kept (weighs (take k v)) k t h, get_or-take k v t 0 h)

  pub live-lt : (t : ℕ) → T (elem t L) → t < k
  live-lt t u =
      elem-each (λ x. x < k) t (range k)
      (elem-filter (weighs (take k v)) t (range k) (subst (λ l. T (elem t l)) live-range u)).1 (each-range k)

  module _ (P : List ℕ) (words : ℕ) (pw : Powers P words k) (A : List ℕ) (E : List Bool)
      (counts : (x : ℕ) → x < k * 16 → get_or A x 0 ≡ word_count P words (x / 16) (x % 16))
      (edges : (x : ℕ) → x < k * 16 → get_or E x false ≡ live_edge A v x) where
    -- at s * 16 + u
    edge-at : (s u : ℕ) → s < k → u < k
        → get_or E (s * 16 + u) false ≡ (ltb 0 (get_or v s 0)
        && (ltb 0 (get_or v u 0) && ltb 0 (word_count P words s u)))
    edge-at s u h l =
        let x = s * 16 + u in
        let b : x < k * 16 = omega arith in
        let p = quotient-of 16 s u (omega arith) in
        let q = remainder_of 16 s u (omega arith) in
        edges x b ∙ rw (counts x b, p, q)

    module _ (S : List Bool) (s : ℕ) (hs : s < k) where
      abbrev found : ℕ → ℕ → Bool
      found s' w = leads_on (word_at P s' w) && (both L (word_at P s' w) && leads_into S s (word_at P s' w))

      to : T (any (λ s'. any (found s') (range words)) (range k)) → T (any (links_into E S s) (range k))
      unfolding word_count
      to t =
          let (s', h, a) = any-below→ (λ s'. any (found s') (range words)) k t in
          let (w, l, b) = any-below→ (found s') words a in
          let u = entry_at P s' w in
          let (on, rest) = and→ (leads_on (word_at P s' w)) (both L (word_at P s' w) && leads_into S s (word_at P s' w))
          b in
          let (two, into) = and→ (both L (word_at P s' w)) (leads_into S s (word_at P s' w)) rest in
          let (ls, lu) = and→ (elem s' L) (elem u L) two in
          let (same, m) = and→ (eqb s' s) (member S u) into in
          let q : s' ≡ s = eqb→eq s' s same in
          let hu : u < k = live-lt u lu in
          let some : 0 < word_count P words s u =
          filter-pos (word_leads P s u) (range words)
          (→any-below (word_leads P s u) words w l (subst (λ y. T (eqb (entry_at P y w) u)) q (eqb_refl u))) in
          →any-below (links_into E S s) k u hu
          (→and (get_or E (s * 16 + u) false) (member S u)
          (rw (edge-at s u hs hu)
          (→and (ltb 0 (get_or v s 0)) (ltb 0 (get_or v u 0) && ltb 0 (word_count P words s u))
          (rw (← live-elem s hs) (subst (λ y. T (elem y L)) q ls))
          (→and (ltb 0 (get_or v u 0)) (ltb 0 (word_count P words s u)) (rw (← live-elem u hu) lu)
          (lt→ltb 0 (word_count P words s u) some)))) m)

      back : T (any (links_into E S s) (range k)) → T (any (λ s'. any (found s') (range words)) (range k))
      unfolding word_count
      back t =
          let (u, hu, a) = any-below→ (links_into E S s) k t in
          let (e, m) = and→ (get_or E (s * 16 + u) false) (member S u) a in
          let (vs, rest) = and→ (ltb 0 (get_or v s 0)) (ltb 0 (get_or v u 0) && ltb 0 (word_count P words s u))
          (rw (edge-at s u hs hu) at e) in
          let (vu, n) = and→ (ltb 0 (get_or v u 0)) (ltb 0 (word_count P words s u)) rest in
          let (w, l, q) = any-below→ (word_leads P s u) words
          (filter-some (word_leads P s u) (range words) (ltb→lt 0 (word_count P words s u) n)) in
          let p : entry_at P s w ≡ u = eqb→eq (entry_at P s w) u q in
          let on : T (leads_on (word_at P s w)) = rw (ne_eqb (entry_at P s w) 255 (λ z. omega arith)) tt in
          let two : T (both L (word_at P s w)) =
          →and (elem s L) (elem (entry_at P s w) L) (rw (live-elem s hs) vs)
          (subst (λ y. T (elem y L)) (sym p) (rw (live-elem u hu) vu)) in
          let into : T (leads_into S s (word_at P s w)) =
          →and (eqb s s) (member S (entry_at P s w)) (eqb_refl s) (subst (λ y. T (member S y)) (sym p) m) in
          →any-below (λ s'. any (found s') (range words)) k s hs
          (→any-below (found s) words w l
          (→and (leads_on (word_at P s w)) (both L (word_at P s w) && leads_into S s (word_at P s w)) on
          (→and (both L (word_at P s w)) (leads_into S s (word_at P s w)) two into)))

    pub linked-is : Linked E k (within L (tabled P words k))
    linked-is = record {
      links = λ S s h.
          any-filter (leads_into S s) (both L) (tabled P words k)
          ∙ any-tabled P words k (λ e. both L e && leads_into S s e)
          ∙ bool_eq (any (λ s'. any (found S s h s') (range words)) (range k)) (any (links_into E S s) (range k))
          (to S s h)
          (back S s h);
    }

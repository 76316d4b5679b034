-- Pairs are numbered as first met: the places of the walk at which they are first met rise with their numbers.
-- In order: meets-grow, meets-back, first-grow; Numbered; is_y, same, more, meet_one; walk_more; numbered.
-- Assumes nothing.
use Rattle.std.proofs.Common.{◌≡◌, ◌∷◌, ◌++◌, ◌+◌, ◌*◌, ◌≤◌, ◌<◌, if◌then◌else◌}
use Rattle.laws.proofs.All.{refl, sym, ap, subst, subst₂, ◌∙◌, Bool, true, false, List, [], ℕ}
use Rattle.laws.proofs.All.{suc, arith, dec_lt, T, ltb, ltb-true, ltb-false, length, get_or}
use Rattle.laws.proofs.All.{length-append, get_or-append_seam, elem, lt-ltb, le-ltb}
use Rattle.constraint.specs.Walking.{Constraint}
use Rattle.joining.specs.Joined.{allowed, leads_to, met, walked, walked_from, pairs, MeetsAt, FirstMet}
use Rattle.joining.proofs.Lists.{Grows, grows-elem, grows_at, grows-long, grown, last-elem}
use Rattle.joining.proofs.Pairs.{met-grows, walks-keep}

module _ (c d : Constraint) where
  -- ---- a list that grows
  module _ (ps qs : List ℕ) (g : Grows ps qs) (k z : ℕ) where
    pub meets-grow : MeetsAt c d ps k z → MeetsAt c d qs k z
    meets-grow m =
        let e = grows_at ps qs g m.number 0 m.there in
        record {
          number = m.number;
          bit = m.bit;
          place = m.place;
          small = m.small;
          there = omega (arith, m.there, grows-long ps qs g);
          allows = rw e m.allows;
          leads = rw e m.leads;
        }

    pub meets-back : (m : MeetsAt c d qs k z) → m.number < length ps → MeetsAt c d ps k z
    meets-back m h =
        let e = grows_at ps qs g m.number 0 h in
        record {
          number = m.number;
          bit = m.bit;
          place = m.place;
          small = m.small;
          there = h;
          allows = rw e at m.allows;
          leads = rw e at m.leads;
        }

  first-grow : (ps qs : List ℕ) → Grows ps qs → (k z : ℕ) → FirstMet c d ps k z → FirstMet c d qs k z
  first-grow ps qs g k z f = record {
    here = meets-grow ps qs g k z f.here;
    earlier = λ l h m. f.earlier l h
        (meets-back ps qs g l z m
        (omega (arith, h, m.place, m.small, f.here.place, f.here.small, f.here.there)));
  }

  -- what holds of the list when the places below n are passed
  record Numbered (n : ℕ) (ps : List ℕ) : Type 0 where
    place : ℕ → ℕ
    early : (j : ℕ) → 0 < j → j < length ps → place j < n
    first : (j : ℕ) → 0 < j → j < length ps → FirstMet c d ps (place j) (get_or ps j 0)
    rising : (i j : ℕ) → 0 < i → i < j → j < length ps → place i < place j
    closed : (l z : ℕ) → l < n → MeetsAt c d ps l z → T (elem z ps)

  -- ---- one bit of one pair: place n is bit b of pair number i
  module _ (n i b : ℕ) (ps : List ℕ) (at : n ≡ 2 * i + b) (small : b < 2) (h : i < length ps) (w : Numbered n ps) where
    abbrev y : ℕ
    y = leads_to c d b (get_or ps i 0)

    -- what is met at place n is y
    is_y : (z : ℕ) (qs : List ℕ) → Grows ps qs → MeetsAt c d qs n z
        → T (allowed c d b (get_or ps i 0)) × (z ≡ y)
    is_y z qs g m =
        let e : m.number ≡ i = omega (arith, at, small, m.place, m.small) in
        let f : m.bit ≡ b = omega (arith, at, small, m.place, m.small) in
        let k : get_or qs m.number 0 ≡ get_or ps i 0 = ap (λ j. get_or qs j 0) e ∙ grows_at ps qs g i 0 h in (
          subst (λ x. T (allowed c d b x)) k (subst (λ t. T (allowed c d t (get_or qs m.number 0))) f m.allows),
          sym m.leads ∙ ap (λ t. leads_to c d t (get_or qs m.number 0)) f ∙ ap (leads_to c d b) k,
        )

    -- nothing new is met
    same : ((z : ℕ) → MeetsAt c d ps n z → T (elem z ps)) → Numbered (suc n) ps
    same f = record {
      place = w.place;
      early = λ j p q. omega (arith, w.early j p q);
      first = w.first;
      rising = w.rising;
      closed = λ l z q m. elim (dec_lt l n) [
        | yes u ↦ w.closed l z u m
        | no u ↦ let e : l ≡ n = omega arith in f z (subst (λ k. MeetsAt c d ps k z) e m)
      ];
    }

    -- a pair is met for the first time
    more : T (allowed c d b (get_or ps i 0)) → (T (elem y ps) → ⊥) → Numbered (suc n) (ps ++ y ∷ [])
    more t new = record {
      place = place;
      early = early;
      first = first;
      rising = rising;
      closed = closed;
    }
      where
        qs : List ℕ
        qs = ps ++ y ∷ []

        g : Grows ps qs
        g = (y ∷ [], refl)

        long : length qs ≡ length ps + 1
        long = length-append ps (y ∷ [])

        place : ℕ → ℕ
        place j = if ltb j (length ps) then w.place j else n

        old : (j : ℕ) → j < length ps → place j ≡ w.place j
        old j q = rw (lt-ltb j (length ps) q)

        last : (j : ℕ) → length ps ≤ j → place j ≡ n
        last j q = rw (le-ltb j (length ps) q)

        below : (l z : ℕ) → l < n → MeetsAt c d qs l z → T (elem z ps)
        below l z q m =
            w.closed l z q (meets-back ps qs g l z m (omega (arith, q, at, small, h, m.place, m.small)))

        early : (j : ℕ) → 0 < j → j < length qs → place j < suc n
        early j p q = elim (dec_lt j (length ps)) [
          | yes u ↦ omega (arith, old j u, w.early j p u)
          | no u ↦ omega (arith, last j (omega arith))
        ]

        first : (j : ℕ) → 0 < j → j < length qs → FirstMet c d qs (place j) (get_or qs j 0)
        first j p q = elim (dec_lt j (length ps)) [
          | yes u ↦
              rw (old j u, grows_at ps qs g j 0 u) (first-grow ps qs g (w.place j) (get_or ps j 0) (w.first j p u))
          | no u ↦
              let e : j ≡ length ps = omega (arith, long) in
              rw (last j (omega arith), e, get_or-append_seam ps y [] 0) (record {
                here = meets-grow ps qs g n y (record {
                  number = i;
                  bit = b;
                  place = at;
                  small = small;
                  there = h;
                  allows = t;
                  leads = refl;
                });
                earlier = λ l r m. new (below l y r m);
              })
        ]

        rising : (k j : ℕ) → 0 < k → k < j → j < length qs → place k < place j
        rising k j p q r =
            let u : k < length ps = omega (arith, long) in
            elim (dec_lt j (length ps)) [
              | yes v ↦ omega (arith, old k u, old j v, w.rising k j p q v)
              | no v ↦ omega (arith, old k u, last j (omega arith), w.early k p u)
            ]

        closed : (l z : ℕ) → l < suc n → MeetsAt c d qs l z → T (elem z qs)
        closed l z q m = elim (dec_lt l n) [
          | yes u ↦ grows-elem ps qs g z (below l z u m)
          | no u ↦
              let e : l ≡ n = omega arith in
              let k : z ≡ y = (is_y z qs g (subst (λ k. MeetsAt c d qs k z) e m)).1 in
              rw k (last-elem y ps)
        ]

    meet_one : Numbered (suc n) (met c d b (get_or ps i 0) ps)
    meet_one = go (allowed c d b (get_or ps i 0)) refl (elem y ps) refl
      where
        go : (t : Bool) → allowed c d b (get_or ps i 0) ≡ t → (u : Bool) → elem y ps ≡ u
            → Numbered (suc n) (if t then (if u then ps else ps ++ y ∷ []) else ps)
        go false e u f = same (λ z m. absurd (subst T e (is_y z ps (grown ps) m).0))
        go true e true f =
            same (λ z m. subst (λ k. T (elem k ps)) (sym (is_y z ps (grown ps) m).1) (subst T (sym f) tt))
        go true e false f = more (subst T (sym e) tt) (λ t. subst T f t)

  -- ---- one pair, and all of them
  walk_more : (i : ℕ) (ps : List ℕ) → Numbered (2 * i) ps → Numbered (2 * suc i) (walked c d i ps)
  walk_more i ps w = go (ltb i (length ps)) refl
    where
      z : ℕ
      z = get_or ps i 0

      qs : List ℕ
      qs = met c d 0 z ps

      go : (b : Bool) → ltb i (length ps) ≡ b → Numbered (2 * suc i) (if b then met c d 1 z qs else ps)
      go true e =
          let h : i < length ps = ltb-true i (length ps) e in
          let g = met-grows c d 0 z ps in
          let l : i < length qs = omega (arith, h, grows-long ps qs g) in
          let m = meet_one (2 * i) i 0 ps (omega arith) (omega arith) h w in
          let k = meet_one (suc (2 * i)) i 1 qs (omega arith) (omega arith) l m in
          let s : suc (suc (2 * i)) ≡ 2 * suc i = omega arith in
          subst₂ (λ n x. Numbered n (met c d 1 x qs)) s (grows_at ps qs g i 0 h) k
      go false e =
          let h : length ps ≤ i = ltb-false i (length ps) e in
          record {
            place = w.place;
            early = λ j p q. omega (arith, w.early j p q);
            first = w.first;
            rising = w.rising;
            closed = λ l z q m. w.closed l z (omega (arith, h, m.place, m.small, m.there)) m;
          }

  -- THEOREM: the places at which pairs are first met rise with their numbers
  pub numbered : (place : ℕ → ℕ)
      × ((j : ℕ) → 0 < j → j < length (pairs c d) → FirstMet c d (pairs c d) (place j) (get_or (pairs c d) j 0))
      × ((i j : ℕ) → 0 < i → i < j → j < length (pairs c d) → place i < place j)
  unfolding pairs
  numbered =
      let w : Numbered 32 (walked_from c d 16 0 (0 ∷ [])) =
      walks-keep c d (λ i. Numbered (2 * i)) walk_more 16 0 (0 ∷ []) (record {
        place = λ j. j;
        early = λ j p q. absurd (omega arith);
        first = λ j p q. absurd (omega arith);
        rising = λ i j p q r. absurd (omega arith);
        closed = λ l z q m. absurd (omega arith);
      }) in (w.place, w.first, w.rising)

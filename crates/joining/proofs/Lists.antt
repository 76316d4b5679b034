-- Laws of a list to which a number is adjoined.
-- In order: Grows, grown, grows-trans, grows-elem, grows_at, grows-long; adjoin-grows, last-elem, adjoin-elem,
-- adjoin-each, adjoin-once.
-- Assumes nothing.
use Rattle.std.proofs.Common.{◌≡◌, ◌∷◌, ◌++◌, ◌≤◌, ◌<◌, if◌then◌else◌}
use Rattle.laws.proofs.All.{refl, sym, ap, subst, ◌∙◌, Bool, true, false, List, [], append_assoc}
use Rattle.laws.proofs.All.{append-nil, ℕ, arith, T, eqb, eqb_refl, length, get_or, length-append}
use Rattle.laws.proofs.All.{get_or-append, elem, any_append, →or_l, →or_r, Each, each_append, Once}
use Rattle.laws.proofs.All.{one, tot-append, once_more}
use Rattle.joining.specs.Joined.{adjoin}

-- qs is ps with more after it
abbrev pub Grows : List ℕ → List ℕ → Type 0
Grows ps qs = (es : List ℕ) × (qs ≡ ps ++ es)

pub grown : (ps : List ℕ) → Grows ps ps
grown ps = ([], sym (append-nil ps))

pub grows-trans : (ps qs rs : List ℕ) → Grows ps qs → Grows qs rs → Grows ps rs
grows-trans ps qs rs (es, e) (fs, f) = (es ++ fs, f ∙ ap (λ l. l ++ fs) e ∙ append_assoc ps es fs)

module _ (ps qs : List ℕ) where
  pub grows-elem : Grows ps qs → (x : ℕ) → T (elem x ps) → T (elem x qs)
  grows-elem (es, e) x t = rw (e, any_append (eqb x) ps es) (→or_l (elem x ps) (elem x es) t)

  pub grows_at : Grows ps qs → (i d : ℕ) → i < length ps → get_or qs i d ≡ get_or ps i d
  grows_at (es, e) i d h = rw e (get_or-append ps es d i h)

  pub grows-long : Grows ps qs → length ps ≤ length qs
  grows-long (es, e) = omega (arith, ap length e ∙ length-append ps es)

-- ---- a number adjoined
module _ (z : ℕ) (ps : List ℕ) where
  pub adjoin-grows : Grows ps (adjoin z ps)
  adjoin-grows = go (elem z ps)
    where
      go : (b : Bool) → Grows ps (if b then ps else ps ++ z ∷ [])
      go true = grown ps
      go false = (z ∷ [], refl)

  pub last-elem : T (elem z (ps ++ z ∷ []))
  last-elem =
      rw (any_append (eqb z) ps (z ∷ []))
      (→or_r (elem z ps) (elem z (z ∷ [])) (→or_l (eqb z z) false (eqb_refl z)))

  pub adjoin-elem : T (elem z (adjoin z ps))
  adjoin-elem = go (elem z ps) refl
    where
      go : (b : Bool) → elem z ps ≡ b → T (elem z (if b then ps else ps ++ z ∷ []))
      go true e = subst T (sym e) tt
      go false e = last-elem

  pub adjoin-each : (P : ℕ → Type 0) → Each P ps → P z → Each P (adjoin z ps)
  adjoin-each P h p = go (elem z ps)
    where
      go : (b : Bool) → Each P (if b then ps else ps ++ z ∷ [])
      go true = h
      go false = each_append P ps (z ∷ []) h (p, tt)

  pub adjoin-once : Once ps → Once (adjoin z ps)
  adjoin-once h = go (elem z ps) refl
    where
      go : (b : Bool) → elem z ps ≡ b → Once (if b then ps else ps ++ z ∷ [])
      go true e = h
      go false e = λ x.
          omega (arith, tot-append (one (eqb x)) ps (z ∷ []), once_more z ps h (λ t. subst T e t) x)

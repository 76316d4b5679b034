-- The search for the first group over the members of a set, from the lowest on.
-- In order: Sought, with sought-start, sought-none, sought-in, sought-yes, sought-no; member-sought; member-first.
-- Assumes nothing.
use Rattle.std.proofs.Common.{◌≡◌, ◌&&◌, ◌∷◌, ◌+◌, ◌-◌, if◌then◌else◌}
use Rattle.laws.proofs.All.{refl, sym, ap, ap₂, subst, ◌∙◌, Bool, true, false, List, [], map, ℕ}
use Rattle.laws.proofs.All.{get_or, from, first, first-filter, Each}
use Rattle.bitsets.specs.declared.BitSet.{BitSet}
use Rattle.bitsets.specs.BitSets.{holds, members_of}
use Rattle.codec_groups.specs.Groups.{source_at, Sources, group_of}
use Rattle.codec_groups.proofs.Ranks.{groups_of}
use Rattle.codec_steps.specs.BlockParts.{no_place, into_at, first_member, joins_at, first_group}

-- of the list `all` the part `left` is still to come; Q holds of what is left, and f of none of the groups before
pub record Sought (e : ℕ) (Q : ℕ → Type 0) (f : ℕ → Bool) (g : ℕ → ℕ) (all left : List ℕ) : Type 0 where
  pub within : Each Q left
  pub sought : first f e (map g all) ≡ first f e (map g left)

module _ (e : ℕ) (Q : ℕ → Type 0) (f : ℕ → Bool) (g : ℕ → ℕ) (all : List ℕ) where
  pub sought-start : Each Q all → Sought e Q f g all all
  sought-start b = record { within = b; sought = refl }

  module _ (left : List ℕ) (k : Sought e Q f g all left) where
    -- all looked at
    pub sought-none : left ≡ [] → e ≡ first f e (map g all)
    sought-none h = sym (k.sought ∙ ap (λ l. first f e (map g l)) h)

    -- the first that is left
    module _ (s : ℕ) (left' : List ℕ) (c : left ≡ s ∷ left') where
      each : Each Q (s ∷ left')
      each = subst (Each Q) c k.within

      pub sought-in : Q s
      sought-in = each.0

      -- by the answer b of the test of its group j
      module _ (j : ℕ) (q : j ≡ g s) (b : Bool) (r : b ≡ f j) where
        step : first f e (map g all) ≡ (if b then j else first f e (map g left'))
        step =
            k.sought ∙ ap (λ l. first f e (map g l)) c
            ∙ ap₂ (λ x y. if x then y else first f e (map g left')) (ap f (sym q) ∙ sym r) (sym q)

        pub sought-yes : b ≡ true → j ≡ first f e (map g all)
        sought-yes t = sym (step ∙ ap (λ x. if x then j else first f e (map g left')) t)

        pub sought-no : b ≡ false → Sought e Q f g all left'
        sought-no t = record {
          within = each.1;
          sought = step ∙ ap (λ x. if x then j else first f e (map g left')) t;
        }

-- what is sought
pub member-sought : (sets : List BitSet) (i : ℕ) (H B A : BitSet)
    → first (into_at sets A) no_place (map (group_of i H) (members_of B)) ≡ first_member sets i H B A
unfolding first_member
member-sought sets i H B A = refl

-- the first group of the members of P that have the word is the first of all its groups
pub member-first : (start first' : List ℕ) (sets : List BitSet) (P H B A : BitSet) (w i j : ℕ) → i ≡ get_or start w 0
    → j ≡ get_or start (w + 1) 0 → Sources first' i j H → ((x : ℕ) → holds B x ≡ (holds H x && holds P x))
    → first_member sets i H B A ≡ first_group start first' sets P w A
unfolding first_member first_group
member-first start first' sets P H B A w i j a b g h =
    ap (first (into_at sets A) no_place) (sym (groups_of first' i j H g P B h))
    ∙ first-filter (into_at sets A) (λ k. holds P (source_at first' k)) no_place (from i (j - i))
    ∙ ap₂ (λ m n. first (joins_at first' sets P A) no_place (from m (n - m))) a b

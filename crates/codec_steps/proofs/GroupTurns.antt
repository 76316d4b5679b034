-- A loop over the groups of a word that joins what each gives.
-- In order: between_first; Joining with join-start, join-next, join-done; edge-small, group-small; room-held, end-held, of groups of some table.
-- Assumes nothing.
use Rattle.std.proofs.Common.{◌≡◌, ◌||◌, ◌+◌, ◌-◌, ◌≤◌, ◌<◌}
use Rattle.laws.proofs.All.{sym, ap, ap₂, ◌∙◌, Bool, false, or_assoc, or-false, List, ℕ, suc}
use Rattle.laws.proofs.All.{add-one, arith, length, get_or, from, any}
use Rattle.std.proofs.Math.Logic.{∥∥₁_elim}
use Rattle.std.proofs.Props.{props}
use Rattle.table.specs.Edges.{Arrays}
use Rattle.bitsets.specs.declared.BitSet.{BitSet}
use Rattle.bitsets.specs.BitSets.{holds}
use Rattle.codec_groups.specs.Groups.{source_at, Within, Grouped, between}
use Rattle.codec_groups.proofs.Between.{between-empty}

-- the first number of a stretch, or one after it
pub between_first : (f : ℕ → Bool) (i j : ℕ) → i < j → between f i j ≡ (f i || between f (i + 1) j)
unfolding between
between_first f i j h =
    let z : j - i ≡ suc (j - (i + 1)) = omega arith in
    ap (λ n. any f (from i n)) z ∙ ap (λ k. f i || any f (from k (j - (i + 1)))) (sym (add-one i))

-- of the groups from i on and below j those from k on are still to come; R is what f gives for the others
pub record Joining (f : ℕ → ℕ → Bool) (i j k : ℕ) (R : BitSet) : Type 0 where
  pub low : i ≤ k
  pub joined : (u : ℕ) → between (f u) i j ≡ (holds R u || between (f u) k j)

module _ (f : ℕ → ℕ → Bool) (i j : ℕ) where
  pub join-start : (k : ℕ) (R : BitSet) → k ≡ i → ((u : ℕ) → holds R u ≡ false) → Joining f i j k R
  join-start k R e h = record {
    low = omega (arith, e);
    joined = λ u. ap₂ (λ b x. b || between (f u) x j) (sym (h u)) (sym e);
  }

  module _ (k : ℕ) (R : BitSet) (m : Joining f i j k R) where
    pub join-next : (R' : BitSet) → k < j → ((u : ℕ) → holds R' u ≡ (holds R u || f u k)) → Joining f i j (k + 1) R'
    join-next R' l h = record {
      low = omega (arith, m.low);
      joined = λ u. m.joined u ∙ ap (λ b. holds R u || b) (between_first (f u) k j l)
          ∙ sym (or_assoc (holds R u) (f u k) (between (f u) (k + 1) j))
          ∙ ap (λ b. b || between (f u) (k + 1) j) (sym (h u));
    }

    pub join-done : j ≤ k → (u : ℕ) → holds R u ≡ between (f u) i j
    join-done l u =
        sym (m.joined u ∙ ap (λ b. holds R u || b) (between-empty (f u) k j l) ∙ or-false (holds R u))

-- ---- what the code asks of a group
module _ (t : Arrays) (start first : List ℕ) (sets : List BitSet) (g : Grouped t start first sets) (w : ℕ) where
  pub edge-small : (k : ℕ) → Within start w k → get_or first k 0 < 2048
  edge-small k i = omega (arith, g.below w k i, g.fits.few)

  pub group-small : (k : ℕ) → Within start w k
      → (k < 2048) × (source_at first k < 128) × (k < length sets)
  group-small k i =
      let (a, b) = g.room w i.0 in
      (omega (arith, a, i.2), omega (arith, edge-small k i), omega (arith, b, i.2))

-- the same of groups of some table
module _ (start first : List ℕ) (sets : List BitSet) (g : ∥ ((t : Arrays) × Grouped t start first sets) ∥₁) (w : ℕ)
  where
    pub room-held : (k : ℕ) → Within start w k → (k < 2048) × (source_at first k < 128) × (k < length sets)
    room-held k i = ∥∥₁_elim g (hlevel props) (λ x. group-small x.0 start first sets x.1 w k i)

    pub end-held : w < 256 → get_or start (w + 1) 0 ≤ 2048
    end-held h = ∥∥₁_elim g (hlevel props) (λ x. (x.1.room w h).0)

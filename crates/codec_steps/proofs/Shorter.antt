-- What holds where the code walks the members of a set that have a word, and not the groups of the word.
-- In order: short-sources, short-room, short-inside, short-step; room-short, of groups of some table.
-- Assumes nothing.
use Rattle.std.proofs.Common.{◌≡◌, ◌&&◌, ◌+◌, ◌≤◌, ◌<◌}
use Rattle.laws.proofs.All.{sym, ap, subst, subst₂, ◌∙◌, List, ℕ, arith, T, length, get_or}
use Rattle.laws.proofs.All.{any, and→}
use Rattle.std.proofs.Math.Logic.{∥∥₁_elim}
use Rattle.std.proofs.Props.{props}
use Rattle.table.specs.Edges.{Arrays, rows_of}
use Rattle.bitsets.specs.declared.BitSet.{BitSet}
use Rattle.bitsets.specs.BitSets.{holds, members_of, yes_no}
use Rattle.codec_groups.specs.Groups.{have_at, Sources, Grouped, group_of, member_to}
use Rattle.codec_groups.proofs.Ranks.{group-below}
use Rattle.codec_steps.specs.StateSets.{along}
use Rattle.codec_steps.proofs.SetSteps.{step-members}

-- the groups of the word w stand from i on and below j, and H are the states that have it
module _ (t : Arrays) (start first : List ℕ) (sets : List BitSet) (g : Grouped t start first sets) (w : ℕ) (hw : w < 256)
    (x : 2304 ≤ length sets) (i j : ℕ) (a : i ≡ get_or start w 0)
    (b : j ≡ get_or start (w + 1) 0)
    (H : BitSet) (e : H ≡ have_at sets w) (l : i < j) where
  word-sources : Sources first (get_or start w 0) (get_or start (w + 1) 0) H
  word-sources =
      subst (Sources first (get_or start w 0) (get_or start (w + 1) 0)) (sym e)
      (g.sources w (get_or start w 0) (hw, omega arith, omega (arith, a, b, l)) x)

  pub short-sources : Sources first i j H
  short-sources = subst₂ (λ m n. Sources first m n H) (sym a) (sym b) word-sources

  pub short-room : i ≤ 2048
  short-room = omega (arith, l, b, (g.room w hw).0)

  module _ (S B : BitSet) (h : (s : ℕ) → holds B s ≡ (holds H s && holds S s)) where
    -- the group of a member stands in the arrays
    pub short-inside : (s : ℕ) → s < 128 → T (holds B s) → (group_of i H s < length sets) × (group_of i H s < 2048)
    short-inside s u v =
        let (p, q) = and→ (holds H s) (holds S s) (subst T (h s) v) in
        let k = group-below first i j H short-sources s u p in
        (omega (arith, k, b, (g.room w hw).1), omega (arith, k, b, (g.room w hw).0))

    -- the members step as the set does
    pub short-step : (R : BitSet) → ((u : ℕ) → holds R u ≡ any (member_to sets i H u) (members_of B))
        → yes_no t.states R ≡ along (rows_of t) (yes_no t.states S) w
    short-step R r =
        step-members t start first sets g S H B R w hw word-sources h
        (λ u. r u ∙ ap (λ m. any (member_to sets m H u) (members_of B)) a)

-- what the code asks of the groups of members, where the groups are those of some table
pub room-short : (start first : List ℕ) (sets : List BitSet) → ∥ ((t : Arrays) × Grouped t start first sets) ∥₁
    → (w : ℕ) → w < 256 → 2304 ≤ length sets → (i j : ℕ) → i ≡ get_or start w 0 → j ≡ get_or start (w + 1) 0
    → (H : BitSet) → H ≡ have_at sets w → i < j → (S B : BitSet)
    → ((s : ℕ) → holds B s ≡ (holds H s && holds S s))
    → (i ≤ 2048) × ((s : ℕ) → s < 128 → T (holds B s) → (group_of i H s < length sets) × (group_of i H s < 2048))
room-short start first sets g w hw x i j a b H e l S B h =
    ∥∥₁_elim g (hlevel props)
    (λ y. (
      short-room y.0 start first sets y.1 w hw x i j a b H e l,
      short-inside y.0 start first sets y.1 w hw x i j a b H e l S B h,
    ))

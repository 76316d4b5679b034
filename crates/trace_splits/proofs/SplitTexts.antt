-- The lines of the splits, and what comes of them.
-- In order: lines-on, lines-off; Told, told-start, told-end, told-ripe, told-crowded, told_more, told-less;
-- split-ends, split-crowded, split_done.
-- Assumes nothing.
use Rattle.std.proofs.Common.{None, ◌≡◌, ◌&&◌, ◌++◌, ◌+◌, ◌-◌, ◌≤◌, ◌<◌}
use Rattle.laws.proofs.All.{refl, sym, ap, ap₂, ◌∙◌, true, false, not, List, [], append_assoc}
use Rattle.laws.proofs.All.{append-nil, ℕ, zero, suc, arith, length, sum, length-map-range}
use Rattle.compile_graph.specs.declared.Graph.{Graph}
use Rattle.compile_graph.specs.Arcs.{Work}
use Rattle.compile_graph.specs.Splitting.{unfinished, goes_on, split}
use Rattle.compile_table.specs.TableOf.{table_of}
use Rattle.compile_graph.specs.Value.{arc_at, arcs_in, weight_at, weights_in, work_in}
use Rattle.compile_split.specs.SplitParts.{SplitInto, SplitTo, Splits, SplitAllInto, SplitAllTo}
use Rattle.compile_split.proofs.SplitLoop.{Going, going_start, goes_on-is, more-states, going-room, going-splits}
use Rattle.compile_split.proofs.SplitLoop.{going_on}
use Rattle.compile_split.proofs.SplitLoop.{going-grows}
use Rattle.compile_table.specs.declared.finish_table.TableRows.{TableRows}
use Rattle.compile_table.specs.Finishing.{Finished, TableIn}
use Rattle.compile_table.proofs.Finishing.{split-finished}
use Rattle.text.specs.Texts.{Added}
use Rattle.text.proofs.Adding.{added-same, ◌then◌}
use Rattle.trace_splits.specs.SplitText.{graph_line, split_line, split_lines, end_lines, split_text}
use Rattle.trace_splits.specs.ChoiceParts.{Ripe}

lines-on : (k q n : ℕ) (x : Work) → goes_on n x ≡ true
    → split_lines (suc k) q n x ≡ split_line q n x ++ split_lines k q n (split n x)
unfolding split_lines
lines-on k q n x e = rw (e, split_lines)

lines-off : (k q n : ℕ) (x : Work) → goes_on n x ≡ false → split_lines k q n x ≡ []
unfolding split_lines
lines-off zero q n x e = refl
lines-off (suc k) q n x e = rw (e, split_lines)

-- ---- the loop
-- the text put since the loop began has the lines of the splits that led from g to h, and those left are for h
pub record Told (n q : ℕ) (g h : Graph) (at : ℕ) (B C : List ℕ) (r : ℕ) : Type 0 where
  pub going : Going n g h
  pub text : List ℕ
  pub fuel : ℕ
  pub enough : sum (weights_in g) ≤ fuel + h.states
  pub left : text ++ split_lines fuel q n (work_in h) ≡ split_lines (sum (weights_in g)) q n (work_in g)
  pub added : Added text at B C r

module _ {n : ℕ} {g : Graph} (p : Splits n g) {at r : ℕ} {B C : List ℕ} where
  pub told-start : (q : ℕ) → Added [] at B C r → Told n q g g at B C r
  told-start q a = record {
    going = going_start n g p;
    text = [];
    fuel = sum (weights_in g);
    enough = omega arith;
    left = refl;
    added = a;
  }

  module _ {h : Graph} {q : ℕ} (t : Told n q g h at B C r) where
    -- THEOREM: nothing is left to split
    pub told-end : unfinished n (work_in h) ≡ false → Added (split_lines (sum (weights_in g)) q n (work_in g)) at B C r
    told-end m =
        added-same (sym (append-nil t.text) ∙ ap (λ l. t.text ++ l) (sym (lines-off t.fuel q n (work_in h)
        (goes_on-is n g h p t.going false m))) ∙ t.left) t.added

    module _ (on : unfinished n (work_in h) ≡ true) where
      -- a turn splits a state
      pub told-ripe : Ripe n h
      told-ripe = (
        t.going.fits,
        going-room n g h p t.going on,
        p.some,
        p.few,
        going-splits n g h p t.going on,
      )

      -- one line less left
      next : (k : ℕ) → t.fuel ≡ k → (j : ℕ) × (k ≡ suc j)
          × ((t.text ++ split_line q n (work_in h)) ++ split_lines j q n (split n (work_in h))
          ≡ split_lines (sum (weights_in g)) q n (work_in g))
      next zero z = absurd (omega (arith, more-states n g h p t.going on, t.enough))
      next (suc j) z = (
        j,
        refl,
        append_assoc t.text (split_line q n (work_in h)) (split_lines j q n (split n (work_in h)))
            ∙ ap (λ l. t.text ++ l) (sym (lines-on j q n (work_in h) (goes_on-is n g h p t.going true on)))
            ∙ ap (λ k. t.text ++ split_lines k q n (work_in h)) (sym z) ∙ t.left,
      )

      module _ {D : List ℕ} {e : ℕ} (line : Added (split_line q n (work_in h)) r C D e) where
        -- THEOREM: the split that makes too many edges is the last
        pub told-crowded : SplitInto n h None → Added (split_lines (sum (weights_in g)) q n (work_in g)) at B D e
        told-crowded full =
            let (j, k, l) = next t.fuel refl in
            let off = lines-off j q n (split n (work_in h))
            (ap (λ b. not b && unfinished n (split n (work_in h))) full)
            in
            let text = t.text ++ split_line q n (work_in h) in
            added-same (sym (append-nil text) ∙ ap (λ y. text ++ y) (sym off) ∙ l) (t.added then line)

        module _ {x : Graph} (s : SplitTo n h x) where
          grows : x.states ≡ suc h.states
          grows = going-grows n g h p t.going on x s

          -- THEOREM: the line of one split more
          pub told_more : Told n q g x at B D e
          told_more =
              let (j, k, l) = next t.fuel refl in
              record {
                going = going_on n g h p t.going on x s;
                text = t.text ++ split_line q n (work_in h);
                fuel = j;
                enough = omega (arith, t.enough, grows);
                left = ap (λ y. (t.text ++ split_line q n (work_in h)) ++ split_lines j q n y) s.work ∙ l;
                added = t.added then line;
              }

          -- a split makes a state more, and there are at most 128
          pub told-less : 128 - x.states < 128 - h.states
          told-less = omega (arith, grows, going-room n g h p t.going on)

-- ---- the whole text of splitting
states-of : (g : Graph) → g.states ≡ length (weights_in g)
states-of g = sym (length-map-range (weight_at g) g.states)

edges-of : (g : Graph) → g.edges ≡ length (arcs_in g)
edges-of g = sym (length-map-range (arc_at g) g.edges)

-- what all splits end with is finished
pub split-ends : {n : ℕ} {g r : Graph} → SplitAllTo n g r → Splits n g → 0 < sum (weights_in g) → Finished n r
split-ends {n} {g} {r} s p h =
    split-finished n (sum (weights_in g)) (work_in g) p.some p.few p.inv h r s.fits s.work

module _ (n : ℕ) (g : Graph) (q : ℕ) {at m : ℕ} {B C : List ℕ}
    (lines : Added (graph_line g.states g.edges ++ split_lines (sum (weights_in g)) q n (work_in g)) at B C m)
  where
    abbrev first : List ℕ
    first = graph_line (length (weights_in g)) (length (arcs_in g)) ++ split_lines (sum (weights_in g)) q n (work_in g)

    front : Added first at B C m
    front =
        added-same (ap₂ (λ k e. graph_line k e ++ split_lines (sum (weights_in g)) q n (work_in g)) (states-of g)
        (edges-of g)) lines

    pub split-crowded : SplitAllInto n g None → Added (split_text q n (work_in g)) at B C m
    unfolding split_text
    split-crowded full = added-same (rw full (sym (append-nil _))) front

    -- THEOREM: the graph, its splits, and what they end with
    pub split_done : {r : Graph} → SplitAllTo n g r → {rows : TableRows} → TableIn n r rows → {D : List ℕ} {e : ℕ}
        → Added (end_lines r.states r.edges rows.states) m C D e
        → Added (split_text q n (work_in g)) at B D e
    unfolding split_text
    split_done {r} s {rows} i l =
        let long : rows.states ≡ length (table_of n (work_in r)) =
        sym (length-map-range _ rows.states) ∙ ap length i.rows in
        added-same
        (ap₂ (λ k e. first ++ end_lines k e rows.states) (states-of r) (edges-of r)
        ∙ ap (λ t. first ++ end_lines (length (weights_in r)) (length (arcs_in r)) t) long
        ∙ ap (λ y. first ++ end_lines (length y.weights) (length y.arcs) (length (table_of n y))) s.work
        ∙ rw s.room refl)
        (front then l)

use Rattle.std.proofs.Common.{rules, ◌≡◌, ◌||◌, ◌+◌, ◌<◌}
use Rattle.laws.proofs.All.{sym, ap, subst, ◌∙◌, true, ℕ, arith, any}
use Rattle.table.specs.Edges.{places, bears, last_below}
use Rattle.table.specs.Lent.{edges_in}
use Rattle.table.specs.Chains.{after}
use Rattle.table.proofs.Edges.{bears-word, on_some, on-edge}
use Rattle.bitsets.specs.BitSets.{holds, members_of, set_at}
use Rattle.table_words.specs.Gathered.{holds_in}
use Rattle.window_pairs.specs.PairSets.{joins}
use Rattle.window_pairs.proofs.RowMarks.{Left, row-start, row-jump, row_put, row-skip, row_done}
use Rattle.window_pairs.proofs.Joins.{none-joined, joins-marked, joins-left, joins-only}
use Rattle.window_pairs.proofs.mark_edges.Goals.{Joined-is_taken, then-is_taken, else-is_taken}
use Rattle.window_pairs.proofs.mark_edges.Goals as goal

pub loop-at-init : goal.loop-at-init
loop-at-init c =
    let t = edges_in c.args.chains.now.edges in
    let n = places t in
    let w = c.args.w in
    let P = c.args.pairs.now in
    let f = joins t P w c.args.k in (
      c.last-at.ensures.edge,
      (λ u. c.none-joined.ensures.answer u ∙ sym (none-joined _ _ c.none-last.ensures.answer)),
      row-jump _ f n n _ (row-start c.args.out.now f n) _
          (λ u v. on_some t w n _ c.last-at.ensures.answer (f u v) (λ i b. joins-only t P w c.args.k u v i b)),
    )

-- the turn has joined what it remembers
joined-on : (c : Joined-is_taken)
    → (x : ℕ) → holds c.if-is_taken.joined x ≡ any (holds_in c.args.targets.now x) (members_of c.if-is_taken.last)
joined-on c x =
    let A = c.args.targets.now in
    elim c.if-is_taken.branch [
      | then-is_taken w ↦ ap (λ S. holds S x) w.joined-is ∙ w.union_again-joined.ensures.answer x
          ∙ sym (ap (λ S. any (holds_in A x) (members_of S)) w.last-is)
      | else-is_taken w ↦ ap (λ S. holds S x) w.joined-is ∙ c.loop-at.invariant.1 x
          ∙ sym (ap (λ S. any (holds_in A x) (members_of S)) w.last-is)
    ]

-- the edge in hand
held : (c : Joined-is_taken) → let t = edges_in c.args.chains.now.edges in
    (c.in-Some.i < places t) × (bears t c.args.w c.in-Some.i ≡ true)
held c = search rules

-- the turn has marked where its edge leads
marked-on : (c : Joined-is_taken) → let t = edges_in c.args.chains.now.edges in
    Left c.args.out.now (joins t c.args.pairs.now c.args.w c.args.k) (places t) c.in-Some.i c.if-is_taken.out
marked-on c =
    let a = c.args in
    let l = c.loop-at in
    let e = a.chains.now.edges in
    let t = edges_in e in
    let n = places t in
    let P = a.pairs.now in
    let f = joins t P a.w a.k in
    let i = c.in-Some.i in
    let m : Left a.out.now f n (i + 1) l.out =
    subst (λ o. Left a.out.now f n (after o) l.out) c.in-Some.is l.invariant.2 in
    elim c.if-is_taken.branch [
      | then-is_taken u ↦ rw u.out-is (row_put _ f n i l.out m _
          (u.put_into.ensures.written.0 ∙ sym (m.long ∙ c.requires.2))
          (λ x y h. u.put_into.ensures.written.1 x y ∙ ap (λ b. holds (set_at l.out x) y || b)
          (sym (joins-marked t e.fits.few a.w a.k a.have _ c.requires.1 P x y i _ _
          (held c).1 (sym c.is_taken.ensures.answer ∙ u.if-is_taken.true)
          u.meet-set.ensures.answer u.union_again-joined.ensures.answer))))
      | else-is_taken u ↦ rw u.out-is (row-skip _ f n i l.out m
          (λ x y. joins-left t P a.w a.k x y i (sym c.is_taken.ensures.answer ∙ u.if-is_taken.false)))
    ]

pub loop-at-preserved : goal.loop-at-preserved
loop-at-preserved c =
    let t = edges_in c.args.chains.now.edges in
    let n = places t in
    let w = c.args.w in
    let P = c.args.pairs.now in
    let f = joins t P w c.args.k in
    let i = c.in-Some.i in
    let d = (goal.at.loop-at-preserved c).Joined-is_taken in
    let h = held d in
    let q = c.before-at.ensures.answer ∙ ap (λ v. last_below t v i) (bears-word t w i h.1) in (
      on-edge t w i n _ q (omega arith),
      joined-on d,
      row-jump _ f n i _ (marked-on d) _
          (λ u v. on_some t w i _ q (f u v) (λ g b. joins-only t P w c.args.k u v g b)),
    )

pub returns : goal.returns
returns c =
    let l = c.loop-at in
    let z : after l.at ≡ 0 = search rules in
    record { written = row_done _ _ _ (after l.at) _ l.invariant.2 z }

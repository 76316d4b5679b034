use Rattle.std.proofs.Common.{rules, ◌≡◌, ◌+◌, ◌<◌}
use Rattle.laws.proofs.All.{true, subst, ap, ◌∙◌, arith}
use Rattle.table.specs.Edges.{places, bears, last_below}
use Rattle.table.specs.Lent.{edges_in}
use Rattle.table.specs.Chains.{after}
use Rattle.table.proofs.Edges.{bears-word, on-edge}
use Rattle.table_words.proofs.Gathers.{Partly, part-start, part-jump, part_edge, part-done}
use Rattle.table_words.proofs.gather.Goals as goal

pub loop-at-init : goal.loop-at-init
loop-at-init c =
    let t = edges_in c.args.chains.now.edges in
    let n = places t in (
      c.last-at.ensures.edge,
      part-jump t c.args.w c.args.k n _ _ n (part-start t c.args.w c.args.k n _ _ c.requires.1 c.none-have.ensures.answer)
          _ c.last-at.ensures.answer,
    )

pub loop-at-preserved : goal.loop-at-preserved
loop-at-preserved c =
    let t = edges_in c.args.chains.now.edges in
    let n = places t in
    let l = c.loop-at in
    let w = c.args.w in
    let k = c.args.k in
    let e = c.in-Some.e in
    let h : (e < n) × (bears t w e ≡ true) = search rules in
    let q = c.before-at.ensures.answer ∙ ap (λ v. last_below t v e) (bears-word t w e h.1) in
    let m : Partly t w k n (e + 1) l.have l.targets =
    subst (λ o. Partly t w k n (after o) l.have l.targets) c.in-Some.is l.invariant.1 in
    let g = c.with_edge-have.ensures in (
      on-edge t w e n _ q (omega arith),
      part-jump t w k n _ _ e (part_edge t w k n _ _ e m h.1 _ _ g.answer g.written.0 g.written.1) _ q,
    )

pub returns : goal.returns
returns c =
    let l = c.loop-at in
    let z : after l.at ≡ 0 = search rules in
    record { answer = part-done _ _ _ (after l.at) _ _ z l.invariant.1 }

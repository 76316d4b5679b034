use Rattle.std.proofs.Common.{◌≡◌, ◌<◌}
use Rattle.laws.proofs.All.{refl, ℕ, arith, length-replicate, lt-ltb, le-ltb}
use Rattle.table.specs.Edges.{places}
use Rattle.table.specs.Lent.{edges_in}
use Rattle.table.proofs.Edges.{chain-start, chain-skip, chain-put}
use Rattle.table.proofs.linked.Chains.of.Goals.{then-e-edges, else-e-edges}
use Rattle.table.proofs.linked.Chains.of.Goals as goal

pub loop-e-init : goal.loop-e-init
loop-e-init c = (refl, chain-start (edges_in c.args.edges) _ (length-replicate {A = ℕ} 2048 0))

pub loop-e-preserved : goal.loop-e-preserved
loop-e-preserved c =
    let l = c.loop-e in
    let t = edges_in c.args.edges in
    let r : l.e < 2048 = omega (arith, c.args.edges.fits.few) in
    let k = l.invariant.1 in
    elim c.if-e-edges.branch [
      | then-e-edges w ↦ rw w.chains-is (
        l.invariant.0,
        chain-put t l.e l.chains.1.0 l.chains.1.1.0 k r w.wide-w.result (lt-ltb _ _ w.if-e-edges.true)
            w.wide-w.ensures.answer.0 w.wide-w.ensures.answer.1,
      )
      | else-e-edges w ↦ rw w.chains-is
          (l.invariant.0, chain-skip t l.e l.chains.1.0 l.chains.1.1.0 k r (le-ltb _ _ w.if-e-edges.false))
    ]

pub invariant_of-chains : goal.invariant_of-chains
invariant_of-chains c =
    let l = c.loop-e in
    let full : l.e ≡ places (edges_in c.args.edges) = omega (arith, c.loop-e-test.false, l.auto.e-end) in
    record { linked = rw l.invariant.0 (record { fits = c.args.edges.fits; chained = rw full at l.invariant.1 }) }

pub returns : goal.returns
returns c = record { answer = rw c.loop-e.invariant.0 refl }

use Rattle.std.proofs.Common.{◌≡◌}
use Rattle.laws.proofs.All.{subst, ℕ, arith, length-replicate}
use Rattle.compile_table.proofs.Ranks.{rank-small}
use Rattle.compile_table.proofs.Tables.{Laid, laid_none, laid-yes, laid-no, laid_end}
use Rattle.compile_table.proofs.finish_table.finish_table.Goals as goal
use Rattle.compile_table.proofs.finish_table.finish_table.Goals.{else-set-t, then-set-t}

pub loop-t-init : goal.loop-t-init
loop-t-init c =
    let p = c.args in (
      c.requires,
      c.reach_rows-set.ensures.answer,
      c.ranks-index.ensures.answer,
      laid_none p.n p.g c.requires _ c.reach_rows-set.ensures.answer _ c.ranks-index.ensures.answer _
          (length-replicate {A = ℕ} 2048 0) (length-replicate {A = ℕ} 2048 0),
    )

pub add_row-rows-requires : goal.add_row-rows-requires
add_row-rows-requires c =
    let l = c.loop-t in (
      c.requires,
      c.loop-t-test.true,
      omega (
        arith,
        l.invariant.3.counted,
        rank-small c.reach_rows-set.result
            l.t,
        c.requires.fits.few,
      ),
      λ s h. omega (
        arith,
        c.ranks-index.ensures.answer s h,
        rank-small
            c.reach_rows-set.result s,
        c.requires.fits.few,
      ),
    )

pub overflow_add-count : goal.overflow_add-count
overflow_add-count c =
    let l = c.loop-t in
    omega (
      arith,
      l.invariant.3.counted,
      rank-small c.reach_rows-set.result
          l.t,
      c.requires.fits.few,
    )

pub loop-t-preserved : goal.loop-t-preserved
loop-t-preserved c =
    let l = c.loop-t in
    let p = c.args in
    let S = c.reach_rows-set.result in
    let I = c.ranks-index.result in
    elim c.if-set-t.branch [
      | then-set-t w ↦ (
        l.invariant.0,
        l.invariant.1,
        l.invariant.2,
        rw (w.rows-is, w.count-is)
            (laid-yes p.n p.g l.invariant.0 S l.invariant.1 I l.invariant.2 l.t l.count l.rows l.invariant.3
            w.if-set-t.true
            w.add_row-rows.result w.add_row-rows.ensures.answer),
      )
      | else-set-t w ↦ (
        l.invariant.0,
        l.invariant.1,
        l.invariant.2,
        rw (w.rows-is, w.count-is)
            (laid-no p.n p.g l.invariant.0 S l.invariant.1 I l.invariant.2 l.t l.count l.rows l.invariant.3
            w.if-set-t.false),
      )
    ]

pub returns : goal.returns
returns c =
    let l = c.loop-t in
    let p = c.args in
    let S = c.reach_rows-set.result in
    let I = c.ranks-index.result in
    let e : l.t ≡ p.g.states = omega arith in
    record {
      answer = laid_end p.n p.g l.invariant.0 S l.invariant.1 I l.invariant.2 l.count l.rows
          (subst (λ t. Laid p.n p.g l.invariant.0 S l.invariant.1 I l.invariant.2 t l.count l.rows) e l.invariant.3);
    }

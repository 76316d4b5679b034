-- `unweave` meets its contract: the checks, then the words read across.
use Rattle.std.proofs.Common.{◌++◌}
use Rattle.laws.proofs.All.{sym, ap, ◌∙◌, arith, length, drop}
use Rattle.answer.specs.Outcomes.{done, onward}
use Rattle.answer.proofs.Answered.{ends-onward, finished}
use Rattle.answer.proofs.Outcomes.{handed_on}
use Rattle.weaving.specs.Weaving.{unwoven, checked, unweave_into}
use Rattle.weaving.proofs.Weaving.{length-unwoven}
use Rattle.weaving.proofs.Checks.{Passed, passed}
use Rattle.weaving.proofs.unweave.Goals.{In_ok-check}
use Rattle.weaving.proofs.unweave.Goals as goal

passes : (c : In_ok-check) → let a = c.args in Passed a.d (length a.words.now) (length a.out.now)
passes c = let a = c.args in passed a.d (length a.words.now) (length a.out.now) c.in_ok-check.ensures.answer

pub nonzero_div-words : goal.nonzero_div-words
nonzero_div-words c = omega (arith, (passes c).deep)

pub put_columns-requires : goal.put_columns-requires
put_columns-requires c =
    let p = passes (goal.at.put_columns-requires c).In_ok-check in
    (omega (arith, p.rows, p.columns), omega (arith, p.rows, p.columns, p.fits))

pub returns-in_err-check : goal.returns-in_err-check
unfolding unweave_into
returns-in_err-check c =
    let a = c.args in
    let o = checked a.d (length a.words.now) (length a.out.now) in
    let w = ends-onward o (λ n. done (unwoven a.d a.words.now)) _ a.out.now (sym c.in_err-check.ensures.answer) in
    rw (handed_on _ _ c.from_residual.ensures.1) (record { answer = w.0; written = w.1 })

pub returns : goal.returns
unfolding unweave_into unwoven
returns c =
    let p = passes (goal.at.returns c).In_ok-check in
    let a = c.args in
    let ws = a.words.now in
    let r = unwoven a.d ws in
    let w = finished (unweave_into a.d (length a.out.now) ws) r a.out.now _ (length ws)
    (ap (λ o. onward o (λ n. done r)) p.done) (sym (length-unwoven a.d ws p.good))
    (c.put_columns.ensures.written ∙ ap (λ n. r ++ drop n a.out.now) (sym p.columns)) in
    record { answer = w.0; written = w.1 }

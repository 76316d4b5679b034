use Rattle.laws.proofs.All.{sym, ap, ◌∙◌, arith, lt-ltb, drop-length}
use Rattle.table.specs.Edges.{rows_of}
use Rattle.table.proofs.RowsOf.{length-rows}
use Rattle.codec_steps.specs.StateSets.{able}
use Rattle.codec_steps.proofs.StateSteps.{states-every}
use Rattle.codec_steps.proofs.readers.Goals as goal

pub loop-j-init : goal.loop-j-init
loop-j-init c = λ t g.
    states-every t.states (rows_of t) (length-rows t) c.every-able.result
    (λ i h. c.every-able.ensures.answer i ∙ lt-ltb i 128 (omega (arith, g.fits.few)))
    ∙ sym (ap (able (rows_of t)) (drop-length c.args.words.now))

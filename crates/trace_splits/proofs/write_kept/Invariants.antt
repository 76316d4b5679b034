-- The text put since the loop began has the edges passed.
use Rattle.std.proofs.Common.{◌≡◌}
use Rattle.text.specs.Texts.{Added}
use Rattle.trace_splits.proofs.Kept.{keys_text}
use Rattle.trace_splits.proofs.write_kept.Given as goal

abbrev pub invariant-loop-key : goal.invariant-loop-key
invariant-loop-key l =
    let begin = l.initial.to in
    (l.to.out.ghost_name ≡ begin.out.ghost_name)
    × Added (keys_text l.q l.kept l.key-index) begin.at begin.out.now l.to.out.now l.to.at

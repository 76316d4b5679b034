-- The entries before j do not lead into the set by the word.
use Rattle.std.proofs.Common.{◌≡◌}
use Rattle.codec_steps.specs.BlockParts.{no_place, enters_at}
use Rattle.codec_block.proofs.Scans.{scan}
use Rattle.codec_block.proofs.entries.first_into.Given as goal

abbrev pub invariant-loop-j : goal.invariant-loop-j
invariant-loop-j l =
    scan (enters_at l.word l.next l.w l.ahead) no_place l.e l.end
    ≡ scan (enters_at l.word l.next l.w l.ahead) no_place l.j l.end

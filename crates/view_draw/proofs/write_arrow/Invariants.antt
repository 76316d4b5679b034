-- The text put since the loop began has what the data passed add.
use Rattle.std.proofs.Common.{◌≡◌}
use Rattle.text.specs.Texts.{Added}
use Rattle.table.specs.Value.{word_at, next_at}
use Rattle.view_draw.specs.Drawn.{others}
use Rattle.view_draw.proofs.write_arrow.Given as goal

abbrev pub invariant-loop-j : goal.invariant-loop-j
invariant-loop-j l =
    let begin = l.initial.to in
    (l.to.out.ghost_name ≡ begin.out.ghost_name)
    × Added (others l.code.q (word_at l.code l.s) (next_at l.code l.s) l.d l.j) begin.at begin.out.now l.to.out.now l.to.at

use Rattle.std.proofs.Common.{◌≡◌, ◌||◌, ◌+◌, ◌≤◌}
use Rattle.laws.proofs.All.{sym, ap, ◌∙◌, arith, get_or}
use Rattle.bitsets.specs.BitSets.{holds}
use Rattle.codec_groups.specs.Groups.{between}
use Rattle.codec_groups.proofs.Between.{between-empty}
use Rattle.codec_steps.specs.BlockParts.{holds_from}
use Rattle.codec_steps.proofs.GroupTurns.{between_first, room-held}
use Rattle.codec_block.proofs.blocks.has_word.Goals.{After-has, After-source}
use Rattle.codec_block.proofs.blocks.has_word.Goals as goal

-- what the test of a turn says of the groups from k on
turn : (c : After-has)
    → let g = c.args.groups.now in
    let f = holds_from g.first.now c.args.set in
    let end = get_or g.start.now (c.args.w + 1) 0 in
    between f (get_or g.start.now c.args.w 0) end ≡ (c.has.result || between f (c.loop-k.k + 1) end)
turn c =
    let g = c.args.groups.now in
    let f = holds_from g.first.now c.args.set in
    let end = get_or g.start.now (c.args.w + 1) 0 in
    c.loop-k.invariant ∙ between_first f c.loop-k.k end c.loop-k-test.true
    ∙ ap (λ b. b || between f (c.loop-k.k + 1) end)
    (ap (holds c.args.set) (sym c.source.ensures.answer) ∙ sym c.has.ensures.answer)

pub returns-then-has : goal.returns-then-has
returns-then-has c =
    let g = c.args.groups.now in
    record {
      answer = sym (turn (goal.at.returns-then-has c).After-has
          ∙ ap (λ b. b || between (holds_from g.first.now c.args.set) (c.loop-k.k + 1)
          (get_or g.start.now (c.args.w + 1) 0)) c.if-has.true);
    }

pub loop-k-preserved : goal.loop-k-preserved
loop-k-preserved c =
    let g = c.args.groups.now in
    turn (goal.at.loop-k-preserved c).After-has
    ∙ ap (λ b. b || between (holds_from g.first.now c.args.set) (c.loop-k.k + 1)
    (get_or g.start.now (c.args.w + 1) 0)) c.if-has.false

pub returns : goal.returns
returns c =
    let ends : get_or c.args.groups.now.start.now (c.args.w + 1) 0 ≤ c.loop-k.k = omega (arith, c.loop-k-test.false) in
    record { answer = sym (c.loop-k.invariant ∙ between-empty _ _ _ ends) }

pub source-requires : goal.source-requires
source-requires c =
    let g = c.args.groups.now in
    (room-held g.start.now g.first.now g.sets.now g.grouped c.args.w c.loop-k.k
    (omega arith, omega arith, c.loop-k-test.true)).0

pub has-requires : goal.has-requires
has-requires c =
    let g = c.args.groups.now in
    omega (
      arith,
      c.source.ensures.answer,
      (room-held g.start.now g.first.now g.sets.now g.grouped c.args.w c.loop-k.k
          (omega arith, omega arith, c.loop-k-test.true)).1,
    )

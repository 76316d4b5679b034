-- The checks in their order, then the words of the blocks and the closing words.
use Rattle.std.proofs.Common.{◌≡◌, ◌+◌, ◌≤◌, ◌^◌, ◌<◌}
use Rattle.laws.proofs.All.{sym, ap, subst, ◌∙◌, true, arith, ltb-true, ltb-false}
use Rattle.laws.proofs.All.{T, length, Below}
use Rattle.answer.specs.declared.Refusal.TheVariants.{Field, ShortOutput}
use Rattle.table.specs.Paths.{recording}
use Rattle.table.specs.Value.{Ready, ready, code_in}
use Rattle.table.specs.Edges.{Arrays}
use Rattle.table.specs.Lent.{edges_in}
use Rattle.table.proofs.Paths.{length-recording}
use Rattle.table.proofs.ReadyTables.{ready→, ready-formed}
use Rattle.codec.specs.With.{encoded_with}
use Rattle.answer.specs.FirstBad.{all_below}
use Rattle.answer.proofs.FirstBad.{all_below→}
use Rattle.answer.proofs.Outcomes.{handed_on}
use Rattle.codec_spell.proofs.Writing.{recorded-in}
use Rattle.answer.proofs.Answered.{declined, finished}
use Rattle.codec.proofs.Tabled.{encode-7, encode-13, encode-last}
use Rattle.codec_encode.proofs.encode_with.Goals.{After-of-edges, In_ok-check_below, Else-lacks_room, Else-not-is_ready}
use Rattle.codec_encode.proofs.encode_with.Goals as goal

is-ready : (c : Else-not-is_ready) → ready c.args.t ≡ true
is-ready c = sym c.is_ready.ensures.answer ∙ c.if-not-is_ready.false

ready-table : (c : Else-not-is_ready) → Ready c.args.t
ready-table c = ready→ c.args.t (subst T (sym (is-ready c)) tt)

-- the tail datum is a block
tail-small : (c : Else-not-is_ready)
    → let t = c.args.t in t.tail < 2 ^ t.p
tail-small c = (ready-formed c.args.t (subst T (sym (is-ready c)) tt)).range.tail

-- as many data as the table has
ways-are : (c : After-of-edges) → c.of-edges.result.ways ≡ 2 ^ c.args.t.p
ways-are c = ap (λ (a : Arrays). a.ways) c.of-edges.ensures.answer

room : (c : Else-lacks_room)
    → let a = c.args in
    length a.blocks.now + a.t.lookahead ≤ length a.out.now
room c = ltb-false _ _ (sym c.lacks_room.ensures.answer ∙ c.if-lacks_room.false)

blocks-below : (c : In_ok-check_below) → Below c.of-edges.result.ways c.args.blocks.now
blocks-below c =
    let ds = c.args.blocks.now in
    (all_below→ c.of-edges.result.ways ds ds ds (sym (c.in_ok-check_below.ensures.answer ds))).0

-- with room enough only the blocks are left to check
last : (c : Else-lacks_room) → let a = c.args in
    ready a.t ≡ true → c.of-edges.result.ways ≡ 2 ^ a.t.p → encoded_with a.t (length a.out.now) a.blocks.now
    ≡ all_below c.of-edges.result.ways a.blocks.now (recording (code_in a.t) a.blocks.now)
last c r n =
    let a = c.args in
    encode-last a.t (length a.out.now) a.blocks.now r (room c)
    ∙ ap (λ k. all_below k a.blocks.now (recording (code_in a.t) a.blocks.now)) (sym n)

pub returns-then-not-is_ready : goal.returns-then-not-is_ready
returns-then-not-is_ready c =
    let a = c.args in
    let w = declined (encoded_with a.t (length a.out.now) a.blocks.now) Field a.out.now
    (encode-7 a.t (length a.out.now) a.blocks.now
    (sym c.is_ready.ensures.answer ∙ c.if-not-is_ready.true)) in
    record { answer = w.0; written = w.1 }

pub of-edges-requires : goal.of-edges-requires
of-edges-requires c = ready-table (goal.at.of-edges-requires c).Else-not-is_ready

pub returns-then-lacks_room : goal.returns-then-lacks_room
returns-then-lacks_room c =
    let a = c.args in
    let w = declined (encoded_with a.t (length a.out.now) a.blocks.now) ShortOutput a.out.now
    (encode-13 a.t (length a.out.now) a.blocks.now (is-ready (goal.at.returns-then-lacks_room c).Else-not-is_ready)
    (ltb-true _ _ (sym c.lacks_room.ensures.answer ∙ c.if-lacks_room.true))) in
    record { answer = w.0; written = w.1 }

pub returns-in_err-check_below : goal.returns-in_err-check_below
returns-in_err-check_below c =
    let i = goal.at.returns-in_err-check_below c in
    let a = c.args in
    let w = declined (encoded_with a.t (length a.out.now) a.blocks.now) _ a.out.now
    (last i.Else-lacks_room (is-ready i.Else-not-is_ready) (ways-are i.After-of-edges)
    ∙ sym (c.in_err-check_below.ensures.answer (recording (code_in a.t) a.blocks.now))) in
    rw (handed_on _ _ c.from_residual.ensures.1) (record { answer = w.0; written = w.1 })

pub overflow_add-end : goal.overflow_add-end
overflow_add-end c = omega (arith, room (goal.at.overflow_add-end c).Else-lacks_room)

pub write_recording-requires : goal.write_recording-requires
write_recording-requires c =
    let n = ways-are (goal.at.write_recording-requires c).After-of-edges in (
      blocks-below (goal.at.write_recording-requires c).In_ok-check_below,
      omega (arith, n, tail-small (goal.at.write_recording-requires c).Else-not-is_ready),
      omega arith,
      omega (arith, room (goal.at.write_recording-requires c).Else-lacks_room),
    )

pub returns : goal.returns
returns c =
    let i = goal.at.returns c in
    let a = c.args in
    let ds = a.blocks.now in
    let out = a.out.now in
    let w = finished (encoded_with a.t (length out) ds) (recording (code_in a.t) ds) out _ (length ds + a.t.lookahead)
    (last i.Else-lacks_room (is-ready i.Else-not-is_ready) (ways-are i.After-of-edges)
    ∙ sym (c.in_ok-check_below.ensures.answer (recording (code_in a.t) ds)))
    (sym (length-recording (code_in a.t) ds))
    (recorded-in a.t (edges_in c.of-edges.result) ds out _ c.of-edges.ensures.answer
    c.write_recording.ensures.written) in
    record { answer = w.0; written = w.1 }

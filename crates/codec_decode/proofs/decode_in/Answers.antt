-- The checks in their order, then the blocks.
use Rattle.std.proofs.Common.{◌≡◌, ◌++◌, ◌-◌, ◌^◌, ◌≤◌}
use Rattle.laws.proofs.All.{refl, sym, ap, ap₂, subst, ◌∙◌, true, arith, T, length, drop, map, range, length-take-le}
use Rattle.answer.specs.declared.Refusal.TheVariants.{Field}
use Rattle.table.specs.Value.{Ready, ready, code_in}
use Rattle.table.proofs.ReadyTables.{ready→}
use Rattle.table.specs.Edges.{rows_of}
use Rattle.table.proofs.RowsOf.{fits-lent}
use Rattle.codec_steps.specs.Reading.{block, decode}
use Rattle.codec_steps.specs.BlockParts.{under}
use Rattle.codec.specs.With.{decoded_with}
use Rattle.answer.proofs.Answered.{declined, finished}
use Rattle.answer.proofs.Outcomes.{handed_on}
use Rattle.answer.specs.Outcomes.{done}
use Rattle.codec.specs.Answers.{decoded}
use Rattle.codec.proofs.Tabled.{decode-7, decode-ready, decode-within}
use Rattle.codec.proofs.Decoded.{length-decode, decoded-in}
use Rattle.codec_decode.proofs.decode_in.Goals.{Else-not-is_ready, In_ok-check_words}
use Rattle.codec_decode.proofs.decode_in.Given.{Over}
use Rattle.codec_decode.proofs.decode_in.Goals as goal

is-ready : {g : Over} (c : Else-not-is_ready g) → ready c.args.t.now ≡ true
is-ready c = sym c.is_ready.ensures.answer ∙ c.if-not-is_ready.false

ready-table : {g : Over} (c : Else-not-is_ready g) → Ready c.args.t.now
ready-table c = ready→ c.args.t.now (subst T (sym (is-ready c)) tt)

-- the words pass
passed : {g : Over} (c : In_ok-check_words g) → let a = c.args in
    decoded (code_in a.t.now) (length a.out.now) a.words.now ≡ done (decode (code_in a.t.now) a.words.now)
passed c = c.in_ok-check_words.ensures.answer (code_in c.args.t.now) refl refl

-- so there are enough of them, and room for their blocks
good-room : {g : Over} (c : In_ok-check_words g) → let a = c.args in
    (a.t.now.lookahead ≤ length a.words.now) × (length a.words.now - a.t.now.lookahead ≤ length a.out.now)
good-room c =
    let a = c.args in
    decode-within (code_in a.t.now) (length a.out.now) a.words.now (decode (code_in a.t.now) a.words.now) (passed c)

pub returns-then-not-is_ready : goal.returns-then-not-is_ready
returns-then-not-is_ready g c =
    let a = c.args in
    let w = declined (decoded_with a.t.now (length a.out.now) a.words.now) Field a.out.now
    (decode-7 a.t.now (length a.out.now) a.words.now
    (sym c.is_ready.ensures.answer ∙ c.if-not-is_ready.true)) in
    record { answer = w.0; written = w.1 }

pub returns-in_err-check_words : goal.returns-in_err-check_words
returns-in_err-check_words g c =
    let a = c.args in
    let w = declined (decoded_with a.t.now (length a.out.now) a.words.now) _ a.out.now
    (decode-ready a.t.now (length a.out.now) a.words.now
    (is-ready (goal.at.returns-in_err-check_words g c).Else-not-is_ready)
    ∙ c.in_err-check_words.ensures.answer (code_in a.t.now) refl refl) in
    rw (handed_on _ _ c.from_residual.ensures.1) (record { answer = w.0; written = w.1 })

pub check_words-requires : goal.check_words-requires
check_words-requires g c = (ready-table c).short

pub of-requires : goal.of-requires
of-requires g c = ready-table (goal.at.of-requires g c).Else-not-is_ready

pub overflow_sub-k : goal.overflow_sub-k
overflow_sub-k g c = (good-room (goal.at.overflow_sub-k g c).In_ok-check_words).0

pub read_any-requires : goal.read_any-requires
read_any-requires g c =
    let i = goal.at.read_any-requires g c in
    let k = length c.args.words.now - c.args.t.now.lookahead in
    let b = good-room i.In_ok-check_words in
    let e : c.of.result.states ≡ c.args.t.now.states = ap (λ t. t.states) c.of.ensures.answer in
    let s = c.requires.0 (fits-lent c.args.t.now (2 ^ c.args.t.now.p) (ready-table i.Else-not-is_ready) refl).few in (
      omega (arith, b.0, length-take-le k c.args.out.now b.1),
      omega (arith, e, s.0),
      c.requires.1,
      omega (arith, e, s.1),
      c.requires.2,
    )

pub returns : goal.returns
returns g c =
    let i = goal.at.returns g c in
    let a = c.args in
    let ws = a.words.now in
    let out = a.out.now in
    let n = length ws - a.t.now.lookahead in
    let w = finished (decoded_with a.t.now (length out) ws) (decode (code_in a.t.now) ws) out _ n
    (decode-ready a.t.now (length out) ws (is-ready i.Else-not-is_ready) ∙ passed i.In_ok-check_words)
    (length-decode (code_in a.t.now) ws)
    (ap (λ l. l ++ drop n out) (c.read_any.ensures.written
    ∙ ap₂ (λ t k. map (block (under (rows_of t) a.t.now.memory a.t.now.lookahead) ws) (range k)) c.of.ensures.answer
    (length-take-le n out (good-room i.In_ok-check_words).1))
    ∙ decoded-in a.t.now (2 ^ a.t.now.p) ws (drop n out) refl) in
    record { answer = w.0; written = w.1 }

pub slice_bounds-read_any-end : goal.slice_bounds-read_any-end
slice_bounds-read_any-end g c = (good-room (goal.at.slice_bounds-read_any-end g c).In_ok-check_words).1

pub slice_bounds-read_any-end-2 : goal.slice_bounds-read_any-end-2
slice_bounds-read_any-end-2 g c =
    sym (length-take-le _ c.args.out.now (good-room (goal.at.slice_bounds-read_any-end-2 g c).In_ok-check_words).1)

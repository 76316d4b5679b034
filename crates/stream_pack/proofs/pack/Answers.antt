-- `stream_pack::pack` meets its contract: the checks in their order, then the stream.
use Rattle.std.proofs.Common.{◌≡◌, ◌++◌, ◌^◌, ◌≤◌}
use Rattle.laws.proofs.All.{sym, ap, ◌∙◌, true, arith, length, drop}
use Rattle.answer.specs.declared.Refusal.TheVariants.{Parameters, ShortOutput, Stream}
use Rattle.answer.proofs.Answered.{declined, finished}
use Rattle.answer.specs.FirstBad.{all_below}
use Rattle.answer.proofs.FirstBad.{all_below→}
use Rattle.answer.proofs.Outcomes.{handed_on}
use Rattle.stream_pack.specs.Streams.{limit, stream_size, good_width, packed, pack_into}
use Rattle.stream_pack.proofs.Streams.{packed-size}
use Rattle.stream_pack.proofs.Checks.{width→, pack-1, pack-15, pack-13, pack-last}
use Rattle.stream_pack.proofs.pack.Goals.{Else-not-is_width}
use Rattle.stream_pack.proofs.pack.Goals as goal

wide : (c : Else-not-is_width) → good_width c.args.q ≡ true
wide c = sym c.is_width.ensures.answer ∙ c.if-not-is_width.false

pub returns-then-not-is_width : goal.returns-then-not-is_width
returns-then-not-is_width c =
    let a = c.args in
    let w = declined (pack_into a.q (length a.out.now) a.words.now) Parameters a.out.now
    (pack-1 a.q (length a.out.now) a.words.now
    (sym c.is_width.ensures.answer ∙ c.if-not-is_width.true)) in
    record { answer = w.0; written = w.1 }

pub returns-then-words-gt-LIMIT : goal.returns-then-words-gt-LIMIT
returns-then-words-gt-LIMIT c =
    let a = c.args in
    let w = declined (pack_into a.q (length a.out.now) a.words.now) Stream a.out.now
    (pack-15 a.q (length a.out.now) a.words.now (wide (goal.at.returns-then-words-gt-LIMIT c).Else-not-is_width)
    (omega arith)) in
    record { answer = w.0; written = w.1 }

pub power-requires : goal.power-requires
power-requires c = omega (arith, width→ c.args.q (wide (goal.at.power-requires c).Else-not-is_width))

pub stream_size-size-requires : goal.stream_size-size-requires
stream_size-size-requires c =
    (width→ c.args.q (wide (goal.at.stream_size-size-requires c).Else-not-is_width), omega arith)

pub returns-then-out-size : goal.returns-then-out-size
returns-then-out-size c =
    let a = c.args in
    let w = declined (pack_into a.q (length a.out.now) a.words.now) ShortOutput a.out.now
    (pack-13 a.q (length a.out.now) a.words.now (wide (goal.at.returns-then-out-size c).Else-not-is_width) (omega arith)
    (omega (arith, c.stream_size-size.ensures.answer, c.if-out-size.true))) in
    record { answer = w.0; written = w.1 }

pub returns-in_err-check_below : goal.returns-in_err-check_below
returns-in_err-check_below c =
    let i = goal.at.returns-in_err-check_below c in
    let a = c.args in
    let ws = a.words.now in
    let w = declined (pack_into a.q (length a.out.now) ws) _ a.out.now
    (pack-last a.q (length a.out.now) ws (wide i.Else-not-is_width) (omega arith)
    (omega (arith, c.stream_size-size.ensures.answer, c.if-out-size.false))
    ∙ ap (λ n. all_below n ws (packed a.q ws)) (sym c.power.ensures.answer)
    ∙ sym (c.in_err-check_below.ensures.answer (packed a.q ws))) in
    rw (handed_on _ _ c.from_residual.ensures.1) (record { answer = w.0; written = w.1 })

pub put_words-requires : goal.put_words-requires
put_words-requires c =
    let i = goal.at.put_words-requires c in
    let a = c.args in
    let ws = a.words.now in (
      width→ a.q (wide i.Else-not-is_width),
      omega arith,
      (all_below→ (2 ^ a.q) ws ws ws (ap (λ n. all_below n ws ws) (sym c.power.ensures.answer)
          ∙ sym (c.in_ok-check_below.ensures.answer ws))).0,
      omega (arith, c.stream_size-size.ensures.answer, c.if-out-size.false),
    )

pub returns : goal.returns
returns c =
    let i = goal.at.returns c in
    let a = c.args in
    let ws = a.words.now in
    let out = a.out.now in
    let n : c.stream_size-size.result ≡ stream_size a.q (length ws) = c.stream_size-size.ensures.answer in
    let w = finished (pack_into a.q (length out) ws) (packed a.q ws) out _ c.stream_size-size.result
    (pack-last a.q (length out) ws (wide i.Else-not-is_width) (omega arith) (omega (arith, n, c.if-out-size.false))
    ∙ ap (λ n. all_below n ws (packed a.q ws)) (sym c.power.ensures.answer)
    ∙ sym (c.in_ok-check_below.ensures.answer (packed a.q ws)))
    (n ∙ sym (packed-size a.q ws))
    (c.put_words.ensures.written ∙ ap (λ k. packed a.q ws ++ drop k out) (sym n)) in
    record { answer = w.0; written = w.1 }

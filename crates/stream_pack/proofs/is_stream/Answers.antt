-- `stream_pack::is_stream` meets its contract: the limit, the length, then the fill.
use Rattle.std.proofs.Common.{◌≡◌}
use Rattle.laws.proofs.All.{sym, subst, ◌∙◌, arith, T, eqb→eq, eq-eqb, lt-leb, length}
use Rattle.stream_pack.specs.Streams.{limit, stream_size}
use Rattle.stream_pack.proofs.Checks.{stream-long, stream-other, stream-fill}
use Rattle.stream_pack.proofs.is_stream.Goals.{then-count-le-LIMIT, else-count-le-LIMIT}
use Rattle.stream_pack.proofs.is_stream.Goals as goal

pub returns-then-bytes-stream_size : goal.returns-then-bytes-stream_size
returns-then-bytes-stream_size c =
    let a = c.args in
    let t = c.if-bytes-stream_size.true in
    elim c.if-count-le-LIMIT.branch [
      | then-count-le-LIMIT w ↦
          let e : length a.bytes.now ≡ stream_size a.q a.count =
          eqb→eq _ _ (subst T (sym t ∙ w.value-is) tt) ∙ w.stream_size.ensures.answer in
          record { answer = c.is_filled.ensures.answer ∙ sym (stream-fill a.q a.count a.bytes.now (omega arith) e) }
      | else-count-le-LIMIT w ↦ absurd (subst T (sym t ∙ w.value-is ∙ lt-leb a.count limit (omega arith)) tt)
    ]

pub returns-else-bytes-stream_size : goal.returns-else-bytes-stream_size
returns-else-bytes-stream_size c =
    let a = c.args in
    let f = c.if-bytes-stream_size.false in
    elim c.if-count-le-LIMIT.branch [
      | then-count-le-LIMIT w ↦ record {
        answer = f ∙ sym (stream-other a.q a.count a.bytes.now (omega arith)
            (λ e. subst T (sym (eq-eqb _ _ (e ∙ sym w.stream_size.ensures.answer)) ∙ sym w.value-is ∙ f) tt));
      }
      | else-count-le-LIMIT w ↦ record { answer = f ∙ sym (stream-long a.q a.count a.bytes.now (omega arith)) }
    ]

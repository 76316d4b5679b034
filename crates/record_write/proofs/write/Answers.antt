-- `write` meets its contract: refusals 7 and 13 before any byte is written, otherwise the whole record.
use Rattle.std.proofs.Common.{Ok}
use Rattle.std.proofs.Common.{◌≡◌}
use Rattle.laws.proofs.All.{sym, ap, subst, ◌∙◌, true, not-true, not-false, T, length}
use Rattle.answer.specs.Outcomes.{answer_of, output_of}
use Rattle.table.specs.Value.{table_head, ready, Ready}
use Rattle.table.proofs.ReadyTables.{ready→}
use Rattle.record.specs.Layout.{size}
use Rattle.record.specs.Places.{Small}
use Rattle.record.proofs.RecordWriting.{small-in, pack-field, pack-long, pack-short, pack-fits}
use Rattle.laws.proofs.All.{not}
use Rattle.record_write.proofs.write.Goals.{After-size_of-long, Else-not-is_ready}
use Rattle.record_write.proofs.write.Goals as goal

pub returns-then-not-is_ready : goal.returns-then-not-is_ready
returns-then-not-is_ready c =
    let a = c.args in
    let k = pack-field a.t (length a.out.now)
    (sym c.is_ready.ensures.answer ∙ not-true c.is_ready.result (ap not c.if-not-is_ready.true)) in
    record { answer = ap answer_of (sym k); written = ap (λ x. output_of x a.out.now) (sym k) }

-- the table's fields are in range
tested : (c : Else-not-is_ready) → ready c.args.t ≡ true
tested c = sym c.is_ready.ensures.answer ∙ not-false c.is_ready.result (ap not c.if-not-is_ready.false)

good : (c : Else-not-is_ready) → Ready c.args.t
good c = ready→ c.args.t (subst T (sym (tested c)) tt)

pub size_of-long-requires : goal.size_of-long-requires
size_of-long-requires c =
    subst Small (sym c.head-f.ensures.answer)
    (small-in c.args.t (good (goal.at.size_of-long-requires c).Else-not-is_ready))

-- the length is that of the table's record
sized : (c : After-size_of-long)
    → c.size_of-long.result ≡ size (table_head c.args.t)
sized c = c.size_of-long.ensures.answer ∙ ap size c.head-f.ensures.answer

pub returns-then-out-long : goal.returns-then-out-long
returns-then-out-long c =
    let s = c.args in
    let k = pack-short s.t c.size_of-long.result (length s.out.now)
    (sized (goal.at.returns-then-out-long c).After-size_of-long)
    (tested (goal.at.returns-then-out-long c).Else-not-is_ready)
    c.if-out-long.true in
    record { answer = ap answer_of (sym k); written = ap (λ x. output_of x s.out.now) (sym k) }

pub put_record-requires : goal.put_record-requires
put_record-requires c = (
  good (goal.at.put_record-requires c).Else-not-is_ready,
  c.head-f.ensures.answer,
  sized
      (goal.at.put_record-requires c).After-size_of-long,
  c.if-out-long.false,
)

pub returns : goal.returns
returns c =
    let s = c.args in
    let k = pack-fits s.t c.size_of-long.result (length s.out.now) (sized (goal.at.returns c).After-size_of-long)
    (tested (goal.at.returns c).Else-not-is_ready)
    c.if-out-long.false in
    record {
      answer = ap Ok
          (pack-long s.t c.size_of-long.result (length s.out.now) (sized (goal.at.returns c).After-size_of-long))
          ∙ ap answer_of (sym k);
      written = c.put_record.ensures.written ∙ ap (λ x. output_of x s.out.now) (sym k);
    }

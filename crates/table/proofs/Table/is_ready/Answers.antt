-- The numbers in front are tested first, then the constraint's next states, and the entries last.
use Rattle.laws.proofs.All.{sym, ap, ◌∙◌}
use Rattle.table.specs.Formed.{in_range}
use Rattle.table.proofs.ReadyTables.{ready-head, ready-nexts, ready-rows}
use Rattle.table.proofs.Table.is_ready.Goals.{then-is_in_range, else-is_in_range}
use Rattle.table.proofs.Table.is_ready.Goals as goal

pub returns-then-good_nexts : goal.returns-then-good_nexts
returns-then-good_nexts c =
    let t = c.args.self.now in
    let head = ap in_range (sym c.head.ensures.answer) ∙ sym c.is_in_range.ensures.answer in
    let q = c.if-good_nexts.true in
    elim c.if-is_in_range.branch [
      | then-is_in_range w ↦ record {
        answer = c.has_good_rows.ensures.answer
            ∙ ready-rows t (head ∙ w.if-is_in_range.true) c.ways.result c.power.result
            (sym w.good_nexts.ensures.answer ∙ sym w.value-is ∙ q)
            c.ways.ensures.answer.0 c.power.ensures.answer;
      }
      | else-is_in_range w ↦ let f = w.if-is_in_range.false in let v = w.value-is in (cc)
    ]

pub returns-else-good_nexts : goal.returns-else-good_nexts
returns-else-good_nexts c =
    let t = c.args.self.now in
    let head = ap in_range (sym c.head.ensures.answer) ∙ sym c.is_in_range.ensures.answer in
    let q = c.if-good_nexts.false in
    elim c.if-is_in_range.branch [
      | then-is_in_range w ↦ record {
        answer = q ∙ ready-nexts t (head ∙ w.if-is_in_range.true) (sym w.good_nexts.ensures.answer ∙ sym w.value-is ∙ q);
      }
      | else-is_in_range w ↦ record { answer = q ∙ ready-head t (head ∙ w.if-is_in_range.false) }
    ]

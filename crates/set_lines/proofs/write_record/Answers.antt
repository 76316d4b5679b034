-- The record stands where it is found.
use Rattle.std.proofs.Common.{◌+◌, ◌≤◌}
use Rattle.laws.proofs.All.{sym, ◌∙◌, arith, length}
use Rattle.text.proofs.Adding.{added-same}
use Rattle.set_lines.proofs.SetText.{record-within, text-nowhere, text_at, part-line}
use Rattle.set_lines.proofs.write_record.Goals.{In-Some}
use Rattle.set_lines.proofs.write_record.Goals as goal

-- the record that is found lies within the set
within : (c : In-Some)
    → c.in-Some.place.start + c.in-Some.place.len
    ≤ length c.args.set.now
within c =
    let a = c.args in
    let found = sym c.find.ensures.answer ∙ c.in-Some.is in
    record-within a.set.now a.i _ _ found

pub returns-in-None-clause-written : goal.returns-in-None-clause-written
returns-in-None-clause-written c =
    let a = c.args in
    added-same (text-nowhere a.set.now a.i (sym c.find.ensures.answer ∙ c.in-None.is)) c.put.ensures.written

pub returns-in-Some-clause-written : goal.returns-in-Some-clause-written
returns-in-Some-clause-written c =
    let a = c.args in
    let s = a.set.now in
    let start = c.in-Some.place.start in
    let len = c.in-Some.place.len in
    added-same (part-line s a.i start len (within (goal.at.returns-in-Some-clause-written c).In-Some)
    ∙ text_at s a.i start len (sym c.find.ensures.answer ∙ c.in-Some.is))
    c.write_record_at.ensures.written

pub overflow_add-end : goal.overflow_add-end
overflow_add-end c = omega (arith, within (goal.at.overflow_add-end c).In-Some)

pub slice_bounds-write_record_at-end : goal.slice_bounds-write_record_at-end
slice_bounds-write_record_at-end c = within (goal.at.slice_bounds-write_record_at-end c).In-Some

use Rattle.std.proofs.Common.{◌≡◌, ◌<◌, None}
use Rattle.std.proofs.lemmas.Grind.{common_steps}
use Rattle.laws.proofs.All.{sym, ap, ap₂, ◌∙◌, arith, get_or}
use Rattle.set_places.specs.Offsets.{place_at, offset_of, record_place}
use Rattle.set_places.proofs.Offsets.{record-none, record-empty, record-at, record-cut}
use Rattle.set_places.proofs.find.Goals as goal

pub returns-in_err-count : goal.returns-in_err-count
returns-in_err-count c = record { answer = grind (arith, common_steps, record-empty) }

pub returns-then-count-i : goal.returns-then-count-i
returns-then-count-i c = record { answer = grind (arith, common_steps, record-none) }

pub returns-in_err-next : goal.returns-in_err-next
returns-in_err-next c =
    let s = c.args.set.now in
    let i = c.args.i in
    let l = c.loop-passed in
    let k : i < get_or s 0 0 = grind (arith, common_steps) in
    let e : record_place s i ≡ None = record-cut s l.passed i (omega arith) k
    (sym (ap₂ place_at l.invariant.0 l.invariant.1) ∙ sym c.next.ensures.answer ∙ c.in_err-next.was) in
    record { answer = grind (arith, common_steps, e) }

pub returns : goal.returns
returns c =
    let s = c.args.set.now in
    let i = c.args.i in
    let l = c.loop-passed in
    let k : i < get_or s 0 0 = grind (arith, common_steps) in
    let q : l.passed ≡ i = omega arith in
    record {
      answer = c.next-2.ensures.answer ∙ ap₂ place_at l.invariant.0 (l.invariant.1 ∙ ap (offset_of s) q)
          ∙ sym (record-at s i k);
    }

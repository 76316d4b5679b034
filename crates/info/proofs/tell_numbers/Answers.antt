-- `tell_numbers` meets its contract: each number fits a byte, and they fill the output.
use Rattle.laws.proofs.All.{arith}
use Rattle.table.specs.Value.{table_head}
use Rattle.table.specs.Formed.{Ranges}
use Rattle.table.proofs.RowsOf.{ways-small}
use Rattle.view_listing.proofs.Filled.{fill-same}
use Rattle.info.proofs.Numbers.{in-range, numbers-are}
use Rattle.info.proofs.tell_numbers.Goals.{Start}
use Rattle.info.proofs.tell_numbers.Goals as goal

range : (c : Start) → Ranges (table_head c.args.t)
range c = in-range c.args.t c.requires

pub overflow_cast-numbers : goal.overflow_cast-numbers
overflow_cast-numbers c = let r = (range (goal.at.overflow_cast-numbers c).Start).p₂ in omega arith

pub overflow_cast-numbers-2 : goal.overflow_cast-numbers-2
overflow_cast-numbers-2 c = let r = (range (goal.at.overflow_cast-numbers-2 c).Start).q₂ in omega arith

pub overflow_sub-numbers : goal.overflow_sub-numbers
overflow_sub-numbers c = let r = (range (goal.at.overflow_sub-numbers c).Start).s₁ in omega arith

pub overflow_cast-numbers-3 : goal.overflow_cast-numbers-3
overflow_cast-numbers-3 c = let r = (range (goal.at.overflow_cast-numbers-3 c).Start).s₂ in omega arith

pub overflow_cast-numbers-4 : goal.overflow_cast-numbers-4
overflow_cast-numbers-4 c = let r = (range (goal.at.overflow_cast-numbers-4 c).Start).m in omega arith

pub overflow_cast-numbers-5 : goal.overflow_cast-numbers-5
overflow_cast-numbers-5 c = let r = (range (goal.at.overflow_cast-numbers-5 c).Start).a in omega arith

pub overflow_cast-numbers-6 : goal.overflow_cast-numbers-6
overflow_cast-numbers-6 c = let r = (range (goal.at.overflow_cast-numbers-6 c).Start).k₂ in omega arith

pub overflow_cast-numbers-7 : goal.overflow_cast-numbers-7
overflow_cast-numbers-7 c =
    let r = range (goal.at.overflow_cast-numbers-7 c).Start in
    omega (arith, r.start, r.k₂)

pub overflow_cast-numbers-8 : goal.overflow_cast-numbers-8
overflow_cast-numbers-8 c =
    let r = range (goal.at.overflow_cast-numbers-8 c).Start in
    omega (arith, r.tail, ways-small _ r.p₂)

pub returns : goal.returns
returns c =
    let a = c.args in
    let w = fill-same a.out.now (numbers-are a.t) (c.fill.ensures.answer, c.fill.ensures.written) in
    record { answer = w.0; written = w.1 }

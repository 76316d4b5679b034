-- `digit` meets its contract, by cases on the byte.
use Rattle.std.proofs.Common.{rules, ◌-◌, ◌≤◌, ◌<◌}
use Rattle.laws.proofs.All.{min-eq_left, arith, le-ltb, lt-ltb}
use Rattle.command_arguments.specs.Parsing.{digit_of}
use Rattle.command_arguments.proofs.numbers.digit.Goals as goal

pub returns-then-is_ascii_digit-clause-answer : goal.returns-then-is_ascii_digit-clause-answer
unfolding digit_of
returns-then-is_ascii_digit-clause-answer c =
    let x = c.args.byte in
    let (k, m) : (48 ≤ x) × (x ≤ 57) = search rules in
    let l : x - 48 < 10 = omega arith in
    let h : x - 48 ≤ 10 = omega arith in
    simp (le-ltb _ _ k, min-eq_left h, lt-ltb _ _ l)

pub returns-else-is_ascii_digit-clause-answer : goal.returns-else-is_ascii_digit-clause-answer
unfolding digit_of
returns-else-is_ascii_digit-clause-answer c = search rules

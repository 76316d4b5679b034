use Rattle.std.proofs.Common.{rules, ◌+◌, ◌*◌, length, ◌≡◌}
use Rattle.laws.proofs.All.{sym, ap, ◌∙◌, arith, drop, lt-leb, le-leb}
use Rattle.command_arguments.specs.Parsing.{number_in}
use Rattle.command_arguments.proofs.Parsing.{number-held, number-on, number-off, number-end, parsed-none}
use Rattle.command_arguments.proofs.Parsing.{parsed-some}
use Rattle.command_arguments.proofs.numbers.parse.Goals as goal

pub returns-then-is_empty : goal.returns-then-is_empty
returns-then-is_empty c =
    let z : length c.args.text.now ≡ 0 = search rules in
    record { answer = sym (parsed-none _ z) }

pub loop-byte-init : goal.loop-byte-init
loop-byte-init c = (omega arith, parsed-some _ (λ z. search rules))

pub loop-byte-preserved : goal.loop-byte-preserved
loop-byte-preserved c =
    let l = c.loop-byte in
    let t = c.args.text.now in
    let rest = drop (l.byte-index + 1) t in (
      omega (arith, c.min-number.ensures),
      l.invariant.1
          ∙ number-on t l.number l.byte-index c.in-Some.value (omega arith) (sym c.in-Some.is ∙ c.digit.ensures.answer)
          ∙ number-held (l.number * 10 + c.in-Some.value) rest
          ∙ ap (λ k. number_in k rest) (sym c.min-number.ensures),
    )

pub returns-in_default : goal.returns-in_default
returns-in_default c =
    let l = c.loop-byte in
    record {
      answer = sym (l.invariant.1
          ∙ number-off c.args.text.now l.number l.byte-index (omega arith) (sym c.in_default.is ∙ c.digit.ensures.answer));
    }

pub returns-then-number-le-GREATEST : goal.returns-then-number-le-GREATEST
returns-then-number-le-GREATEST c =
    let l = c.loop-byte in
    record {
      answer = sym (l.invariant.1 ∙ number-end c.args.text.now l.number l.byte-index (omega arith)
          ∙ simp (le-leb _ _ c.if-number-le-GREATEST.true));
    }

pub returns-else-number-le-GREATEST : goal.returns-else-number-le-GREATEST
returns-else-number-le-GREATEST c =
    let l = c.loop-byte in
    record {
      answer = sym (l.invariant.1 ∙ number-end c.args.text.now l.number l.byte-index (omega arith)
          ∙ simp (lt-leb _ _ c.if-number-le-GREATEST.false));
    }

-- The checks in their order, then the count.
use Rattle.std.proofs.Common.{◌≡◌}
use Rattle.laws.proofs.All.{sym, ap, subst, ◌∙◌, true, arith, T}
use Rattle.answer.specs.Outcomes.{answer_of}
use Rattle.answer.specs.FirstBad.{all_below}
use Rattle.answer.proofs.Outcomes.{handed_on}
use Rattle.table.specs.Value.{Ready, ready}
use Rattle.table.proofs.ReadyTables.{ready→}
use Rattle.codec_verify.specs.Counting.{come_back}
use Rattle.codec_verify.proofs.Checked.{verify-7, counted, verify-12, verify-last, verify-done}
use Rattle.codec_verify.proofs.verify_with.Goals.{Else-not-is_ready}
use Rattle.codec_verify.proofs.verify_with.Goals as goal

is-ready : (c : Else-not-is_ready) → ready c.args.t ≡ true
is-ready c = sym c.is_ready.ensures.answer ∙ c.if-not-is_ready.false

ready-table : (c : Else-not-is_ready) → Ready c.args.t
ready-table c = ready→ c.args.t (subst T (sym (is-ready c)) tt)

pub returns-then-not-is_ready : goal.returns-then-not-is_ready
returns-then-not-is_ready c =
    let a = c.args in
    record {
      answer = sym (ap answer_of (verify-7 a.t a.words.now
          (sym c.is_ready.ensures.answer ∙ c.if-not-is_ready.true)));
    }

pub returns-then-words-t : goal.returns-then-words-t
returns-then-words-t c =
    let a = c.args in
    record {
      answer = sym (ap answer_of (verify-12 a.t a.words.now
          (is-ready (goal.at.returns-then-words-t c).Else-not-is_ready) c.if-words-t.true));
    }

pub power-requires : goal.power-requires
power-requires c = omega (arith, (ready-table (goal.at.power-requires c).Else-not-is_ready).short)

pub returns-in_err-check_below : goal.returns-in_err-check_below
returns-in_err-check_below c =
    let t = c.args.t in
    let ws = c.args.words.now in
    rw (handed_on _ _ c.from_residual.ensures.1)
    (record {
      answer = sym (ap answer_of (verify-last t ws
          (is-ready (goal.at.returns-in_err-check_below c).Else-not-is_ready) c.if-words-t.false
          ∙ ap (λ n. all_below n ws (counted t ws)) (sym c.power.ensures.answer)
          ∙ sym (c.in_err-check_below.ensures.answer (counted t ws))));
    })

pub of-requires : goal.of-requires
of-requires c = ready-table (goal.at.of-requires c).Else-not-is_ready

pub returns : goal.returns
returns c =
    let t = c.args.t in
    let ws = c.args.words.now in
    record {
      answer = verify-done t ws
          (verify-last t ws (is-ready (goal.at.returns c).Else-not-is_ready) c.if-words-t.false
          ∙ ap (λ n. all_below n ws (counted t ws)) (sym c.power.ensures.answer)
          ∙ sym (c.in_ok-check_below.ensures.answer (counted t ws)))
          c.sizes_of.result c.count_all.result c.sizes_of.ensures.answer
          (c.count_all.ensures.answer ∙ ap (λ s. come_back s c.sizes_of.result ws) c.of.ensures.answer);
    }

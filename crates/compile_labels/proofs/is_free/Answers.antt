-- `is_free` meets its contract. The place is k where the datum is not there.
use Rattle.laws.proofs.All.{sym, ap₂, ◌∙◌, arith, eqb, length, take, length-take-le, index-free}
use Rattle.std.proofs.Common.{◌≡◌, rules}
use Rattle.compile_labels.proofs.is_free.Goals as goal

pub returns : goal.returns
returns c =
    let a = c.args in
    let l : length a.ds ≡ 16 = search rules in
    record {
      answer = ap₂ eqb c.place_of.ensures.answer.0 (sym (length-take-le a.k a.ds (omega arith)))
          ∙ index-free a.d (take a.k a.ds);
    }

-- The list has the pair, or takes it at its end.
use Rattle.std.proofs.Common.{◌≡◌, ◌∷◌, ◌++◌, if◌then◌else◌, nat_eq, rules}
use Rattle.std.specs.List.{list_any}
use Rattle.laws.proofs.All.{sym, ap, ◌∙◌, true, false, [], elem}
use Rattle.joining.proofs.PairLists.{found-elem}
use Rattle.joining.proofs.adjoin.Goals as goal

pub returns-then-not-contains-clause-answer : goal.returns-then-not-contains-clause-answer
returns-then-not-contains-clause-answer c =
    let l = c.args.list.now.items in
    let z = c.args.z in
    let f : c.contains.result ≡ list_any (λ y. nat_eq y z) l = search rules in
    let e : elem z l ≡ false = sym (found-elem z l) ∙ sym f ∙ c.if-not-contains.true in
    c.push.ensures.items ∙ sym (ap (λ b. if b then l else l ++ z ∷ []) e)

pub returns-else-not-contains-clause-answer : goal.returns-else-not-contains-clause-answer
returns-else-not-contains-clause-answer c =
    let l = c.args.list.now.items in
    let z = c.args.z in
    let f : c.contains.result ≡ list_any (λ y. nat_eq y z) l = search rules in
    let e : elem z l ≡ true = sym (found-elem z l) ∙ sym f ∙ c.if-not-contains.false in
    sym (ap (λ b. if b then l else l ++ z ∷ []) e)

-- `data_of` meets its contract. The two passes one after the other.
use Rattle.laws.proofs.All.{ap, ◌∙◌, [], take, extend}
use Rattle.compile_labels.specs.Labels.{asked}
use Rattle.compile_labels.specs.Parts.{served}
use Rattle.compile_labels.proofs.Rising.{served-data}
use Rattle.compile_labels.proofs.data_of.Goals as goal

pub returns : goal.returns
returns c =
    let n = c.args.n in
    record {
      answer = λ t W H. c.serve.ensures.answer
          ∙ ap (served n [])
          (c.ask-asked.ensures.answer t W H
          ∙ ap (λ r. extend (asked n t) [] (take n r)) c.row_of-words.ensures.answer)
          ∙ served-data n t _;
    }

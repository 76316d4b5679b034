-- `put_aside` meets its contract: the folder of the path, then the name.
use Rattle.laws.proofs.All.{ap, take}
use Rattle.text.proofs.Adding.{added-same, ◌then◌}
use Rattle.command_store.proofs.put_aside.Goals as goal

pub returns : goal.returns
returns c =
    let path = c.args.path.now in
    record {
      written = added-same (ap (λ k. take k path) c.folder-k.ensures.answer) c.put-at.ensures.written
          then c.put.ensures.written;
    }

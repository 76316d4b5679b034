-- `put_group` meets its contract: the arrays have the group at its place, and elsewhere what they had.
use Rattle.laws.proofs.All.{arith, length-set}
use Rattle.codec_groups.proofs.Puts.{put-made}
use Rattle.codec_groups.proofs.put_group.Goals as goal

pub returns : goal.returns
returns c =
    let a = c.args in
    record {
      written = put-made a.first.now a.sets.now a.k a.e a.targets
          (omega (arith, c.requires.0, c.requires.2)) c.requires.3;
    }

pub shape_of-sets : goal.shape_of-sets
shape_of-sets c = length-set c.args.sets.now _ _

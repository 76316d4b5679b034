-- `bits::joined` meets its contract: the bits that follow stand below those in front, so the or adds them.
use Rattle.bits.proofs.Bytes.{joined-or}
use Rattle.bits.proofs.joined.Goals as goal

pub returns : goal.returns
returns c =
    let a = c.args in
    record { answer = joined-or a.front a.width a.value c.requires.0 c.requires.1 c.requires.2 }

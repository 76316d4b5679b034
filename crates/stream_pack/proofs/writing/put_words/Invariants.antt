-- Each turn puts one word more; the fill makes the stream.
use Rattle.laws.proofs.All.{take}
use Rattle.bits.specs.Fields.{uniform}
use Rattle.stream_pack.specs.Waiting.{Waits}
use Rattle.stream_pack.proofs.writing.put_words.Given as goal

abbrev pub invariant-loop-word : goal.invariant-loop-word
invariant-loop-word l = Waits (uniform l.q (take l.word-index l.words)) l.waiting l.initial.out l.out

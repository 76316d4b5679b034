-- `stream_pack::reading::get_words` meets its contract: each turn gets one word, at its bit place.
use Rattle.std.proofs.Common.{◌≡◌, ◌++◌}
use Rattle.laws.proofs.All.{map, drop, range}
use Rattle.stream_pack.proofs.Streams.{word_of}
use Rattle.stream_pack.proofs.reading.get_words.Given as goal

abbrev pub invariant-loop-i : goal.invariant-loop-i
invariant-loop-i l = l.out ≡ map (word_of l.q l.bytes) (range l.i) ++ drop l.i l.initial.out

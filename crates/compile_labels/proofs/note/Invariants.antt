-- `note` meets its contract. Word by word: the homes are those with the words passed.
use Rattle.std.proofs.Common.{◌≡◌, ◌≤◌, ◌<◌}
use Rattle.laws.proofs.All.{ℕ, length, get_or, take}
use Rattle.compile_labels.specs.Parts.{noted}
use Rattle.compile_labels.proofs.note.Given as goal

abbrev pub invariant-loop-d : goal.invariant-loop-d
invariant-loop-d l =
    (l.d ≤ l.n) × (l.n ≤ 16) × (l.i < 128) × (length l.words ≡ 16) × (length l.r ≡ 256)
    × ((w : ℕ) → w < 256 → get_or l.r w 0 ≡ noted (take l.d l.words) l.i l.initial.r w)

-- The text put since the loop began, with the last k digits after it, is the word.
use Rattle.std.proofs.Common.{◌≡◌, ◌++◌}
use Rattle.laws.proofs.All.{List, ℕ}
use Rattle.text.specs.Texts.{Added}
use Rattle.text.specs.Words.{binary}
use Rattle.text.proofs.Writer.word.Given as goal

abbrev pub invariant-loop-k : goal.invariant-loop-k
invariant-loop-k l =
    let b = l.initial.self in
    (l.self.out.ghost_name ≡ b.out.ghost_name) × (X : List ℕ) × (X ++ binary l.k l.w ≡ binary l.q l.w)
    × Added X b.at b.out.now l.self.out.now l.self.at

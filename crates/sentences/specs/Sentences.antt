-- Sentences with numbers: a pattern in which each `#` stands for the next number, and each `~` for the plural ending
-- that the next number asks for.
-- In order: plural; shown, takes, what a byte of a pattern stands for and uses; sentence; said, of a quoted pattern.
-- Assumes nothing.
use Rattle.std.specs.Prelude.{if◌then◌else◌, List, [], ◌∷◌, ◌++◌, ℕ, eqb, get_or, drop}
use Prim.Native.String.{String}
use Rattle.text.specs.Texts.{bytes, decimal}

-- the ending of a word in the plural: none for 1, otherwise s
abbrev pub plural : ℕ → List ℕ
plural n = if eqb n 1 then [] else 115 ∷ []

-- what stands for a byte: for `#` the number in decimal, for `~` its plural, otherwise the byte itself
abbrev pub shown : ℕ → ℕ → List ℕ
shown b n = if eqb b 35 then decimal n else if eqb b 126 then plural n else b ∷ []

-- how many numbers a byte takes
abbrev pub takes : ℕ → ℕ
takes b = if eqb b 35 then 1 else if eqb b 126 then 1 else 0

-- a pattern with the numbers in the places of its `#` and `~`, 0 where they run out
abbrev pub sentence : List ℕ → List ℕ → List ℕ
sentence [] ns = []
sentence (b ∷ bs) ns = shown b (get_or ns 0 0) ++ sentence bs (drop (takes b) ns)

-- a quoted pattern with its numbers: said "# state~, a #" (3 ∷ 3 ∷ 0 ∷ []) is "3 states, a 0"
abbrev pub said : String → List ℕ → List ℕ
said w ns = sentence (bytes w) ns

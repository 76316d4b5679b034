-- What reading an argument says: the number in its word, or how many bytes its file gave; and which argument it was.
-- In order: number_of; input_of; Said; JobFrom, Counted; From, FromWhole.
-- Assumes nothing.
use Rattle.std.specs.Prelude.{if◌then◌else◌, ◌≡◌, true, false, List, ◌⊎◌, ℕ, ◌+◌, ◌≤◌, leb, length, get_or, Option, Some, None, Result, Ok, Err}
use Rattle.files.specs.declared.LoadError.{LoadError}
use Rattle.files.specs.declared.LoadError.TheVariants.{Unreadable, TooLong}
use Rattle.command_arguments.specs.declared.NumberError.{NumberError}
use Rattle.command_inputs.specs.declared.numbers.Number.{Number}
use Rattle.command_inputs.specs.declared.jobs.Numbers.{Numbers}
use Rattle.command_inputs.specs.declared.Input.{Input}

-- the number that argument i says, up to the most that is taken
abbrev pub number_of : ℕ → ℕ → Result ℕ NumberError → Option Number
number_of i most (Ok n) = if leb n most then Some (record { value = n; at = i }) else None
number_of i most (Err e) = None

-- what was read of the file that argument i names, with so much room: all of it, or as much as there is room for
abbrev pub input_of : ℕ → ℕ → Result ℕ LoadError → Option Input
input_of i room (Ok n) = Some (record { more = false; size = n; at = i })
input_of i room (Err TooLong) = Some (record { more = true; size = room; at = i })
input_of i room (Err (Unreadable e)) = None

-- argument i says this number
abbrev pub Said : ℕ → Number → Type 0
Said i n = n.at ≡ i

-- the job of the arguments from i on: its bytes are five numbers and as many weights as there are, up to 16
abbrev pub JobFrom : ℕ → Numbers → Type 0
JobFrom i n = (n.at ≡ i) × (21 ≡ length n.job) × (n.size ≡ 5 + n.weights) × (n.weights ≤ 16)

-- a job has no weights, or one for each of the k + 1 states
abbrev pub Counted : Numbers → Type 0
Counted n = (n.weights ≡ 0) ⊎ (n.weights ≡ get_or n.job 1 0 + 1)

-- the file that argument i names was read, and the bytes are as many as were read of it
abbrev pub From : ℕ → Input → List ℕ → Type 0
From i l xs = (l.at ≡ i) × (length xs ≡ l.size)

-- the same of a file that was read to its end
abbrev pub FromWhole : ℕ → Input → List ℕ → Type 0
FromWhole i l xs = From i l xs × (l.more ≡ false)

-- A number as an argument says it: one to many decimal digits; a value above 9,999,999, which no field, no count and no
-- bit number takes, is not read.
-- In order: greatest; digit_of, is_digit, as_digit; worth; up_to_greatest, number_in, parsed.
-- Assumes nothing.
use Rattle.std.specs.Prelude.{if◌then◌else◌, Bool, List, [], ◌∷◌, ℕ, ◌+◌, ◌*◌, ◌-◌, min, leb, ltb, Option, Some, None, Result, Ok, Err}
use Rattle.laws.specs.Lists.{all}
use Rattle.command_arguments.specs.declared.NumberError.{NumberError}
use Rattle.command_arguments.specs.declared.NumberError.TheVariants.{Above, Wrong}

-- the greatest number that is read
abbrev pub greatest : ℕ
greatest = 9999999

-- the value of a digit's byte, 10 for any other byte
unfoldable pub digit_of : ℕ → ℕ
digit_of c = if ltb c 48 then 10 else min (c - 48) 10

-- the byte is that of a digit
abbrev pub is_digit : ℕ → Bool
is_digit c = ltb (digit_of c) 10

-- the value of a digit's byte; no other byte has one
abbrev pub as_digit : ℕ → Option ℕ
as_digit c = if is_digit c then Some (digit_of c) else None

-- the value of digits after the number n
unfoldable pub worth : ℕ → List ℕ → ℕ
worth n [] = n
worth n (c ∷ cs) = worth (n * 10 + digit_of c) cs

-- a number, unless it is above the greatest
abbrev pub up_to_greatest : ℕ → Result ℕ NumberError
up_to_greatest n = if leb n greatest then Ok n else Err Above

-- the number that the digits after n make, if they are digits
unfoldable pub number_in : ℕ → List ℕ → Result ℕ NumberError
number_in n cs = if all is_digit cs then up_to_greatest (worth n cs) else Err Wrong

-- the number that a text says
unfoldable pub parsed : List ℕ → Result ℕ NumberError
parsed [] = Err Wrong
parsed (c ∷ cs) = number_in 0 (c ∷ cs)

-- What reading a file comes to.
-- In order: loaded_of.
-- Assumes nothing.
use Rattle.std.specs.Prelude.{cond, ℕ, eqb, Result, Ok, Err}
use Rattle.files.specs.declared.LoadError.{LoadError}
use Rattle.files.specs.declared.LoadError.TheVariants.{TooLong}

-- a file of which n bytes were read is whole where no more are behind them
abbrev pub loaded_of : ℕ → ℕ → Result ℕ LoadError
loaded_of n more = cond (eqb more 0) (Ok n) (Err TooLong)

-- What writing a file says of the bytes, and the name of the new file beside it.
-- In order: Held; folder_in, folder_of; aside_name.
-- Assumes nothing.
use Rattle.std.specs.Prelude.{if◌then◌else◌, ◌≡◌, List, ◌++◌, ℕ, zero, suc, eqb, length, get_or, take, Result, IfOk}
use Rattle.text.specs.Texts.{bytes}

-- a file is whole only where as many bytes were taken as there are
abbrev pub Held : {E : Type 0} → Result ℕ E → List ℕ → Type 0
Held r bytes = IfOk r (λ n. n ≡ length bytes)

-- how many of the first n bytes of a path name its folder: those up to the last / among them
unfoldable pub folder_in : ℕ → List ℕ → ℕ
folder_in zero path = 0
folder_in (suc n) path = if eqb (get_or path n 0) 47 then suc n else folder_in n path

-- how many bytes of a path name its folder, with the last /
abbrev pub folder_of : List ℕ → ℕ
folder_of path = folder_in (length path) path

-- the name of a new file in the folder of a path
abbrev pub aside_name : List ℕ → List ℕ
aside_name path = take (folder_of path) path ++ bytes ".sbc-XXXXXX"

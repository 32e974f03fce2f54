-- What the program writes: document 01, "Job file": for each row XV row, value; or only NO number, column. Assumes nothing.
use Rattle.std.specs.Prelude.{List, [], ◌∷◌, ◌++◌, ℕ, zero, suc, ◌+◌, Float}
use Rattle.std.specs.Float.{binary64}
use Rattle.std.specs.Float.Ieee.{to_bits}
use Rattle.little.specs.Little.{bytes}

pub data Line : Type 0 where
  XV : (row : ℕ) (value : Float) → Line
  NO : (number column : ℕ) → Line

-- a mark is its two letters as a number
unfoldable pub bytes_of : Line → List ℕ
bytes_of (XV row value) = bytes 2 0x5658 ++ (bytes 4 row ++ bytes 8 (to_bits binary64 value))
bytes_of (NO number column) = bytes 2 0x4F4E ++ (bytes 1 number ++ bytes 4 column)

-- one line behind the other
unfoldable pub text : List Line → List ℕ
text [] = []
text (l ∷ ls) = bytes_of l ++ text ls

-- an XV for each of xs, the first being that of this row
unfoldable pub rows : ℕ → List Float → List Line
rows row [] = []
rows row (x ∷ xs) = XV row x ∷ rows (row + 1) xs

-- the lines of an answer: the solution x with number 0, else the number and its column
unfoldable pub lines : ℕ → ℕ → List Float → List Line
lines zero column x = rows 0 x
lines (suc r) column x = NO (suc r) column ∷ []

-- The numbers of document 01 for the library's refusals, and for an answer that may be one. Assumes nothing.
use Rattle.std.specs.Prelude.{ℕ, Result, Ok, Err}
use Rattle.lists.specs.declared.refusal.Refusal.{Refusal}
use Rattle.lists.specs.declared.refusal.Refusal.TheVariants.{TooLarge, Disagree, BadPointers, OutOfRange, NotRising, NoScratch}
use Rattle.lists.specs.declared.refusal.Refusal.TheVariants.{NoRoom, WrongAnalysis, Misplaced, NoDiagonal, BadPivot, Malformed}

-- the number of a refusal
abbrev pub number_of : Refusal → ℕ
number_of TooLarge = 1
number_of Disagree = 2
number_of BadPointers = 3
number_of OutOfRange = 4
number_of NotRising = 5
number_of NoScratch = 6
number_of NoRoom = 7
number_of WrongAnalysis = 8
number_of Misplaced = 9
number_of NoDiagonal = 10
number_of BadPivot = 11
number_of Malformed = 12

-- the number of an answer, 0 where nothing is refused
abbrev pub numbered : {A : Type 0} → Result A Refusal → ℕ
numbered (Ok a) = 0
numbered (Err r) = number_of r

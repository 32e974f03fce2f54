-- What refuses a dense solve, and its answer: document 01, "Refusal numbers". Assumes nothing.
use Rattle.std.specs.Prelude.{Bool, true, false, not, cond, ◌||◌, List, [], ◌∷◌, ◌++◌, ℕ, ◌≡◌, ◌<◌, eqb, length, Float, Option, MatchOption}
use Rattle.lists.specs.Calls.{lowest, both, disagree}
use Rattle.lists.specs.Choices.{chosen, some}
use Rattle.cs_matrix.specs.Matrix.{Matrix, judged, oblong, Valid}
use Rattle.cs_solve.specs.Diagonal.{lacking}
use Rattle.cs_solve.specs.declared.Solved.{Solved}

-- 1 to 5, where the right side has m elements: those of the matrix, and 2 where it is not square or m is not its dimension
unfoldable pub judged_solve : Matrix → ℕ → List (ℕ × Bool)
judged_solve a m = both (judged a) (disagree (oblong a.pattern || not (eqb m a.pattern.ncols)))

-- what a matrix and a right side of m elements are that pass 1 to 5
pub record Passed (a : Matrix) (m : ℕ) : Type 0 where
  pub valid : Valid a
  pub square : a.pattern.nrows ≡ a.pattern.ncols
  pub whole : m ≡ a.pattern.ncols

-- the columns whose diagonal is absent, +0 or -0, rising
unfoldable pub lacking_columns : Matrix → List ℕ
lacking_columns a = chosen a.pattern.ncols (lacking a)

-- what a search below n answers, where `name` is the number that it is to give of the list l: that number, or none where l is empty
abbrev pub Names : ℕ → List ℕ → ℕ → Option ℕ → Type 0
Names n l name r = MatchOption r (some l ≡ false) (λ j. (some l ≡ true) × (j ≡ name) × (j < n))

-- the number that a dense solve answers
unfoldable pub number : Matrix → List Float → ℕ
number a b = lowest (judged_solve a (length b) ++ (10, some (lacking_columns a)) ∷ [])

abbrev pub solved : ℕ → ℕ → Solved
solved number column = record { number = number; column = column }

-- a solve's answer: the number r, and with 10 the column j, else 0
unfoldable pub answer : ℕ → ℕ → Solved
answer r j = record { number = r; column = cond (eqb r 10) j 0 }

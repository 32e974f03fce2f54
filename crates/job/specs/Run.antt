-- What a sound job comes to: document 01, "assembles, analyses, factors, solves forward then transposed". The first call that
-- refuses gives its number, and with 10 and 11 its column. Assumes nothing.
use Rattle.std.specs.Prelude.{cond, ℕ, zero, suc, eqb, Float, replicate}
use mathlib.Core.List.{List, [], flatten}
use Rattle.lists.specs.Calls.{none, Lent, lent}
use Rattle.lists.specs.Choices.{first_or, last_or}
use Rattle.cs_matrix.specs.Matrix.{Matrix, matrix}
use Rattle.cs_tree.specs.Pattern.{Analysis, analysed}
use Rattle.cs_pattern.specs.Columns.{columns}
use Rattle.cs_conversion.specs.Assembly.{Triplets, triplets, assembled}
use Rattle.cs_cholesky.specs.declared.Factored.{Factored}
use Rattle.cs_cholesky.specs.Factor.{Outcome, answer}
use Rattle.cs_left.specs.Left.{left, number as leftNumber}
use Rattle.cs_up.specs.Up.{up, number as upNumber}
use Rattle.cs_solve.specs.declared.Solved.{Solved}
use Rattle.cs_solve.specs.Judge.{lacking_columns, number as solveNumber, answer as solveAnswer}
use Rattle.cs_solve.specs.Solve.{forward}
use Rattle.cs_solve.specs.TrSolve.{transposed}
use Rattle.job_file.specs.Faults.{Job}
use Rattle.job_prepare.specs.Prepare.{scratch_room, number as prepareNumber}

pub record Result : Type 0 where
  pub number : ℕ
  pub column : ℕ
  -- the solution, where the number is 0
  pub x : List Float

abbrev pub result : ℕ → ℕ → List Float → Result
result number column x = record { number = number; column = column; x = x }

-- what a call answers of it
abbrev pub answered : Result → Solved
answered r = record { number = r.number; column = r.column }

-- what follows a call that answered the number r and the column k: the next one only after 0
unfoldable pub after : ℕ → ℕ → Result → Result
after zero k next = next
after (suc r) k next = result (suc r) k []

-- ---- the factoring
-- GO's byte 1 is left, 2 is up
unfoldable pub factoring : ℕ → Matrix → Outcome
factoring engine a = cond (eqb engine 1) (left a) (up a)

-- L's values have room for 2,048
abbrev pub values_room : Lent (List Float)
values_room = lent (replicate 2048 none) scratch_room

unfoldable pub factor_number : ℕ → Matrix → Analysis → Lent (List Float) → ℕ
factor_number engine a f room = cond (eqb engine 1) (leftNumber a f room) (upNumber a f room)

-- what it answers of a matrix with its own analysis
unfoldable pub factored : ℕ → Matrix → Factored
factored engine a = answer (factor_number engine a (analysed (columns a.pattern)) values_room) (factoring engine a)

-- L, with the pattern of the analysis and the factoring's values
unfoldable pub lower_matrix : Matrix → Outcome → Matrix
lower_matrix a o = let f = analysed (columns a.pattern) in matrix a.pattern.ncols a.pattern.ncols f.lp f.li (flatten o.columns)

-- ---- the solves
unfoldable pub forward_answer : Matrix → List Float → Solved
forward_answer l b = solveAnswer (solveNumber l b) (first_or 0 (lacking_columns l))

unfoldable pub transposed_answer : Matrix → List Float → Solved
transposed_answer l b = solveAnswer (solveNumber l b) (last_or 0 (lacking_columns l))

-- forward, then transposed
unfoldable pub solved : Matrix → List Float → Result
solved l b =
    let y = forward l b in
    after (forward_answer l b).number (forward_answer l b).column
    (after (transposed_answer l y).number (transposed_answer l y).column (result 0 0 (transposed l y)))

-- ---- all together
-- the matrix a, once it is assembled and analysed, with the right side b
unfoldable pub run : ℕ → Matrix → List Float → Result
run engine a b = after (factored engine a).number (factored engine a).column (solved (lower_matrix a (factoring engine a)) b)

-- the entries as triplets of a square matrix
unfoldable pub triplets_of : Job → Triplets
triplets_of j = triplets j.n j.n j.entries.rows j.entries.columns j.entries.values

-- assembled and analysed, then run
unfoldable pub worked : ℕ → Triplets → List Float → Result
worked engine t b = after (prepareNumber t) 0 (run engine (assembled t) b)

-- What both factorings share: the numbers, the columns in turn until a pivot stops them, and the answer. Document 01,
-- "Factorings" and "Refusal numbers". Assumes nothing.
use Rattle.std.specs.Prelude.{Bool, not, cond, ℕ, zero, suc, ◌+◌, eqb, Float, replicate}
use mathlib.Core.List.{List, [], ◌∷◌, ◌++◌, flatten}
use Rattle.std.specs.Float.Ieee.{lt}
use Rattle.lists.specs.Calls.{onto, none, Scratch, narrow}
use Rattle.cs_matrix.specs.Matrix.{Matrix, judged_square_matrix, needed}
use Rattle.cs_tree.specs.Pattern.{Analysis, analysed}
use Rattle.cs_pattern.specs.Columns.{columns}
use Rattle.cs_pattern.specs.Compare.{same, tight}
use Rattle.cs_cholesky.specs.declared.Factored.{Factored}

-- ---- column after column
-- what a column comes to: its pivot, and L's values, column by column, if the pivot lets it pass
pub record Step : Type 0 where
  pub pivot : Float
  pub columns : List (List Float)

-- what a factoring comes to: its answer, and L's values, column by column
pub record Outcome : Type 0 where
  pub answer : Factored
  pub columns : List (List Float)

abbrev pub factored : ℕ → ℕ → Float → Factored
factored r k d = record { number = r; column = k; pivot = d }

-- d more columns, from column k on. The first pivot that is not above zero, or is NaN, stops it with 11
unfoldable pub factor : (ℕ → List (List Float) → Step) → ℕ → ℕ → List (List Float) → Outcome
factor step zero k done = record { answer = factored 0 0 none; columns = done }
factor step (suc d) k done =
    let s = step k done in
    cond (lt none s.pivot)
    (factor step d (k + 1) s.columns)
    (record { answer = factored 11 k s.pivot; columns = [] })

-- ---- what the call answers and writes
-- 1 to 8, where L's values have the length room
unfoldable pub judged_factor : Matrix → Analysis → ℕ → Scratch → List (ℕ × Bool)
judged_factor a given room work =
    let f = analysed (columns a.pattern) in
    judged_square_matrix a ++ (6, narrow (needed a.pattern) work) ∷ (7, tight room f) ∷ (8, not (same f given)) ∷ []

-- the answer with the number r: column and pivot only with 11
unfoldable pub answer : ℕ → Outcome → Factored
answer r f = cond (eqb r 11) f.answer (factored r 0 none)

-- L's values: by 11 as many zeros as U has entries, t
unfoldable pub written : ℕ → Outcome → List Float → List Float
written t f old = onto old (cond (eqb f.answer.number 11) (replicate t none) (flatten f.columns))

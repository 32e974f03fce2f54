-- What a call on two matrices judges, and a result that is written column by column. Assumes nothing.
use Rattle.std.specs.Prelude.{Bool, ◌||◌, List, [], ◌++◌, ◌≡◌, map, ℕ, zero, suc, ◌+◌, ltb, Float, length, take}
use Rattle.lists.specs.Calls.{both, disagree, onto}
use Rattle.lists.specs.Choices.{chosen}
use Rattle.lists.specs.Order.{lists}
use Rattle.lists.specs.Tables.{table}
use Rattle.cs_matrix.specs.Matrix.{Matrix, matrix, column, judged, short_by}

module _ {A : Type 0} where
  -- the items of the columns below n, one column behind another
  unfoldable pub joined : (ℕ → List A) → ℕ → List A
  joined f zero = []
  joined f (suc n) = joined f n ++ f n

-- the matrix that has these rows and values in its columns
unfoldable pub with_columns : ℕ → ℕ → (ℕ → List ℕ) → (ℕ → List Float) → Matrix
with_columns nrows ncols rows vals = matrix nrows ncols (table (ncols + 1) (λ j. length (joined rows j))) (joined rows ncols) (joined vals ncols)

-- the matrix that stores row r in column j where the test f j r holds, its value being g j r
unfoldable pub with_entries : ℕ → ℕ → (ℕ → ℕ → Bool) → (ℕ → ℕ → Float) → Matrix
with_entries nrows ncols f g = with_columns nrows ncols (λ j. chosen nrows (f j)) (λ j. map (g j) (chosen nrows (f j)))

-- r is listed in l or in m
unfoldable pub either : List ℕ → List ℕ → ℕ → Bool
either l m r = lists r l || lists r m

-- 1 to 5 of two matrices, number by number, and 2 where their dimensions disagree
unfoldable pub judged_two : Matrix → Matrix → Bool → List (ℕ × Bool)
judged_two a b t = both (both (judged a) (judged b)) (disagree t)

-- 7 in lengths: the needed count is over 4,194,304, or an output is shorter than needed
unfoldable pub short_for : ℕ → ℕ → ℕ → ℕ → ℕ → Bool
short_for ncols entries p i v = ltb 4194304 entries || short_by ncols entries p i v

-- what l holds once ys is written to it from place a on
unfoldable pub laid : {A : Type 0} → ℕ → List A → List A → List A
laid a l ys = onto l (take a l ++ ys)

-- Worked cases: the definitions compute. Matrix Q of document 01, whatever its values, is not refused; one change at a time
-- gives each number. Assumes nothing.
use Rattle.std.specs.Prelude.{List, [], ◌∷◌, ◌≡◌, ℕ, Float}
use Rattle.std.proofs.Math.Path.{refl}
use Rattle.lists.specs.Calls.{lowest, both}
use Rattle.lists.specs.Folds.{every}
use Rattle.lists.specs.Order.{rises, all_below}
use Rattle.cs_matrix.specs.Matrix.{Matrix, matrix, too_large, pointers, column, columns_rise, judged_pattern, judged}

module _ (a b c d e f g h j k : Float) where
  abbrev values : List Float
  values = a ∷ b ∷ c ∷ d ∷ e ∷ f ∷ g ∷ h ∷ j ∷ k ∷ []

  abbrev starts : List ℕ
  starts = 0 ∷ 3 ∷ 5 ∷ 7 ∷ 10 ∷ []

  abbrev rows : List ℕ
  rows = 0 ∷ 2 ∷ 3 ∷ 1 ∷ 3 ∷ 0 ∷ 2 ∷ 0 ∷ 1 ∷ 3 ∷ []

  -- a matrix with the number that it should have
  cases : List (Matrix × ℕ)
  cases =
      (matrix 4 4 starts rows values, 0)
      ∷ (matrix 0 0 (0 ∷ []) [] [], 0)
      ∷ (matrix 65536 4 starts rows values, 1)
      ∷ (matrix 4 4 starts rows (a ∷ values), 2)
      ∷ (matrix 4 3 starts rows values, 2)
      ∷ (matrix 4 4 (0 ∷ 3 ∷ 2 ∷ 7 ∷ 10 ∷ []) rows values, 3)
      ∷ (matrix 4 4 (1 ∷ 3 ∷ 5 ∷ 7 ∷ 10 ∷ []) rows values, 3)
      ∷ (matrix 4 4 (0 ∷ 3 ∷ 5 ∷ 7 ∷ 9 ∷ []) rows values, 3)
      ∷ (matrix 3 4 starts rows values, 4)
      ∷ (matrix 4 4 starts (0 ∷ 0 ∷ 3 ∷ 1 ∷ 3 ∷ 0 ∷ 2 ∷ 0 ∷ 1 ∷ 3 ∷ []) values, 5)
      ∷ (matrix 4 4 starts (2 ∷ 0 ∷ 3 ∷ 1 ∷ 3 ∷ 0 ∷ 2 ∷ 0 ∷ 1 ∷ 9 ∷ []) values, 4)
      ∷ []

  numbers : List (Matrix × ℕ) → List ℕ
  numbers [] = []
  numbers (x ∷ xs) = lowest (judged x.0) ∷ numbers xs

  wanted : List (Matrix × ℕ) → List ℕ
  wanted [] = []
  wanted (x ∷ xs) = x.1 ∷ wanted xs

  all_agree : numbers cases ≡ wanted cases
  unfolding cases numbers wanted judged judged_pattern both too_large pointers every all_below rises column columns_rise
  all_agree = refl

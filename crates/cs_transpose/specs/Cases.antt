-- Worked cases: the definitions compute. Assumes nothing.
use Rattle.std.specs.Prelude.{List, [], ◌∷◌, ◌≡◌, ℕ, Float}
use Rattle.std.proofs.Math.Path.{refl}
use Rattle.lists.specs.Calls.{Lent, lent, scratch, none, both, narrow, cleared, wiped, onto, outputs, worked, leaves}
use Rattle.lists.specs.Folds.{every}
use Rattle.lists.specs.Keys.{of_key, by_key}
use Rattle.lists.specs.Order.{rises, all_below}
use Rattle.lists.specs.Tables.{from}
use Rattle.cs_matrix.specs.Matrix.{Matrix, Stored, stored, matrix, too_large, pointers, column, columns_rise, judged_pattern, judged, needed, short}
use Rattle.cs_matrix.specs.Matrix.{written}
use Rattle.cs_transpose.specs.Transpose.{columns, transposed_pattern, transposed, number}

module _ (a b c d e f g x : Float) where
  -- Q of document 01 without its last row: 3 rows and 4 columns, whatever its values
  q : Matrix
  q = matrix 3 4 (0 ∷ 2 ∷ 3 ∷ 5 ∷ 7 ∷ []) (0 ∷ 2 ∷ 1 ∷ 0 ∷ 2 ∷ 0 ∷ 1 ∷ []) (a ∷ b ∷ c ∷ d ∷ e ∷ f ∷ g ∷ [])

  -- outputs with an element too many, and a first scratch slice like this
  given : List ℕ → Lent Stored
  given w = lent (stored (9 ∷ 9 ∷ 9 ∷ 9 ∷ 9 ∷ []) (9 ∷ 9 ∷ 9 ∷ 9 ∷ 9 ∷ 9 ∷ 9 ∷ 9 ∷ []) (x ∷ x ∷ x ∷ x ∷ x ∷ x ∷ x ∷ x ∷ []))
      (scratch w (1 ∷ 1 ∷ 1 ∷ 1 ∷ 1 ∷ []) (2 ∷ 2 ∷ 2 ∷ 2 ∷ 2 ∷ 2 ∷ []) (x ∷ x ∷ x ∷ x ∷ x ∷ x ∷ []))

  done : number q (given (1 ∷ 2 ∷ 3 ∷ 4 ∷ 5 ∷ 6 ∷ [])) ≡ 0
  unfolding q given number judged judged_pattern both too_large pointers all_below rises column columns_rise every needed narrow short transposed transposed_pattern from columns of_key by_key
  done = refl

  left_by_done : leaves 0 (needed q.pattern) (written (transposed q) (given []).out) (given (1 ∷ 2 ∷ 3 ∷ 4 ∷ 5 ∷ 6 ∷ []))
      ≡ lent (stored (0 ∷ 3 ∷ 5 ∷ 7 ∷ 9 ∷ []) (0 ∷ 2 ∷ 3 ∷ 1 ∷ 3 ∷ 0 ∷ 2 ∷ 9 ∷ []) (a ∷ d ∷ f ∷ c ∷ g ∷ b ∷ e ∷ x ∷ []))
      (scratch (0 ∷ 0 ∷ 0 ∷ 0 ∷ 0 ∷ 6 ∷ []) (0 ∷ 0 ∷ 0 ∷ 0 ∷ 0 ∷ []) (0 ∷ 0 ∷ 0 ∷ 0 ∷ 0 ∷ 2 ∷ []) (none ∷ none ∷ none ∷ none ∷ none ∷ x ∷ []))
  unfolding q given leaves outputs worked wiped cleared onto needed written transposed transposed_pattern from columns of_key by_key
  left_by_done = refl

  no_scratch : number q (given (1 ∷ 2 ∷ 3 ∷ 4 ∷ [])) ≡ 6
  unfolding q given number judged judged_pattern both too_large pointers all_below rises column columns_rise every needed narrow short transposed transposed_pattern from columns of_key by_key
  no_scratch = refl

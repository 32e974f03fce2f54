-- Worked cases: the definitions compute. Assumes nothing.
use Rattle.std.specs.Prelude.{◌≡◌, true, false, [], ◌∷◌, Float}
use Rattle.std.proofs.Math.Path.{refl}
use Rattle.lists.specs.Keys.{of_key, by_key}
use Rattle.lists.specs.Order.{lists}
use Rattle.lists.specs.Tables.{from}
use Rattle.cs_matrix.specs.Matrix.{matrix}
use Rattle.cs_conversion.specs.Assembly.{Triplets, triplets, twice, in_order, assembled}

module _ (a b c d : Float) where
  -- column 0 is given from below, column 1 is empty, and row 1 of column 2 comes before its row 0
  t : Triplets
  t = triplets 3 3 (2 ∷ 1 ∷ 0 ∷ 0 ∷ []) (0 ∷ 2 ∷ 0 ∷ 2 ∷ []) (a ∷ b ∷ c ∷ d ∷ [])

  in_order_lem : assembled t ≡ matrix 3 3 (0 ∷ 2 ∷ 2 ∷ 4 ∷ []) (0 ∷ 2 ∷ 0 ∷ 1 ∷ []) (c ∷ a ∷ d ∷ b ∷ [])
  unfolding t assembled in_order by_key of_key from
  in_order_lem = refl

once : twice (2 ∷ 1 ∷ 0 ∷ 0 ∷ []) (0 ∷ 2 ∷ 0 ∷ 2 ∷ []) ≡ false
unfolding twice of_key lists
once = refl

again : twice (2 ∷ 1 ∷ 0 ∷ 2 ∷ []) (0 ∷ 2 ∷ 0 ∷ 0 ∷ []) ≡ true
unfolding twice of_key lists
again = refl

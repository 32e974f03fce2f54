-- Worked cases: the definitions compute. Four calls over each column of document 01's matrix Q, whatever its values, over a single
-- entry, over none, and over parts of unequal length. Assumes nothing.
use Rattle.std.specs.Prelude.{List, [], ◌∷◌, map, ◌≡◌, ℕ, Float, Option, Some, None}
use Rattle.std.proofs.Math.Path.{refl}
use Rattle.cs_matrix.specs.Matrix.{column}
use Rattle.cs_walk.specs.Walk.{number, pairs, given, left, first, after, gives}
use Rattle.cs_walk.specs.declared.column_entries.ColumnEntries.{ColumnEntries}

module _ (a b c d e f g h j k : Float) where
  abbrev starts : List ℕ
  starts = 0 ∷ 3 ∷ 5 ∷ 7 ∷ 10 ∷ []

  abbrev rows : List ℕ
  rows = 0 ∷ 2 ∷ 3 ∷ 1 ∷ 3 ∷ 0 ∷ 2 ∷ 0 ∷ 1 ∷ 3 ∷ []

  abbrev values : List Float
  values = a ∷ b ∷ c ∷ d ∷ e ∷ f ∷ g ∷ h ∷ j ∷ k ∷ []

  -- a walker at the start of two lists, wherever they lie
  abbrev over : List ℕ → List Float → ColumnEntries
  over i v = record { curr = 0; i = record { ref_ptr = (0, 0); now = i }; v = record { ref_ptr = (0, 0); now = v } }

  abbrev of_Q : ℕ → ColumnEntries
  of_Q n = over (column starts n rows) (column starts n values)

  walkers : List ColumnEntries
  walkers = of_Q 0 ∷ of_Q 1 ∷ of_Q 2 ∷ of_Q 3 ∷ over (7 ∷ []) (a ∷ []) ∷ over [] [] ∷ over (7 ∷ []) [] ∷ over (7 ∷ []) (a ∷ b ∷ []) ∷ []

  wanted : List (ℕ × List (Option (ℕ × Float)))
  wanted =
      (0, Some (0, a) ∷ Some (2, b) ∷ Some (3, c) ∷ None ∷ [])
      ∷ (0, Some (1, d) ∷ Some (3, e) ∷ None ∷ None ∷ [])
      ∷ (0, Some (0, f) ∷ Some (2, g) ∷ None ∷ None ∷ [])
      ∷ (0, Some (0, h) ∷ Some (1, j) ∷ Some (3, k) ∷ None ∷ [])
      ∷ (0, Some (7, a) ∷ None ∷ None ∷ None ∷ [])
      ∷ (0, None ∷ None ∷ None ∷ None ∷ [])
      ∷ (2, None ∷ None ∷ None ∷ None ∷ [])
      ∷ (2, None ∷ None ∷ None ∷ None ∷ [])
      ∷ []

  abbrev calls : ColumnEntries → ℕ × List (Option (ℕ × Float))
  calls w = (number w.i.now w.v.now, gives 4 w)

  all_agree : map calls walkers ≡ wanted
  unfolding walkers wanted number pairs given left first after gives column
  all_agree = refl

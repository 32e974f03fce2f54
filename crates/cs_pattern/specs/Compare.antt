-- The comparison of a lent analysis with the one worked out afresh: number 8 of document 01. Assumes nothing.
use Rattle.std.specs.Prelude.{ℕ, Bool, not, ◌&&◌, ◌||◌, [], ◌∷◌, ◌++◌, length, nat_lt}
use Rattle.lists.specs.Calls.{lowest, Scratch, narrow}
use Rattle.lists.specs.Order.{starts_with}
use Rattle.cs_matrix.specs.Matrix.{Pattern, judged_square, needed}
use Rattle.cs_tree.specs.Pattern.{Analysis, analysed}
use Rattle.cs_pattern.specs.Columns.{columns}

-- the needed part of the lent analysis is the analysis f
unfoldable pub same : Analysis → Analysis → Bool
same f given =
    starts_with f.tree given.tree
    && starts_with f.up given.up
    && starts_with f.ui given.ui
    && (starts_with f.lp given.lp && starts_with f.li given.li)

-- 7, where there is room for so many values: fewer than U has entries, or the needed count is over 4,194,304
unfoldable pub tight : ℕ → Analysis → Bool
tight room f = nat_lt 4194304 (length f.ui) || nat_lt room (length f.ui)

-- the number that the comparison answers
unfoldable pub number : Pattern → ℕ → Analysis → Scratch → ℕ
number a room given old =
    lowest
    (judged_square a
    ++ ((6, narrow (needed a) old) ∷ (7, tight room (analysed (columns a))) ∷ (8, not (same (analysed (columns a)) given)) ∷ []))

-- The analysis as a call: what it answers and writes. Assumes nothing.
use Rattle.std.specs.Prelude.{ℕ, Bool, ◌||◌, [], ◌∷◌, ◌++◌, length, nat_lt}
use Rattle.lists.specs.Calls.{lowest, onto, narrow, Lent}
use Rattle.cs_matrix.specs.Matrix.{Pattern, judged_square, needed}
use Rattle.cs_tree.specs.Pattern.{Analysis, analysis, analysed}
use Rattle.cs_pattern.specs.Columns.{columns}

-- 7, where the analysis f is to be written: an output is shorter than needed, or the needed count is over 4,194,304
unfoldable pub short : Analysis → Analysis → Bool
short f out =
    nat_lt 4194304 (length f.ui)
    || nat_lt (length out.tree) (length f.tree)
    || nat_lt (length out.up) (length f.up)
    || nat_lt (length out.ui) (length f.ui)
    || nat_lt (length out.lp) (length f.lp)
    || nat_lt (length out.li) (length f.li)

-- the analysis f written to the outputs, excess length unchanged
unfoldable pub written : Analysis → Analysis → Analysis
written f old = analysis (onto old.tree f.tree) (onto old.up f.up) (onto old.ui f.ui) (onto old.lp f.lp) (onto old.li f.li)

-- the number that the analysis of a answers
unfoldable pub number : Pattern → Lent Analysis → ℕ
number a old = lowest (judged_square a ++ ((6, narrow (needed a) old.work) ∷ (7, short (analysed (columns a)) old.out) ∷ []))

-- What the program works out before any number is: document 01, "assembles, analyses", with its maxima as the room that it lends:
-- 257 pointers, 2,048 entries of the matrix and 2,048 of U. Assumes nothing.
use Rattle.std.specs.Prelude.{cond, ℕ, eqb, replicate}
use Rattle.lists.specs.Calls.{none, Scratch, scratch, Lent, lent, outputs}
use Rattle.cs_matrix.specs.Matrix.{Pattern, Stored, stored, written}
use Rattle.cs_tree.specs.Pattern.{Analysis, analysis, analysed}
use Rattle.cs_conversion.specs.Assembly.{Triplets, assembled, number as assemblyNumber}
use Rattle.cs_pattern.specs.Analyse.{number as analysisNumber, written as writtenAnalysis}
use Rattle.cs_pattern.specs.Columns.{columns}

-- ---- the room
-- assembly needs twice n + 1 elements of each scratch slice, and the triplet count
abbrev pub scratch_room : Scratch
scratch_room = scratch (replicate 2562 0) (replicate 2562 0) (replicate 2562 0) (replicate 2562 none)

abbrev pub matrix_room : Lent Stored
matrix_room = lent (stored (replicate 257 0) (replicate 2048 0) (replicate 2048 none)) scratch_room

abbrev pub analysis_room : Lent Analysis
analysis_room = lent (analysis (replicate 256 0) (replicate 257 0) (replicate 2048 0) (replicate 257 0) (replicate 2048 0)) scratch_room

-- ---- the calls
-- the number that the assembly of t answers there
unfoldable pub assembly : Triplets → ℕ
assembly t = assemblyNumber t matrix_room

-- the number that the analysis of a answers there
unfoldable pub analysis_of : Pattern → ℕ
analysis_of a = analysisNumber a analysis_room

-- the analysis of t's matrix
unfoldable pub pattern_of : Triplets → Analysis
pattern_of t = analysed (columns (assembled t).pattern)

-- the number of the first call that refuses, 0 where none does
unfoldable pub number : Triplets → ℕ
number t = cond (eqb (assembly t) 0) (analysis_of (assembled t).pattern) (assembly t)

-- ---- what is left behind: each call's own outputs, an analysis only of a matrix that was assembled
pub record Outputs : Type 0 where
  pub matrix : Stored
  pub analysis : Analysis

unfoldable pub leaves : Triplets → Outputs → Outputs
leaves t old =
    record {
      matrix = outputs (assembly t) (written (assembled t) old.matrix) old.matrix;
      analysis =
          cond (eqb (assembly t) 0)
          (outputs (analysis_of (assembled t).pattern) (writtenAnalysis (pattern_of t) old.analysis) old.analysis)
          old.analysis;
    }

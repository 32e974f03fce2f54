-- What is promised of a written analysis: U and L are the patterns that its slices hold, column by column. Assumes nothing.
use Rattle.std.specs.Prelude.{◌≡◌, ℕ, List, map, length, take, slice_index_or}
use mathlib.Core.List.{flatten}
use Rattle.cs_matrix.specs.Matrix.{Pattern, pattern, ValidPattern}
use Rattle.cs_tree.specs.Pattern.{Analysis, starts, entries}
use Rattle.cs_tree.specs.Least.{Promised, sorted}
use Rattle.cs_pattern.specs.Columns.{columns}

-- the pattern with these columns
unfoldable pub with_columns : List (List ℕ) → Pattern
with_columns us = pattern (length us) (length us) (starts 0 us) (flatten us)

-- U's and L's columns, as the slices hold them
abbrev pub held_upper : ℕ → Analysis → List (List ℕ)
held_upper n f = columns (pattern n n f.up f.ui)

abbrev pub held_lower : ℕ → Analysis → List (List ℕ)
held_lower n f = columns (pattern n n f.lp f.li)

-- the analysis f of the pattern a
pub record Analysed (a : Pattern) (f : Analysis) : Type 0 where
  pub promised : Promised (columns a) (take a.ncols f.tree) (held_upper a.ncols f) (held_lower a.ncols f)
  -- the last pointers are the entry counts
  pub u_size : slice_index_or f.up a.ncols 0 ≡ entries (held_upper a.ncols f)
  pub l_size : slice_index_or f.lp a.ncols 0 ≡ entries (held_lower a.ncols f)
  -- U with its rows sorted is a valid matrix
  pub valid : ValidPattern (with_columns (map sorted (held_upper a.ncols f)))

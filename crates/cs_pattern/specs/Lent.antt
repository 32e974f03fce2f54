-- What a call sees of an analysis that is lent to it, and of a pattern that is known to be square. Assumes nothing.
use Rattle.cs_matrix.specs.declared.matrix.Pattern.{Pattern as LentPattern}
use Rattle.cs_matrix.specs.Matrix.{Pattern, pattern}
use Rattle.cs_tree.specs.Pattern.{Analysis, analysis}
use Rattle.cs_pattern.specs.declared.compare.Analysis.{Analysis as LentAnalysis}

abbrev pub analysis_of : LentAnalysis → Analysis
analysis_of f = analysis f.tree.now f.up.now f.ui.now f.lp.now f.li.now

-- as many rows as columns
abbrev pub square_of : LentPattern → Pattern
square_of a = pattern a.ncols a.ncols a.p.now a.i.now

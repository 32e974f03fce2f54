-- What a call sees of a pattern, a matrix or a vector that is lent to it. Assumes nothing.
use Rattle.cs_matrix.specs.declared.matrix.Pattern.{Pattern as LentPattern}
use Rattle.cs_matrix.specs.declared.matrix.Matrix.{Matrix as LentMatrix}
use Rattle.cs_matrix.specs.declared.matrix.Vector.{Vector as LentVector}
use Rattle.cs_matrix.specs.Matrix.{Pattern, Matrix, Vector, pattern, vector}

abbrev pub pattern_of : LentPattern → Pattern
pattern_of a = pattern a.nrows a.ncols a.p.now a.i.now

abbrev pub matrix_of : LentMatrix → Matrix
matrix_of a = record { pattern = pattern_of a.pattern; v = a.v.now }

abbrev pub vector_of : LentVector → Vector
vector_of b = vector b.n b.i.now b.v.now

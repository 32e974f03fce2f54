-- What a call sees of a matrix that is known to be square. Assumes nothing.
use Rattle.cs_matrix.specs.declared.matrix.Matrix.{Matrix as LentMatrix}
use Rattle.cs_matrix.specs.Matrix.{Matrix}
use Rattle.cs_pattern.specs.Lent.{square_of as pattern_of}

abbrev pub square_of : LentMatrix → Matrix
square_of a = record { pattern = pattern_of a.pattern; v = a.v.now }

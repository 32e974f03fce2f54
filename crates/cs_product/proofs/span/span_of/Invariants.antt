-- `span_of`: the loop of proofs/Spanning.antt. Assumes nothing.
use Rattle.cs_matrix.specs.Lent.{pattern_of}
use Rattle.cs_product.proofs.Spanning.{Spanning}
use Rattle.cs_product.proofs.span.span_of.Given as goal

abbrev pub invariant-loop-col : goal.invariant-loop-col
invariant-loop-col l = Spanning (pattern_of l.a) l.cols l.lo l.hi l.work l.col-index

-- `solve` meets its contract. Assumes nothing.
use Rattle.cs_matrix.specs.Lent.{matrix_of}
use Rattle.job.proofs.Solving.{solve_refused, solve_done}
use Rattle.job.proofs.solve.solve.Goals as goal

pub returns-then-r-ne0 : goal.returns-then-r-ne0
returns-then-r-ne0 c = solve_refused (matrix_of c.args.a) c.args.b.now c.solve_lower_triangular-r.ensures c.if-r-ne0.true

pub returns : goal.returns
returns c = solve_done (matrix_of c.args.a) c.args.b.now c.solve_lower_triangular-r.ensures c.if-r-ne0.false c.tr_solve_lower_triangular.ensures

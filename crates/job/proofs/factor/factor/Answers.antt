-- `factor` meets its contract. Assumes nothing.
use Rattle.cs_matrix.specs.Lent.{matrix_of}
use Rattle.cs_pattern.specs.Lent.{analysis_of}
use Rattle.job.proofs.Engines.{by_left, by_up}
use Rattle.job.proofs.factor.factor.Goals as goal

pub returns-in-Left : goal.returns-in-Left
returns-in-Left c = by_left c.args.engine (matrix_of c.args.a) (analysis_of c.args.given) c.args.lx.now c.decompose_left_looking.result _ _ _
    c.in-Left.is c.decompose_left_looking.ensures

pub returns-in-Up : goal.returns-in-Up
returns-in-Up c = by_up c.args.engine (matrix_of c.args.a) (analysis_of c.args.given) c.args.lx.now c.decompose_up_looking.result _ _ _
    c.in-Up.is c.decompose_up_looking.ensures

-- `analyse` meets its contract. Assumes nothing.
use borrow.Author.Rules.{rules}
use Rattle.cs_matrix.specs.Lent.{pattern_of}
use Rattle.cs_tree.specs.Pattern.{analysis}
use Rattle.job_prepare.proofs.Preparing.{analysed_there}
use Rattle.job_prepare.proofs.prepare.analyse.Goals as goal

pub returns : goal.returns
returns c = analysed_there (pattern_of c.args.a) (analysis c.args.tree.now c.args.up.now c.args.ui.now c.args.lp.now c.args.li.now)
    (search rules) (search rules) (search rules) (search rules) (search rules) c.analyse.ensures.0 c.analyse.ensures.1

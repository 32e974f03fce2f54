-- `first_lacking`: `find` of proofs/Searching.antt, rising. Assumes nothing.
use Rattle.std.proofs.Common.{rules, arith}
use Rattle.std.proofs.lemmas.Iterator.{YieldsList-from_range}
use Rattle.std.proofs.lemmas.Iterator.Search.{find_from_yields_List}
use borrow.Author.Tests.{tests}
use Rattle.cs_matrix.specs.Lent.{matrix_of}
use Rattle.cs_solve.specs.Diagonal.{lacking}
use Rattle.cs_solve.specs.Judge.{lacking_columns}
use Rattle.cs_solve.proofs.Searching.{first_found}
use Rattle.cs_solve.proofs.judge.first_lacking.Goals as goal

pub returns : goal.returns
unfolding lacking_columns
returns c = first_found _ _ _ (find_from_yields_List (lacking (matrix_of c.args.a.matrix)) _ _ c.find.result c.find.ensures.ran
    (YieldsList-from_range 0 c.args.a.matrix.pattern.ncols c.args.a.matrix.pattern.ncols (search rules) (omega arith)) (λ x b q k. search (rules, tests)))

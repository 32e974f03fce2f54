-- `last_lacking`: `find` of proofs/Searching.antt, falling. Assumes nothing.
use Rattle.std.proofs.Common.{rules}
use Rattle.std.proofs.lemmas.Iterator.Search.{find_from_yields_List}
use borrow.Author.Tests.{tests}
use Rattle.cs_matrix.specs.Lent.{matrix_of}
use Rattle.cs_solve.specs.Diagonal.{lacking}
use Rattle.cs_solve.specs.Judge.{lacking_columns}
use Rattle.cs_solve.proofs.Searching.{downward, last_found}
use Rattle.cs_solve.proofs.judge.last_lacking.Goals as goal

pub returns : goal.returns
unfolding lacking_columns
returns c = last_found _ _ _ (find_from_yields_List (lacking (matrix_of c.args.a.matrix)) _ _ c.find.result c.find.ensures.ran
    (downward c.args.a.matrix.pattern.ncols c.rev.ensures.source) (λ x b q k. search (rules, tests)))

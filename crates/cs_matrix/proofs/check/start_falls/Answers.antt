-- `start_falls`: test by test. Assumes nothing.
use Rattle.cs_matrix.proofs.Falling.{start_first, start-empty, start_test}
use Rattle.cs_matrix.proofs.check.start_falls.Goals as goal
use Rattle.cs_matrix.proofs.check.start_falls.Goals.{then-a-eq0-via-then-a-eq0, then-a-eq0-via-else-a-eq0+then-e-a}

pub returns-then-a-eq0 : goal.returns-then-a-eq0
returns-then-a-eq0 c = elim c.then-a-eq0.branch [
  | then-a-eq0-via-then-a-eq0 w ↦ start_first _ _ _ w.if-a-eq0.true
  | then-a-eq0-via-else-a-eq0+then-e-a w ↦ start-empty _ _ _ w.if-a-eq0.false w.if-e-a.true
]

pub returns : goal.returns
returns c = start_test _ _ _ c.if-a-eq0.false c.if-e-a.false

-- `check_vector`: each number from the tests before it. Assumes nothing.
use mathlib.Core.Path.{sym}
use Rattle.cs_matrix.proofs.Falling.{risen, not_risen}
use Rattle.cs_matrix.proofs.Refusing.{vector_n, vector-entries, vector_2, vector_4, vector_5, vector_0}
use Rattle.lists.proofs.Bools.{held, failed}
use Rattle.cs_matrix.proofs.check.check_vector.Goals as goal
use Rattle.cs_matrix.proofs.check.check_vector.Goals.{then-n-gt-MAX_DIMENSION-via-then-n-gt-MAX_DIMENSION}
use Rattle.cs_matrix.proofs.check.check_vector.Goals.{then-n-gt-MAX_DIMENSION-via-else-n-gt-MAX_DIMENSION+then-i-gt-MAX_ENTRIES}

pub returns-then-n-gt-MAX_DIMENSION : goal.returns-then-n-gt-MAX_DIMENSION
returns-then-n-gt-MAX_DIMENSION c = elim c.then-n-gt-MAX_DIMENSION.branch [
  | then-n-gt-MAX_DIMENSION-via-then-n-gt-MAX_DIMENSION w ↦ vector_n _ w.if-n-gt-MAX_DIMENSION.true
  | then-n-gt-MAX_DIMENSION-via-else-n-gt-MAX_DIMENSION+then-i-gt-MAX_ENTRIES w ↦ vector-entries _ w.if-n-gt-MAX_DIMENSION.false
      w.if-i-gt-MAX_ENTRIES.true
]

pub returns-then-v-i : goal.returns-then-v-i
returns-then-v-i c = vector_2 _ c.if-n-gt-MAX_DIMENSION.false c.if-i-gt-MAX_ENTRIES.false (λ e. c.if-v-i.true (sym e))

pub returns-then-not-all_below : goal.returns-then-not-all_below
returns-then-not-all_below c = vector_4 _ c.if-n-gt-MAX_DIMENSION.false c.if-i-gt-MAX_ENTRIES.false (sym c.if-v-i.false)
    (failed c.all_below.ensures c.if-not-all_below.true-raw)

pub returns-then-falls-ne0 : goal.returns-then-falls-ne0
returns-then-falls-ne0 c = vector_5 _ c.if-n-gt-MAX_DIMENSION.false c.if-i-gt-MAX_ENTRIES.false (sym c.if-v-i.false)
    (held c.all_below.ensures c.if-not-all_below.false-raw) (not_risen _ c.falls.ensures c.if-falls-ne0.true)

pub returns : goal.returns
returns c = vector_0 _ c.if-n-gt-MAX_DIMENSION.false c.if-i-gt-MAX_ENTRIES.false (sym c.if-v-i.false)
    (held c.all_below.ensures c.if-not-all_below.false-raw)
    (risen _ c.falls.ensures c.if-falls-ne0.false)

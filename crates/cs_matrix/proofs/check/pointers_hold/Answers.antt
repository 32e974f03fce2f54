-- `pointers_hold`: the first, the last, then every pair of neighbours, and `falls` tells. Assumes nothing.
use mathlib.Core.Path.{sym, ◌∙◌}
use borrow.Author.Tests.{le-leb, lt-leb}
use Rattle.lists.proofs.Folds.{telling_start, telling_holds, telling_fails, telling_done}
use Rattle.cs_matrix.proofs.Pointers.{pointers-first, pointers-last, pointers-rest}
use Rattle.cs_matrix.proofs.check.pointers_hold.Goals as goal
use Rattle.cs_matrix.proofs.check.pointers_hold.Goals.{else-p-k, then-p-k}

pub returns-then-p-ne0 : goal.returns-then-p-ne0
returns-then-p-ne0 c = pointers-first _ _ c.if-p-ne0.true

pub returns-then-wide-n : goal.returns-then-wide-n
returns-then-wide-n c = pointers-last _ _ c.if-p-ne0.false (λ e. c.if-wide-n.true (c.wide.ensures.0 ∙ e))

pub loop-k-init : goal.loop-k-init
loop-k-init c = telling_start _ _

pub loop-k-preserved : goal.loop-k-preserved
loop-k-preserved c = elim c.if-p-k.branch [
  | then-p-k t ↦
      rw t.falls-is (telling_fails _ c.loop-k.invariant c.loop-k-test.true (lt-leb _ _ t.if-p-k.true))
  | else-p-k t ↦
      rw t.falls-is (telling_holds _ c.loop-k.invariant c.loop-k-test.true (le-leb _ _ t.if-p-k.false))
]

pub returns : goal.returns
returns c = telling_done _ c.loop-k.invariant c.loop-k-test.false ∙ pointers-rest _ _ c.if-p-ne0.false (sym c.wide.ensures.0 ∙ c.if-wide-n.false)

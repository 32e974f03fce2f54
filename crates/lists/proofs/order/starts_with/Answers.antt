-- `starts_with`: the laws of proofs/Matching.antt. Assumes nothing.
use Rattle.std.proofs.Common.{◌∙◌, eq-eqb, ne_eqb}
use Rattle.lists.proofs.Folds.{telling_start, telling_holds, telling_fails, telling_done}
use Rattle.lists.proofs.Matching.{same-told, starts-short}
use Rattle.lists.proofs.order.starts_with.Goals as goal
use Rattle.lists.proofs.order.starts_with.Goals.{else-a-q, then-a-q}

pub returns-then-b-a : goal.returns-then-b-a
returns-then-b-a c = starts-short _ _ c.if-b-a.true

pub loop-q-init : goal.loop-q-init
loop-q-init c = telling_start _ _

pub loop-q-preserved : goal.loop-q-preserved
loop-q-preserved c = elim c.if-a-q.branch [
  | then-a-q t ↦
      rw t.apart-is (telling_fails _ c.loop-q.invariant c.loop-q-test.true (ne_eqb _ _ t.if-a-q.true))
  | else-a-q t ↦
      rw t.apart-is (telling_holds _ c.loop-q.invariant c.loop-q-test.true (eq-eqb _ _ t.if-a-q.false))
]

pub returns : goal.returns
returns c = telling_done _ c.loop-q.invariant c.loop-q-test.false ∙ same-told _ _ c.if-b-a.false

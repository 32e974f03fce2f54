-- `falls`: the loop of proofs/Falling.antt that counts. Assumes nothing.
use Rattle.std.proofs.Common.{◌≡◌, ◌+◌, ◌-◌, arith}
use borrow.Author.Tests.{le-leb, lt-leb}
use Rattle.cs_matrix.specs.Falls.{fallen}
use Rattle.cs_matrix.proofs.Falling.{counting_start, counting_holds, counting_fails, counting_most, counting_done}
use Rattle.cs_matrix.proofs.check.falls.Goals as goal
use Rattle.cs_matrix.proofs.check.falls.Goals.{else-rows-k, then-rows-k}

pub loop-k-init : goal.loop-k-init
loop-k-init c = counting_start _ _

pub overflow_add-n : goal.overflow_add-n
overflow_add-n c = omega (arith, counting_most _ c.loop-k.invariant, c.requires)

pub loop-k-preserved : goal.loop-k-preserved
loop-k-preserved c =
    let e : c.loop-k.k + 1 - 1 ≡ c.loop-k.k - 1 + 1 = omega arith in
    let f : c.loop-k.k - 1 + 1 ≡ c.loop-k.k = omega arith in
    elim c.if-rows-k.branch [
      | then-rows-k t ↦ rw (t.n-is, e) (counting_holds _ c.loop-k.invariant (omega arith) (rw f (le-leb _ _ t.if-rows-k.true)))
      | else-rows-k t ↦ rw (t.n-is, e) (counting_fails _ c.loop-k.invariant (omega arith) (rw f (lt-leb _ _ t.if-rows-k.false)))
    ]

pub returns : goal.returns
unfolding fallen
returns c = counting_done _ c.loop-k.invariant (omega arith)

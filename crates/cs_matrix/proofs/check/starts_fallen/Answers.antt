-- `starts_fallen`: the loop of proofs/Falling.antt that counts. Assumes nothing.
use mathlib.Core.Path.{sym, ◌∙◌}
use native.Mathlib.Omega.{arith}
use Rattle.cs_matrix.proofs.Pointers.{between}
use Rattle.cs_matrix.specs.Falls.{starts_fallen}
use Rattle.cs_matrix.proofs.Falling.{counting_start, counting_holds, counting_fails, counting_most, counting_done}
use Rattle.cs_matrix.proofs.check.starts_fallen.Goals as goal
use Rattle.cs_matrix.proofs.check.starts_fallen.Goals.{else-start_falls, then-start_falls}

pub loop-j-init : goal.loop-j-init
loop-j-init c = counting_start _ _

pub start_falls-requires : goal.start_falls-requires
start_falls-requires c = (between c.requires.ptrs c.requires.p_long c.loop-j-test.true c.wide.ensures.0 c.wide-in-loop-j.ensures.0).inside

pub overflow_add-n : goal.overflow_add-n
overflow_add-n c = omega (arith, counting_most _ c.loop-j.invariant, c.requires.cols)

pub loop-j-preserved : goal.loop-j-preserved
loop-j-preserved c = elim c.if-start_falls.branch [
  | then-start_falls t ↦
      rw t.n-is (counting_holds _ c.loop-j.invariant c.loop-j-test.true
      (rw (← c.wide.ensures.0, ← c.wide-in-loop-j.ensures.0) (sym c.start_falls.ensures ∙ t.if-start_falls.true)))
  | else-start_falls t ↦
      rw t.n-is (counting_fails _ c.loop-j.invariant c.loop-j-test.true
      (rw (← c.wide.ensures.0, ← c.wide-in-loop-j.ensures.0) (sym c.start_falls.ensures ∙ t.if-start_falls.false)))
]

pub returns : goal.returns
unfolding starts_fallen
returns c = counting_done _ c.loop-j.invariant c.loop-j-test.false

-- `transposed`: the loop of proofs/Turns.antt. Assumes nothing.
use native.Mathlib.Omega.{arith}
use Rattle.cs_solve.proofs.Turns.{transposing_turn, transposing_end, column_asked}
use Rattle.cs_solve.proofs.tr_solve.transposed.Goals as goal

pub transposed_at-requires : goal.transposed_at-requires
transposed_at-requires c = column_asked c.loop-j.invariant c.loop-j-test.true c.column-col.ensures

pub loop-j-preserved : goal.loop-j-preserved
loop-j-preserved c = transposing_turn c.loop-j.invariant c.loop-j-test.true c.column-col.ensures c.value_at-d.ensures c.transposed_at.ensures

pub returns : goal.returns
returns c = transposing_end c.loop-j.invariant (omega (arith, c.loop-j-test.false))

-- `add_values`: the loop of proofs/Equal.antt. Assumes nothing.
use Rattle.cs_sum.proofs.Equal.{Adding}
use Rattle.cs_sum.proofs.alike.add_values.Given as goal

abbrev pub invariant-loop-k : goal.invariant-loop-k
invariant-loop-k l = Adding l.rows l.av l.bv l.initial.oi l.initial.ov l.oi l.ov l.k

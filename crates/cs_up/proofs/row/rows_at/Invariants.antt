-- `rows_at`: the loop of proofs/Rowing.antt. Assumes nothing.
use Rattle.cs_up.proofs.Rowing.{Rowing}
use Rattle.cs_up.proofs.row.rows_at.Given as goal

abbrev pub invariant-loop-u : goal.invariant-loop-u
invariant-loop-u l = Rowing l.k l.us l.lp l.li l.initial.lx l.initial.next l.initial.x l.first l.lx l.next l.x l.pivot l.u-index

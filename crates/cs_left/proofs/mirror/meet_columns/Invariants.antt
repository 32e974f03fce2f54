-- `meet_columns`: the loop of proofs/Mirroring.antt. Assumes nothing.
use Rattle.cs_left.proofs.Mirroring.{Crossed}
use Rattle.cs_left.proofs.mirror.meet_columns.Given as goal

abbrev pub invariant-loop-c : goal.invariant-loop-c
invariant-loop-c l = Crossed l.a.ncols l.a.p.now l.a.i.now l.initial.next l.next l.c

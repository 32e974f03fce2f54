-- `meet_rows`: the loop of proofs/Mirroring.antt. Assumes nothing.
use Rattle.cs_left.proofs.Mirroring.{Walking}
use Rattle.cs_left.proofs.mirror.meet_rows.Given as goal

abbrev pub invariant-loop-q : goal.invariant-loop-q
invariant-loop-q l = Walking l.c l.a.p.now l.a.i.now l.initial.next l.next l.q

-- `starts_fallen`: the loop of proofs/Falling.antt that counts. Assumes nothing.
use Prim.Native.Nat.{◌+◌}
use lib.ListN.{get_or}
use Rattle.cs_matrix.specs.Falls.{start_falls}
use Rattle.cs_matrix.proofs.Falling.{Counting}
use Rattle.cs_matrix.proofs.check.starts_fallen.Given as goal

abbrev pub invariant-loop-j : goal.invariant-loop-j
invariant-loop-j l = Counting (λ q. start_falls l.i (get_or l.p q 0) (get_or l.p (q + 1) 0)) l.ncols l.n l.j

-- `stray` meets its contract. Assumes nothing.
use mathlib.Core.Path.{◌≡◌}
use Prim.Native.Nat.{ℕ}
use lib.ListN.{drop}
use Rattle.cs_left.proofs.Straying.{Straying}
use Rattle.cs_left.proofs.stray.stray.Given as goal

abbrev pub invariant-loop-row : goal.invariant-loop-row
invariant-loop-row l = (at : ℕ) × (l.rest.rest.now ≡ drop at l.held) × Straying l.k l.rows l.held l.row-index at

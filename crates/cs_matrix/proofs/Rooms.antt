-- Number 7 in lengths: `too_short` test by test, and what it says of a matrix that is to be written. Assumes nothing.
use mathlib.Core.Path.{◌≡◌}
use mathlib.Core.Bool.{false, ◌||◌}
use Prim.Native.Nat.{ℕ, ◌+◌, ◌≤◌}
use lib.Dec.{ltb}
use lib.ListN.{length}
use borrow.Author.Tests.{le-ltb, ltb-false}
use Rattle.lists.proofs.Bools.{or-false}
use Rattle.cs_matrix.specs.Matrix.{Matrix, Stored, short, short_by}

module _ (n k p i v : ℕ) where
  -- there is room
  pub record Room : Type 0 where
    pub in_p : n + 1 ≤ p
    pub in_i : k ≤ i
    pub in_v : k ≤ v

  pub room : short_by n k p i v ≡ false → Room
  unfolding short_by
  room h =
      let x = or-false (ltb p (n + 1) || ltb i k) _ h in
      let y = or-false (ltb p (n + 1)) _ x.0 in
      record { in_p = ltb-false _ _ y.0; in_i = ltb-false _ _ y.1; in_v = ltb-false _ _ x.1 }

-- of a matrix whose lists are as long as its columns and entries say
pub short-is : (a : Matrix) (out : Stored) (n k : ℕ) → length a.pattern.p ≡ n + 1 → length a.pattern.i ≡ k → length a.v ≡ k → k ≤ 4194304
    → short a out ≡ short_by n k (length out.p) (length out.i) (length out.v)
unfolding short short_by
short-is a out n k e f g h = rw (e, f, g, le-ltb 4194304 k h)

-- The value at a row of a column, by the place where the row stands. Assumes nothing.
use mathlib.Core.Path.{◌≡◌}
use mathlib.Core.List.{List, [], ◌∷◌}
use Prim.Native.Nat.{ℕ, zero, suc, ◌<◌}
use native.Mathlib.Omega.{arith}
use lib.Ieee.{Float, nan}
use lib.ListN.{length, get_or}
use borrow.Author.Tests.{eq-eqb, ne_eqb}
use Rattle.cs_matrix.specs.Matrix.{value_at}

-- row r stands at place m, behind smaller ones
pub value_there : (r m : ℕ) (rows : List ℕ) (vals : List Float) → length vals ≡ length rows → m < length rows →
    ((q : ℕ) → q < m → get_or rows q 0 < r) → get_or rows m 0 ≡ r → value_at r rows vals ≡ get_or vals m nan
unfolding value_at
value_there r m [] vals l h b e = absurd (omega arith)
value_there r m (i ∷ rows) [] l h b e = absurd (omega arith)
value_there r zero (i ∷ rows) (v ∷ vals) l h b e = rw (eq-eqb i r e)
value_there r (suc m) (i ∷ rows) (v ∷ vals) l h b e =
    let z : i ≡ r → ⊥ = λ q. omega (arith, b 0 (omega arith)) in
    rw (ne_eqb i r z) (value_there r m rows vals (omega arith) (omega arith) (λ q g. b (suc q) (omega arith)) e)

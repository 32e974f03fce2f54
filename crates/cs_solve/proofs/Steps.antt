-- The steps of one column, by the tests that they make, and the length that they keep. Assumes nothing.
use mathlib.Core.Path.{◌≡◌, refl, sym, ap, ◌∙◌}
use mathlib.Core.Bool.{Bool, true, false, cond}
use mathlib.Core.List.{List, [], ◌∷◌}
use mathlib.Core.Logic.{⊎_elim}
use Prim.Native.Nat.{ℕ, ◌≤◌, ◌<◌}
use native.Mathlib.Omega.{arith}
use lib.Dec.{ltb}
use lib.Ieee.{Float, nan, binary64, sub, mul, div}
use lib.ListN.{length, get_or, set, length-set}
use lib.Seq.{set_out, set-set, get_or-set_same, get_or-set_other}
use borrow.Author.Tests.{lt-ltb, le-ltb}
use Rattle.lists.specs.Folds.{over}
use Rattle.lists.proofs.Bools.{le-or-lt}
use Rattle.lists.proofs.Positions.{over-keeps}
use Rattle.cs_matrix.specs.Matrix.{Matrix}
use Rattle.cs_solve.specs.Solve.{lower_at, forward_at, forward_column}
use Rattle.cs_solve.specs.TrSolve.{raise_at, transposed_at}

-- ---- forward: the lower rows
module _ (j : ℕ) (x : Float) (i : ℕ) (v : Float) (b : List Float) where
  pub lower-set : j < i → set b i (sub binary64 (get_or b i nan) (mul binary64 x v)) ≡ lower_at j x i v b
  unfolding lower_at
  lower-set h = rw (lt-ltb j i h)

  pub lower-above : i ≤ j → b ≡ lower_at j x i v b
  unfolding lower_at
  lower-above h = rw (le-ltb j i h)

  pub lower_out : length b ≤ i → b ≡ lower_at j x i v b
  unfolding lower_at
  lower_out h = go (ltb j i)
    where
      go : (t : Bool) → b ≡ cond t (set b i (sub binary64 (get_or b i nan) (mul binary64 x v))) b
      go true = sym (set_out b i _ h)
      go false = refl

  length-lower_at : length (lower_at j x i v b) ≡ length b
  unfolding lower_at
  length-lower_at = go (ltb j i)
    where
      go : (t : Bool) → length (cond t (set b i (sub binary64 (get_or b i nan) (mul binary64 x v))) b) ≡ length b
      go true = length-set b i _
      go false = refl

-- a column past the end changes nothing
lower-none : (j : ℕ) (x : Float) (rows : List ℕ) (vals b : List Float) → length b ≤ j → over (lower_at j x) rows vals b ≡ b
unfolding over
lower-none j x [] vals b h = refl
lower-none j x (i ∷ rows) [] b h = refl
lower-none j x (i ∷ rows) (v ∷ vals) b h = ap (over (lower_at j x) rows vals) (sym one) ∙ lower-none j x rows vals b h
  where
    one : b ≡ lower_at j x i v b
    one = ⊎_elim (λ (g : i ≤ j). lower-above j x i v b g) (λ (g : j < i). lower_out j x i v b (omega arith)) (le-or-lt i j)

-- ---- forward: one column
module _ (j : ℕ) (d : Float) (rows : List ℕ) (vals b : List Float) where
  abbrev quotient : Float
  quotient = div binary64 (get_or b j nan) d

  pub forward-is : {b' : List Float} → b' ≡ over (lower_at j quotient) rows vals (set b j quotient) → b' ≡ forward_at j d rows vals b
  unfolding forward_at
  forward-is e = e

  pub length-forward_at : length (forward_at j d rows vals b) ≡ length b
  unfolding forward_at
  length-forward_at = over-keeps length (lower_at j quotient) rows vals (λ i v c m. length-lower_at j quotient i v c) (set b j quotient) ∙
      length-set b j quotient

  pub forward_out : length b ≤ j → b ≡ forward_at j d rows vals b
  unfolding forward_at
  forward_out h = rw (set_out b j quotient h) (sym (lower-none j quotient rows vals b h))

pub length-forward_column : (a : Matrix) (j : ℕ) (b : List Float) → length (forward_column a j b) ≡ length b
unfolding forward_column
length-forward_column a j b = length-forward_at j _ _ _ b

-- ---- transposed: the lower rows, with b(j) in y
module _ (j i : ℕ) (v : Float) (b : List Float) (y : Float) where
  pub raise_set : j < length b → j < i → set b j (sub binary64 y (mul binary64 v (get_or b i nan))) ≡ raise_at j i v (set b j y)
  unfolding raise_at
  raise_set g h = rw (
    lt-ltb j i h,
    get_or-set_same b j y nan g,
    get_or-set_other b j i y nan (λ (e : i ≡ j). omega arith),
    set-set b j y (sub binary64 y (mul binary64 v (get_or b i nan))),
  )

length-raise_at : (j i : ℕ) (v : Float) (b : List Float) → length (raise_at j i v b) ≡ length b
unfolding raise_at
length-raise_at j i v b = go (ltb j i)
  where
    go : (t : Bool) → length (cond t (set b j (sub binary64 (get_or b j nan) (mul binary64 v (get_or b i nan)))) b) ≡ length b
    go true = length-set b j _
    go false = refl

-- ---- transposed: one column
pub transposed-is : (j : ℕ) (d : Float) (rows : List ℕ) (vals b : List Float) (y : Float) → j < length b → set b j y ≡ over (raise_at j) rows vals b
    → set b j (div binary64 y d) ≡ transposed_at j d rows vals b
unfolding transposed_at
transposed-is j d rows vals b y h e = rw (← e, get_or-set_same b j y nan h, set-set b j y (div binary64 y d))

pub length-transposed_at : (j : ℕ) (d : Float) (rows : List ℕ) (vals b : List Float) → length (transposed_at j d rows vals b) ≡ length b
unfolding transposed_at
length-transposed_at j d rows vals b = length-set (over (raise_at j) rows vals b) j _ ∙
    over-keeps length (raise_at j) rows vals (λ i v c m. length-raise_at j i v c) b

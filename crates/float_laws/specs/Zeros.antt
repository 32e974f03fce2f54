-- Zeros of both signs among the values of binary64. Assumes nothing.
use Rattle.std.specs.Prelude.{Bool, true, false, ◌⊎◌, ◌≡◌, Float, pos}
use Rattle.std.specs.Float.{nan, inf, fin}

-- +0 or -0
pub record Zero (x : Float) : Type 0 where
  pub sign : Bool
  pub is : x ≡ fin sign 0 (pos 0)

-- the same, or zeros that may differ in sign
abbrev pub Alike : Float → Float → Type 0
Alike x y = (x ≡ y) ⊎ (Zero x × Zero y)

-- neither infinite nor NaN
abbrev pub finite : Float → Bool
finite nan = false
finite (inf s) = false
finite (fin s m e) = true

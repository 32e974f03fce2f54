-- What "IEEE 754's, rounded to nearest" says of the root r of a positive finite x, in whole numbers, and what bits the other roots have.
-- With r and y counted in smallest values, 2 ^ -1074, and x in their squares, 2 ^ -2148, the point halfway between r and y is above the true root of x
-- where (r + y)·(r + y) is above 4x. A NaN and an infinity count 0. Assumes nothing.
use Rattle.std.specs.Prelude.{◌≡◌, ℕ, ◌+◌, ◌-◌, ◌*◌, ◌^◌, ◌%◌, ◌≤◌, ◌<◌, T, Float}
use Rattle.std.specs.Float.{binary64}
use Rattle.std.specs.Float.Ieee.{fits}
use Rattle.std.specs.Float.Ieee.Positive.{positive}
use Rattle.root.specs.Root.{count, Largest, nearer}

abbrev pub square : Float → ℕ
square x = count x * 2 ^ 1074

-- In significands: x is m·4^k and r is a·2^k, where a is made of the largest q with q·q <= m and has 53 digits, so that q + 1 does not reach 2 ^ 53.
-- The true root of m is less than a half away from a, and never a half.
pub record Significands (x r : Float) (m q a k : ℕ) : Type 0 where
  pub input : square x ≡ m * 4 ^ k
  pub answer : count r ≡ a * 2 ^ k
  pub largest : Largest m q
  pub rounds : a ≡ nearer m q
  pub least : 2 ^ 52 ≤ a
  pub most : a < 2 ^ 53
  pub over : (2 * a - 1) * (2 * a - 1) < 4 * m
  pub under : 4 * m < (2 * a + 1) * (2 * a + 1)

-- Among all f64: every other one, y, is farther from the true root, since the halfway point lies on y's side and never on the root itself.
-- And x lies between the squares of the values below r and above it.
pub record Closest (x r : Float) : Type 0 where
  pub above_zero : T (positive r)
  pub significands : (m : ℕ) × (q : ℕ) × (a : ℕ) × (k : ℕ) × Significands x r m q a k
  pub nearer_than_above : (y : Float) → T (fits binary64 y) → count r < count y → 4 * square x < (count r + count y) * (count r + count y)
  pub nearer_than_below : (y : Float) → T (fits binary64 y) → count y < count r → (count r + count y) * (count r + count y) < 4 * square x
  pub under_above : (y : Float) → T (fits binary64 y) → count r < count y → square x < count y * count y
  pub over_below : (y : Float) → T (fits binary64 y) → count y < count r → count y * count y < square x

-- `positive` is finite and above zero
abbrev pub Nearest : Float → Float → Type 0
Nearest x r = T (positive x) → Closest x r

-- The patterns b whose roots, r, are not worked out.
pub record Patterns (b r : ℕ) : Type 0 where
  pub zeros : b % 0x8000_0000_0000_0000 ≡ 0 → r ≡ b
  pub infinite : b ≡ 0x7FF0_0000_0000_0000 → r ≡ b
  pub not_a_number : 0x7FF0_0000_0000_0000 < b % 0x8000_0000_0000_0000 → r ≡ 0x7FF8_0000_0000_0000
  pub negative : 0x8000_0000_0000_0000 < b → r ≡ 0x7FF8_0000_0000_0000

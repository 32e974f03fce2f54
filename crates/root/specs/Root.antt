-- The square root of an f64: the scope document's section "Square root", sentence by sentence. What stands in quotation marks is the document's.
-- No exponent here is negative. Every finite f64 is a whole number n of smallest values, 2 ^ -1074. Where n's top bit stands at place i, the last place being 0,
-- the document's M·2^e has that bit at place 52 of M, so that e = i - 52 - 1074 = i - 1126. So i and e are even together. Assumes nothing.
use Rattle.std.specs.Prelude.{ℕ, zero, suc, ◌+◌, ◌-◌, ◌*◌, ◌/◌, ◌%◌, ◌^◌, ◌≤◌, true, false, cond, leb, eqb, Float}
use Rattle.std.specs.Float.{nan, inf, fin, binary64}
use Rattle.std.specs.Float.Ieee.{up, down, size, odd, of_bits, to_bits}

-- how many smallest values a finite value is, its sign aside
abbrev pub count : Float → ℕ
count nan = 0
count (inf s) = 0
count (fin s m e) = m * up e * 2 ^ 1074 / down e

-- "A positive finite input is M·2^e with M from 2^52 to 2^53 - 1, a subnormal being shifted up until its top bit stands there."
-- n with its top bit taken from place i to place 52: up at a subnormal, and from a higher place down, where n has only zeros below
abbrev pub significand : ℕ → ℕ → ℕ
significand n i = n * 2 ^ 52 / 2 ^ i

-- "With e even, m = M·2^52, else M·2^53"
abbrev pub radicand : ℕ → ℕ → ℕ
radicand M i = cond (eqb (i % 2) 0) (M * 2 ^ 52) (M * 2 ^ 53)

-- "q is the largest whole number with q·q <= m."
pub record Largest (m q : ℕ) : Type 0 where
  pub square : q * q ≤ m
  pub most : (p : ℕ) → p * p ≤ m → p ≤ q

-- That number, for an m below 4 ^ d: twice that of m / 4, or one more. proofs/Nearest.antt proves that it is `Largest`, and that no other number is.
unfoldable pub whole_root : ℕ → ℕ → ℕ
whole_root zero m = 0
whole_root (suc d) m = let q = 2 * whole_root d (m / 4) in cond (leb ((q + 1) * (q + 1)) m) (q + 1) q

-- "The answer is q if m <= q·q + q, else q+1"
abbrev pub nearer : ℕ → ℕ → ℕ
nearer m q = cond (leb m (q * q + q)) q (q + 1)

-- the same of m alone: M is below 2 ^ 53, so m is below 4 ^ 53
unfoldable pub rounded : ℕ → ℕ
unfolding whole_root
rounded m = nearer m (whole_root 53 m)

-- "times 2 to the power (e-52)/2 or (e-53)/2. The exponent is halved exactly below zero too."
-- With i even (e - 52) / 2 is i / 2 - 589, and with i odd (e - 53) / 2 is (i - 1) / 2 - 589: i / 2, cut to a whole number, less 589.
-- `odd 53 false a k l` is the positive value a·2^k / 2^l.
unfoldable pub root_at : ℕ → ℕ → Float
unfolding rounded odd
root_at n i = odd 53 false (rounded (radicand (significand n i) i)) (i / 2) 589

-- `size n` is how many binary digits n has
unfoldable pub positive_root : ℕ → Float
unfolding root_at size
positive_root n = root_at n (size n - 1)

-- "+0 and -0 give themselves, +infinity itself, other negatives and NaN the bits 0x7FF8000000000000."
-- There is one NaN among these values, and `to_bits` writes it with those bits.
unfoldable pub root_of : Float → Float
unfolding positive_root
root_of nan = nan
root_of (inf false) = inf false
root_of (inf true) = nan
root_of (fin s zero e) = fin s zero e
root_of (fin true (suc m) e) = nan
root_of (fin false (suc m) e) = positive_root (count (fin false (suc m) e))

-- the same from bits to bits
unfoldable pub root_bits : ℕ → ℕ
unfolding root_of of_bits to_bits
root_bits b = to_bits binary64 (root_of (of_bits binary64 b))

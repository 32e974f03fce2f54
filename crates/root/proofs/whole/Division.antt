-- The digits that one division adds to the whole root s of a, and how they round. Assumes nothing.
use mathlib.Core.Path.{◌≡◌, refl, ap, sym, ◌∙◌}
use mathlib.Core.Bool.{Bool, true, false}
use Prim.Native.Nat.{ℕ, ◌+◌, ◌-◌, ◌*◌, ◌/◌, ◌%◌, ◌^◌, ◌≤◌, ◌<◌}
use native.Mathlib.Nat.{add-mul, mul-add, mul_comm, mul_assoc, mul-mul-mul_comm, mul-le-mul, le_of_mul-le-mul_right, div-add-mod', mod-lt}
use native.Mathlib.Omega.{arith}
use lib.Dec.{leb}
use borrow.Author.Tests.{le-leb, lt-leb, leb-true, leb-false}
use Rattle.root.specs.Root.{Largest, nearer, rounded}
use Rattle.root.proofs.Nearest.{sq_suc, is_largest, next-over, rounded_of}

-- how large the numbers are that the code works out
pub record Sized (a s : ℕ) : Type 0 where
  pub least : 2 ^ 26 ≤ s
  pub most : s < 2 ^ 27
  pub over : a - s * s ≤ 2 * s
  pub rest : (a - s * s) * 2 ^ 25 % s < s
  pub digits : (a - s * s) * 2 ^ 25 / s ≤ 2 ^ 26
  pub square : (a - s * s) * 2 ^ 25 / s * ((a - s * s) * 2 ^ 25 / s) ≤ 2 ^ 52

sq_sum : (x q : ℕ) → (x + q) * (x + q) ≡ x * x + 2 * (q * x) + q * q
sq_sum x q = omega (arith, add-mul x q (x + q), mul-add x x q, mul-add q x q, mul_comm x q)

-- ---- a has 53 or 54 digits, so its whole root s has 27
module _ {a s : ℕ} (low : 2 ^ 52 ≤ a) (high : a + 2 ≤ 2 ^ 54) (l : Largest a s) where
  too_low : s < 2 ^ 26 → ⊥
  too_low g = omega (arith, next-over l, mul-le-mul {n₁ = s + 1} {m₁ = s + 1} {n₂ = 2 ^ 26} {m₂ = 2 ^ 26} (omega arith) (omega arith))

  too_high : 2 ^ 27 ≤ s → ⊥
  too_high g = omega (arith, l.square, mul-le-mul {n₁ = 2 ^ 27} {m₁ = 2 ^ 27} {n₂ = s} {m₂ = s} g g)

  s_least : 2 ^ 26 ≤ s
  s_least = omega (arith, too_low)

  s_most : s < 2 ^ 27
  s_most = omega (arith, too_high)

  -- what the code works out
  abbrev n : ℕ
  n = (a - s * s) * 2 ^ 25

  abbrev q : ℕ
  q = n / s

  abbrev root : ℕ
  root = s * 2 ^ 26 + q

  abbrev left : ℕ
  left = n % s * 2 ^ 27

  over-most : a - s * s ≤ 2 * s
  over-most = omega (arith, next-over l, sq_suc s)

  divides : q * s + n % s ≡ n
  divides = div-add-mod' n s

  rest-less : n % s < s
  rest-less = mod-lt n (omega (arith, s_least))

  q_most : q ≤ 2 ^ 26
  q_most = le_of_mul-le-mul_right {k = s} (omega (arith, divides, over-most)) (omega (arith, s_least))

  -- q·q, by the digits of q
  qq_by : q * q ≤ q * 2 ^ 26
  qq_by = mul-le-mul {n₁ = q} {m₁ = q} {n₂ = q} {m₂ = 2 ^ 26} (omega arith) q_most

  qq_most : q * q ≤ 2 ^ 52
  qq_most = omega (arith, qq_by, q_most)

  pub sized : Sized a s
  sized = record { least = s_least; most = s_most; over = over-most; rest = rest-less; digits = q_most; square = qq_most }

  -- a · 2^52 is the square of root, and what is left over q·q
  sides : a * 2 ^ 52 + q * q ≡ root * root + left
  sides = omega (arith, sq_sum (s * 2 ^ 26) q, mul-mul-mul_comm s (2 ^ 26) s (2 ^ 26), mul_assoc q s (2 ^ 26), divides, l.square)

  found : q * q ≤ left → Largest (a * 2 ^ 52) root
  found h = is_largest (omega (arith, sides)) (omega (arith, sides, sq_suc root, rest-less))

  pub rounds_up : root + q * q < left → root + 1 ≡ rounded (a * 2 ^ 52)
  rounds_up h = rw (lt-leb (a * 2 ^ 52) (root * root + root) (omega (arith, sides))) at (rounded_of (omega arith) (found (omega arith)))

  -- where root is one too many it is what one less rounds to
  before : left < q * q → root ≡ rounded (a * 2 ^ 52)
  before h =
      let p : ℕ = root - 1 in
      let e : p + 1 ≡ root = omega (arith, s_least) in
      let f : root * root ≡ p * p + 2 * p + 1 = ap (λ (x : ℕ). x * x) (sym e) ∙ sq_suc p in
      let o : root ≡ p + 1 = sym e in
      let b : q * q < root = omega (arith, qq_by, q_most, s_least) in
      let g : nearer (a * 2 ^ 52) p ≡ rounded (a * 2 ^ 52) =
      rounded_of (omega arith) (is_largest {m = a * 2 ^ 52} {q = p} (omega (arith, sides, f, b)) (omega (arith, sides, f, sq_suc p))) in
      o ∙ (rw (lt-leb (a * 2 ^ 52) (p * p + p) (omega (arith, sides, f, b))) at g)

  pub rounds_here : left ≤ root + q * q → root ≡ rounded (a * 2 ^ 52)
  rounds_here h = go (leb (q * q) left) refl
    where
      go : (t : Bool) → leb (q * q) left ≡ t → root ≡ rounded (a * 2 ^ 52)
      go true e =
          let k = leb-true (q * q) left e in
          rw (le-leb (a * 2 ^ 52) (root * root + root) (omega (arith, sides))) at (rounded_of (omega arith) (found k))
      go false e = before (leb-false (q * q) left e)

-- What a turn of `whole_root` keeps, and the root that it has found after the last. Assumes nothing.
use mathlib.Core.Path.{◌≡◌, sym, ◌∙◌, subst}
use Prim.Native.Nat.{ℕ, ◌+◌, ◌-◌, ◌*◌, ◌/◌, ◌%◌, ◌^◌, ◌≤◌, ◌<◌}
use native.Mathlib.Nat.{mul-mul-mul_comm, mul_comm, mul_assoc, pow-suc}
use native.Mathlib.Numerals.{add-one}
use native.Mathlib.Omega.{arith}
use lib.Pow.{pow_mono}
use Rattle.root.specs.Root.{Largest}
use Rattle.root.proofs.Nearest.{sq_suc, is_largest}

-- with i turns done, the digits that came down are the square of the root and the remainder
pub record Turn (a left rem root i : ℕ) : Type 0 where
  pub bound : i ≤ 27
  pub whole : (root * root + rem) * 2 ^ 54 + left ≡ a * 4 ^ i
  pub small : rem ≤ 2 * root
  pub rest : left < 2 ^ 54
  pub short : root < 2 ^ i

pub start : (a : ℕ) → a + 2 ≤ 2 ^ 54 → Turn a a 0 0 0
start a h = record { bound = omega arith; whole = omega arith; small = omega arith; rest = omega arith; short = omega arith }

pub root-lt : {a left rem root i : ℕ} → Turn a left rem root i → root < 2 ^ 27
root-lt {i = i} t = omega (arith, t.short, pow_mono {i = i} {j = 27} t.bound)

four : (a i : ℕ) → a * 4 ^ (i + 1) ≡ 4 * (a * 4 ^ i)
four a i = rw (add-one, pow-suc) (sym (mul_assoc a (4 ^ i) 4) ∙ mul_comm (a * 4 ^ i) 4)

two : (i : ℕ) → 2 ^ (i + 1) ≡ 2 * 2 ^ i
two i = rw (add-one, pow-suc) (mul_comm (2 ^ i) 2)

sq_twice : (r : ℕ) → r * 2 * (r * 2) ≡ 4 * (r * r)
sq_twice r = mul-mul-mul_comm r 2 r 2 ∙ mul_comm (r * r) 4

module _ {a left rem root i : ℕ} (t : Turn a left rem root i) (l : i < 27) where
  pub fewer : root * 4 + 1 ≤ rem * 4 + left / 2 ^ 52 → Turn a (left % 2 ^ 52 * 4) (rem * 4 + left / 2 ^ 52 - (root * 4 + 1)) (root * 2 + 1) (i + 1)
  fewer h = record {
    bound = omega arith;
    whole = omega (arith, t.whole, four a i, sq_suc (root * 2), sq_twice root, t.rest);
    small = omega (arith, t.small, t.rest);
    rest = omega arith;
    short = omega (arith, t.short, two i);
  }

  pub same : rem * 4 + left / 2 ^ 52 < root * 4 + 1 → Turn a (left % 2 ^ 52 * 4) (rem * 4 + left / 2 ^ 52) (root * 2) (i + 1)
  same h = record {
    bound = omega arith;
    whole = omega (arith, t.whole, four a i, sq_twice root, t.rest);
    small = omega (arith, t.small, t.rest);
    rest = omega arith;
    short = omega (arith, t.short, two i);
  }

pub found : {a left rem root i : ℕ} → Turn a left rem root i → 27 ≤ i → Largest a root
found {a} {left} {rem} {root} {i} t h =
    let e : Turn a left rem root 27 = subst (λ (k : ℕ). Turn a left rem root k) (omega (arith, t.bound)) t in
    let d : root * root + rem ≡ a = omega (arith, e.whole, e.rest) in
    is_largest (omega (arith, d)) (omega (arith, d, sq_suc root, t.small))

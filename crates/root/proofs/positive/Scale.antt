-- The significand that `scaled_root` shifts up by its leading zeros, and its exponent, are the definition's. Assumes nothing.
use mathlib.Core.Path.{◌≡◌, sym, ap, ◌∙◌, subst}
use Prim.Native.Nat.{ℕ, suc, ◌+◌, ◌-◌, ◌*◌, ◌/◌, ◌%◌, ◌^◌, ◌≤◌, ◌<◌}
use native.Mathlib.Nat.{mod-eq_of_lt, lt_of_le_of_lt, mul-le-mul_right}
use native.Mathlib.Omega.{arith}
use lib.Pow.{pow-add, shl_lt}
use lib.Count.{count_leading_zeros, leading_top}
use lib.Ieee.{binary64, to_bits}
use Rattle.root.specs.Root.{rounded, positive_root}
use Rattle.float_bits.proofs.Powers.{pow-back}
use Rattle.root.proofs.Counts.{shift, Scaled, most, under_root, positive_root-is}
use Rattle.root.proofs.Nearest.{wide, rounded-range}
use Rattle.root.proofs.Patterns.{written}

-- what the code computes
abbrev pub place : ℕ → ℕ → ℕ
place u x = x + 62 - count_leading_zeros 64 u

abbrev pub significand_of : ℕ → ℕ
significand_of u = u * 2 ^ (count_leading_zeros 64 u - 11)

abbrev pub argument : ℕ → ℕ → ℕ
argument u x = significand_of u % 2 ^ 64 * 2 ^ (place u x % 2) % 2 ^ 64

pub record Ready (u x : ℕ) : Type 0 where
  pub fewest : 11 ≤ count_leading_zeros 64 u
  pub fewer : count_leading_zeros 64 u < 64
  pub low : 2 ^ 52 ≤ argument u x
  pub high : argument u x + 2 ≤ 2 ^ 54
  pub is : (place u x / 2 + 485) * 0x10_0000_0000_0000 + rounded (argument u x * 2 ^ 52) ≡ to_bits binary64 (positive_root (u * 2 ^ (x - 1)))
  pub digits : rounded (argument u x * 2 ^ 52) < 2 ^ 53

module _ (u x : ℕ) (some : 0 < u) (short : u < 2 ^ 53) (first : 1 ≤ x) (last : x ≤ 2046) where
  -- j is the place of u's top bit
  scaled-up : (j : ℕ) → count_leading_zeros 64 u + suc j ≡ 64 → j < 53 → 2 ^ j ≤ u → u < 2 ^ suc j →
      Scaled (u * 2 ^ (x - 1)) (place u x) (significand_of u)
  scaled-up j e h lo hi =
      let i : j + (x - 1) ≡ place u x = omega arith in
      record {
        low = subst (λ (k : ℕ). 2 ^ k ≤ u * 2 ^ (x - 1)) i (subst (λ (v : ℕ). v ≤ u * 2 ^ (x - 1)) (sym (pow-add 2 j (x - 1)))
            (mul-le-mul_right (2 ^ (x - 1)) lo));
        high = subst (λ (k : ℕ). u * 2 ^ (x - 1) < 2 ^ k) (omega arith) (shl_lt (suc j) (x - 1) hi);
        is = shift u (x - 1) 52 (count_leading_zeros 64 u - 11) (place u x) (omega arith);
      }

  pub ready : Ready u x
  ready =
      let t = leading_top 64 u some (omega arith) in
      let h : t.0 < 53 = pow-back t.0 53 (lt_of_le_of_lt t.2 short) in
      let s = scaled-up t.0 t.1 h t.2 t.3 in
      let i = place u x in
      let M = significand_of u in
      let w = wide (u * 2 ^ (x - 1)) i M s in
      let e : M % 2 ^ 64 ≡ M = mod-eq_of_lt (omega (arith, most (u * 2 ^ (x - 1)) i M s)) in
      let a : argument u x ≡ M * 2 ^ (i % 2) = ap (λ (v : ℕ). v * 2 ^ (i % 2) % 2 ^ 64) e ∙ mod-eq_of_lt (omega arith) in
      let r : rounded (argument u x * 2 ^ 52) ≡ rounded (under_root M i) = ap (λ (v : ℕ). rounded (v * 2 ^ 52)) a in
      let g = rounded-range (under_root M i) (omega arith) (omega arith) in
      record {
        fewest = omega (arith, t.1);
        fewer = omega (arith, t.1);
        low = omega (arith, a, w);
        high = omega (arith, a, w);
        is = ap (λ (v : ℕ). (i / 2 + 485) * 0x10_0000_0000_0000 + v) r
            ∙ written (i / 2 + 485) (rounded (under_root M i)) g.0 g.1 (omega arith)
            ∙ ap (to_bits binary64) (sym (positive_root-is (u * 2 ^ (x - 1)) i M s));
        digits = omega (arith, r, g);
      }

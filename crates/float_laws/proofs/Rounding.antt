-- A value that fits the format is rounded to itself. Assumes nothing.
use mathlib.Core.Path.{◌≡◌, refl, sym, ap, subst, ◌∙◌}
use mathlib.Core.Bool.{Bool, ◌&&◌}
use Prim.Native.Nat.{ℕ, zero, suc, ◌+◌, ◌-◌, ◌*◌, ◌%◌, ◌^◌, ◌≤◌, ◌<◌}
use native.Mathlib.Nat.{mul-one, mul_assoc, mul_left_comm, pow-suc, pow-succ', eq_of_mul-eq-mul_right, zero-mul, mul-pos, zero-lt-suc}
use native.Mathlib.Omega.{arith}
use lib.Dec.{T, leb, ltb, eqb, leb→le, ltb→lt, eqb→eq}
use lib.IntN.{ℤ, pos, negsuc}
use lib.Pow.{pow_pos, pow_mono, pow-add, shl_lt}
use lib.Ieee.{Float, nan, inf, fin, binary64, up, down, round, fits}
use lib.Ieee.Exact.{HasValue, round_exact}
use lib.Ieee.Fits.{and_l, and_r, round-fits, down_pos, up_pos}
use Rattle.float_bits.proofs.Powers.{pow_le_back}

-- ---- what fits says of a value that is not zero
pub record Fits (m : ℕ) (e : ℤ) : Type 0 where
  pub odd : suc m % 2 ≡ 1
  pub digits : suc m < 2 ^ 53
  pub least : down e ≤ 2 ^ 1074
  pub most : suc m * up e < 2 ^ 1024 * down e

fits_mean : (s : Bool) (m : ℕ) (e : ℤ) → T (fits binary64 (fin s (suc m) e)) → Fits m e
unfolding fits
fits_mean s m e t =
    let a = eqb (suc m % 2) 1 in
    let b = ltb (suc m) (2 ^ 53) in
    let c = leb (down e) (2 ^ 1074) in
    let d = ltb (suc m * up e) (2 ^ 1024 * down e) in
    record {
      odd = eqb→eq (suc m % 2) 1 (and_l a b (and_l (a && b) c (and_l (a && b && c) d t)));
      digits = ltb→lt (suc m) (2 ^ 53) (and_r a b (and_l (a && b) c (and_l (a && b && c) d t)));
      least = leb→le (down e) (2 ^ 1074) (and_r (a && b) c (and_l (a && b && c) d t));
      most = ltb→lt (suc m * up e) (2 ^ 1024 * down e) (and_r (a && b && c) d t);
    }

-- ---- an odd number times a power of two is written in one way
even_odd : (m t : ℕ) → m % 2 ≡ 1 → m ≡ 2 * t → ⊥
even_odd m t o h = omega arith

odd_pow : (m n a b : ℕ) → m % 2 ≡ 1 → n % 2 ≡ 1 → m * 2 ^ a ≡ n * 2 ^ b → (m ≡ n) × (a ≡ b)
odd_pow m n zero zero o p h = (sym (mul-one m) ∙ h ∙ mul-one n, refl)
odd_pow m n zero (suc b) o p h = absurd (even_odd m (n * 2 ^ b) o (sym (mul-one m) ∙ h ∙ ap (λ (x : ℕ). n * x) (pow-succ' 2 b) ∙
    mul_left_comm n 2 (2 ^ b)))
odd_pow m n (suc a) zero o p h = absurd (even_odd n (m * 2 ^ a) p (sym (mul-one n) ∙ sym h ∙ ap (λ (x : ℕ). m * x) (pow-succ' 2 a) ∙
    mul_left_comm m 2 (2 ^ a)))
odd_pow m n (suc a) (suc b) o p h =
    let r = odd_pow m n a b o p (eq_of_mul-eq-mul_right 2 (zero-lt-suc 1) (m * 2 ^ a) (n * 2 ^ b)
    (mul_assoc m (2 ^ a) 2 ∙ ap (λ (x : ℕ). m * x) (sym (pow-suc 2 a)) ∙ h ∙ ap (λ (x : ℕ). n * x) (pow-suc 2 b) ∙ sym (mul_assoc n (2 ^ b) 2))) in
    (r.0, ap suc r.1)

-- one side has a whole value, the other a fraction
not-whole : (m n a b : ℕ) → n % 2 ≡ 1 → m * 2 ^ a * 2 ^ suc b ≡ n → ⊥
not-whole m n a b o h = even_odd n (m * 2 ^ a * 2 ^ b) o (sym h ∙ ap (λ (x : ℕ). m * 2 ^ a * x) (pow-succ' 2 b) ∙ mul_left_comm (m * 2 ^ a) 2 (2 ^ b))

unique : (m n : ℕ) (e g : ℤ) → m % 2 ≡ 1 → n % 2 ≡ 1 → m * up e * down g ≡ n * up g * down e → (m ≡ n) × (e ≡ g)
unique m n (pos a) (pos b) o p h = let r = odd_pow m n a b o p (sym (mul-one (m * 2 ^ a)) ∙ h ∙ mul-one (n * 2 ^ b)) in (r.0, ap pos r.1)
unique m n (pos a) (negsuc b) o p h = absurd (not-whole m n a b p (h ∙ mul-one (n * 1) ∙ mul-one n))
unique m n (negsuc a) (pos b) o p h = absurd (not-whole n m b a o (sym h ∙ mul-one (m * 1) ∙ mul-one m))
unique m n (negsuc a) (negsuc b) o p h =
    let r = odd_pow m n (suc b) (suc a) o p (ap (λ (x : ℕ). x * 2 ^ suc b) (sym (mul-one m)) ∙ h ∙ ap (λ (x : ℕ). x * 2 ^ suc a) (mul-one n)) in
    (r.0, ap negsuc (suc-is (sym r.1)))
  where
    suc-is : {a b : ℕ} → suc a ≡ suc b → a ≡ b
    suc-is h = omega arith

-- ---- the value of the rounded one
value : (s : Bool) (m : ℕ) (e : ℤ) → Fits m e → HasValue (round binary64 s (suc m * up e) (down e)) s (suc m * up e) (down e)
value s m (pos k) f = round_exact binary64 s (suc m * 2 ^ k) 1 (suc m) (k + 1074) (zero-lt-suc 0) f.digits fine same
  where
    shifted : suc m * 2 ^ (k + 1074) ≡ suc m * 2 ^ k * 2 ^ 1074
    shifted = ap (λ (x : ℕ). suc m * x) (pow-add 2 k 1074) ∙ sym (mul_assoc (suc m) (2 ^ k) (2 ^ 1074))

    under_top : suc m * 2 ^ k < 2 ^ 1024
    under_top = subst (λ (x : ℕ). suc m * 2 ^ k < x) (mul-one (2 ^ 1024)) f.most

    fine : suc m * 2 ^ (k + 1074) < 2 ^ (1074 + 1024)
    fine = subst (λ (x : ℕ). x < 2 ^ (1074 + 1024)) (sym shifted) (shl_lt 1024 1074 under_top)

    same : suc m * 2 ^ k * 2 ^ 1074 ≡ suc m * 2 ^ (k + 1074) * 1
    same = sym shifted ∙ sym (mul-one (suc m * 2 ^ (k + 1074)))
value s m (negsuc k) f = round_exact binary64 s (suc m * 1) (2 ^ suc k) (suc m) (1074 - suc k) (pow_pos (suc k)) f.digits fine same
  where
    small : suc k ≤ 1074
    small = pow_le_back (suc k) 1074 f.least

    fine : suc m * 2 ^ (1074 - suc k) < 2 ^ (1074 + 1024)
    fine = bound (suc m * 2 ^ (1074 - suc k)) (2 ^ (53 + (1074 - suc k))) (2 ^ (1074 + 1024)) (shl_lt 53 (1074 - suc k) f.digits)
        (pow_mono {i = 53 + (1074 - suc k)} {j = 1074 + 1024} (omega arith))
      where
        bound : (a b c : ℕ) → a < b → b ≤ c → a < c
        bound a b c p q = omega arith

    same : suc m * 1 * 2 ^ 1074 ≡ suc m * 2 ^ (1074 - suc k) * 2 ^ suc k
    same = ap (λ (x : ℕ). x * 2 ^ 1074) (mul-one (suc m)) ∙ ap (λ (x : ℕ). suc m * 2 ^ x) whole ∙
        ap (λ (x : ℕ). suc m * x) (pow-add 2 (1074 - suc k) (suc k)) ∙ sym (mul_assoc (suc m) (2 ^ (1074 - suc k)) (2 ^ suc k))
      where
        whole : 1074 ≡ 1074 - suc k + suc k
        whole = omega (arith, small)

-- of a value and a fraction of the same size
equal : (m : ℕ) (e : ℤ) → Fits m e → (r : Float) (s : Bool) → T (fits binary64 r) → HasValue r s (suc m * up e) (down e) → r ≡ fin s (suc m) e
equal m e f nan s p v = elim v [ ]
equal m e f (inf _) s p v = elim v [ ]
equal m e f (fin t zero g) s p v = absurd (nothing (suc m * up e * down g) (mul-pos (mul-pos (zero-lt-suc m) (up_pos e)) (down_pos g)) (sym v.1 ∙
    ap (λ (x : ℕ). x * down e) (zero-mul (up g)) ∙ zero-mul (down e)))
  where
    nothing : (a : ℕ) → 0 < a → a ≡ 0 → ⊥
    nothing a p h = omega arith
equal m e f (fin t (suc n) g) s p v = let r = unique (suc n) (suc m) g e (fits_mean t n g p).odd f.odd v.1 in λ i. fin (v.0 i) (r.0 i) (r.1 i)

pub round_own : (s : Bool) (m : ℕ) (e : ℤ) → T (fits binary64 (fin s (suc m) e)) → round binary64 s (suc m * up e) (down e) ≡ fin s (suc m) e
round_own s m e t = equal m e (fits_mean s m e t) (round binary64 s (suc m * up e) (down e)) s (round-fits binary64 s (suc m * up e) (down e))
    (value s m e (fits_mean s m e t))

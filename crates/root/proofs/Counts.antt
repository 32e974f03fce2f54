-- A finite value counted in smallest values, 2 ^ -1074, and the root of a value by its count. Assumes nothing.
use mathlib.Core.Path.{◌≡◌, refl, sym, ap, ◌∙◌, subst}
use Prim.Native.Nat.{ℕ, zero, suc, ◌+◌, ◌-◌, ◌*◌, ◌/◌, ◌%◌, ◌^◌, ◌≤◌, ◌<◌}
use native.Mathlib.Nat.{lt_irrefl, lt_of_le_of_lt, le_antisymm, zero-mul, mul-one, mul_assoc, mul_comm, mul_right_comm, mul-le-mul_right}
use native.Mathlib.Nat.{le_of_mul-le-mul_right, lt_of_mul-lt-mul_right, mul-lt-mul_of_pos_right, mul-pos, mul-div_cancel}
use native.Mathlib.Omega.{arith}
use mathlib.Core.Bool.{Bool, true, false, cond, ◌&&◌, true≢false}
use lib.IntN.{ℤ, pos, negsuc}
use lib.Dec.{T, leb, ltb, eqb, leb→le, ltb→lt}
use lib.Pow.{pow-add, pow_pos}
use lib.Count.{count_trailing_zeros}
use lib.Ieee.{Float, nan, inf, fin, binary64, up, down, minus, size, odd, fits}
use lib.Ieee.Digits.{size-lt, size-le}
use lib.Ieee.Exact.{HasValue}
use lib.Ieee.Fits.{down_pos, and_l, and_r}
use lib.Ieee.Positive.{positive, first_pos}
use borrow.Author.Tests.{leb-true, leb-false, le-leb, lt-leb}
use Rattle.float_bits.proofs.Powers.{pow-back, pow_le_back}
use Rattle.root.specs.Root.{count, significand, radicand, rounded, root_at, positive_root, root_of}

-- ---- powers of two

pow-eq : {a b : ℕ} → a ≡ b → 2 ^ a ≡ 2 ^ b
pow-eq e = ap (λ (n : ℕ). 2 ^ n) e

size_exact : (i n : ℕ) → 2 ^ i ≤ n → n < 2 ^ suc i → size n ≡ suc i
size_exact i n lo hi = le_antisymm (size-le n (suc i) hi) (pow-back i (size n) (lt_of_le_of_lt lo (size-lt n)))

-- d · 2^j in two ways, by the sum of the exponents
pub shift : (d i j k l : ℕ) → i + j ≡ k + l → d * 2 ^ i * 2 ^ j ≡ d * 2 ^ k * 2 ^ l
shift d i j k l e =
    mul_assoc d (2 ^ i) (2 ^ j)
    ∙ ap (λ (n : ℕ). d * n) (sym (pow-add 2 i j) ∙ pow-eq e ∙ pow-add 2 k l)
    ∙ sym (mul_assoc d (2 ^ k) (2 ^ l))

-- ---- counts

pub count_of : (x : Float) (s : Bool) (n : ℕ) → HasValue x s n (2 ^ 1074) → count x ≡ n
count_of nan s n h = absurd h
count_of (inf t) s n h = absurd h
count_of (fin t m e) s n h = ap (λ (k : ℕ). k / down e) h.1 ∙ mul-div_cancel n (down_pos e)

-- every f64 is some d of at most 53 digits, shifted
pub record Shifted (x : Float) (d j : ℕ) : Type 0 where
  pub digits : d < 2 ^ 53
  pub is : count x ≡ d * 2 ^ j

placed : (s : Bool) (m : ℕ) (e : ℤ) → down e ≤ 2 ^ 1074 → (j : ℕ) × HasValue (fin s m e) s (m * 2 ^ j) (2 ^ 1074)
placed s m (pos a) h = (
  a + 1074,
  (
    refl,
    mul_assoc m (2 ^ a) (2 ^ 1074) ∙ ap (λ (v : ℕ). m * v) (sym (pow-add 2 a 1074)) ∙
        sym (mul-one (m * 2 ^ (a + 1074))),
  ),
)
placed s m (negsuc a) h =
    let l : suc a ≤ 1074 = pow_le_back (suc a) 1074 h in
    (1074 - suc a, (refl, shift m 0 1074 (1074 - suc a) (suc a) (omega arith)))

bounds : (s : Bool) (m : ℕ) (e : ℤ) → T (fits binary64 (fin s (suc m) e)) → (suc m < 2 ^ 53) × (down e ≤ 2 ^ 1074) ×
    (suc m * up e < 2 ^ 1024 * down e)
unfolding fits
bounds s m e h =
    let A = eqb (suc m % 2) 1 in
    let B = ltb (suc m) (2 ^ 53) in
    let C = leb (down e) (2 ^ 1074) in
    let D = ltb (suc m * up e) (2 ^ 1024 * down e) in
    let t = and_l (A && B && C) D h in (
      ltb→lt (suc m) (2 ^ 53) (and_r A B (and_l (A && B) C t)),
      leb→le (down e) (2 ^ 1074) (and_r (A && B) C t),
      ltb→lt (suc m * up e) (2 ^ 1024 * down e) (and_r (A && B && C) D h),
    )

pub shifted : (x : Float) → T (fits binary64 x) → (d : ℕ) × (j : ℕ) × Shifted x d j
shifted nan h = (0, 0, record { digits = pow_pos 53; is = refl })
shifted (inf s) h = (0, 0, record { digits = pow_pos 53; is = refl })
shifted (fin s zero e) h = (
  0,
  0,
  record {
    digits = pow_pos 53;
    is = count_of (fin s 0 e) s 0 (refl, rw (zero-mul (up e), zero-mul (2 ^ 1074), zero-mul (down e)));
  },
)
shifted (fin s (suc m) e) h =
    let b = bounds s m e h in
    let p = placed s (suc m) e b.1 in
    (suc m, p.0, record { digits = b.0; is = count_of (fin s (suc m) e) s (suc m * 2 ^ p.0) p.1 })

-- a positive f64 is its count
pub value : (x : Float) → T (fits binary64 x) → T (positive x) → HasValue x false (count x) (2 ^ 1074)
value nan h p = absurd p
value (inf s) h p = absurd p
value (fin true m e) h p = absurd p
value (fin false zero e) h p = absurd p
value (fin false (suc m) e) h p =
    let w = placed false (suc m) e (bounds false m e h).1 in
    subst (λ (n : ℕ). HasValue (fin false (suc m) e) false n (2 ^ 1074)) (sym (count_of (fin false (suc m) e) false (suc m * 2 ^ w.0) w.1)) w.1

pub count-lt : (x : Float) → T (fits binary64 x) → T (positive x) → count x < 2 ^ 2098
count-lt nan h p = absurd p
count-lt (inf s) h p = absurd p
count-lt (fin true m e) h p = absurd p
count-lt (fin false zero e) h p = absurd p
count-lt (fin false (suc m) e) h p =
    lt_of_mul-lt-mul_right (down e)
    (subst (λ (v : ℕ). v < 2 ^ 2098 * down e) (value (fin false (suc m) e) h p).1
    (subst (λ (v : ℕ). suc m * up e * 2 ^ 1074 < v) (mul_right_comm (2 ^ 1024) (down e) (2 ^ 1074))
    (mul-lt-mul_of_pos_right {k = 2 ^ 1074} (bounds false m e h).2 (pow_pos 1074))))

-- ---- the root of a value by its count

-- a value that counts some has a significand above zero
some : (m : ℕ) (e : ℤ) (n : ℕ) → m * up e * 2 ^ 1074 ≡ n * down e → 0 < n → 0 < m
some m e n v p = first_pos m (up e) (first_pos (m * up e) (2 ^ 1074) (subst (λ (k : ℕ). 0 < k) (sym v) (mul-pos p (down_pos e))))

pub root_of_lem : (x : Float) (n : ℕ) → HasValue x false n (2 ^ 1074) → 0 < n → root_of x ≡ positive_root n
unfolding root_of
root_of_lem nan n h p = absurd h
root_of_lem (inf t) n h p = absurd h
root_of_lem (fin true m e) n h p = absurd (true≢false h.0)
root_of_lem (fin false zero e) n h p = absurd (lt_irrefl 0 (some 0 e n h.1 p))
root_of_lem (fin false (suc m) e) n h p = ap positive_root (count_of (fin false (suc m) e) false n h)

pub no_root_of : (x : Float) (n : ℕ) → HasValue x true n (2 ^ 1074) → 0 < n → root_of x ≡ nan
unfolding root_of
no_root_of nan n h p = absurd h
no_root_of (inf t) n h p = absurd h
no_root_of (fin true zero e) n h p = absurd (lt_irrefl 0 (some 0 e n h.1 p))
no_root_of (fin true (suc m) e) n h p = refl
no_root_of (fin false m e) n h p = absurd (true≢false (sym h.0))

-- ---- what the definition makes of n smallest values whose top bit stands at place i, M being the significand

pub record Scaled (n i M : ℕ) : Type 0 where
  pub low : 2 ^ i ≤ n
  pub high : n < 2 ^ suc i
  pub is : n * 2 ^ 52 ≡ M * 2 ^ i

-- m of the definition
abbrev pub under_root : ℕ → ℕ → ℕ
under_root M i = M * 2 ^ (i % 2) * 2 ^ 52

radicand-is : (M i : ℕ) → radicand M i ≡ under_root M i
radicand-is M i = go (i % 2) (omega arith)
  where
    go : (r : ℕ) → r < 2 → cond (eqb r 0) (M * 2 ^ 52) (M * 2 ^ 53) ≡ M * 2 ^ r * 2 ^ 52
    go zero h = omega arith
    go (suc zero) h = omega arith
    go (suc (suc r)) h = absurd (lt_irrefl 2 (omega arith))

minus_same : (a b c : ℕ) → minus a b ≡ minus (a + c) (b + c)
minus_same a b c = go (leb b a) refl
  where
    go : (t : Bool) → leb b a ≡ t → minus a b ≡ minus (a + c) (b + c)
    go true e =
        let h = leb-true b a e in
        rw (e, le-leb (b + c) (a + c) (omega arith)) (ap pos (omega arith))
    go false e =
        let h = leb-false b a e in
        rw (e, lt-leb (b + c) (a + c) (omega arith)) (ap negsuc (omega arith))

odd_same : (d : ℕ) (s : Bool) (q k l c : ℕ) → odd d s q k l ≡ odd d s q (k + c) (l + c)
unfolding odd
odd_same d s zero k l c = refl
odd_same d s (suc q) k l c = ap (fin s (suc q / 2 ^ count_trailing_zeros d (suc q))) (minus_same (k + count_trailing_zeros d (suc q)) l c ∙
    ap (λ (n : ℕ). minus n (l + c)) (omega arith))

module _ (n i M : ℕ) (t : Scaled n i M) where
  pub least : 2 ^ 52 ≤ M
  least = le_of_mul-le-mul_right {k = 2 ^ i}
      (subst (λ (v : ℕ). 2 ^ 52 * 2 ^ i ≤ v) t.is (subst (λ (v : ℕ). v ≤ n * 2 ^ 52) (mul_comm (2 ^ i) (2 ^ 52)) (mul-le-mul_right (2 ^ 52) t.low)))
      (pow_pos i)

  pub most : M < 2 ^ 53
  most = lt_of_mul-lt-mul_right (2 ^ i) (subst (λ (v : ℕ). v < 2 ^ 53 * 2 ^ i) t.is
      (subst (λ (v : ℕ). n * 2 ^ 52 < v) (shift 1 (suc i) 52 53 i (omega arith)) (omega (arith, t.high))))

  place : size n - 1 ≡ i
  place = omega (arith, size_exact i n t.low t.high)

at_def : (n i : ℕ) → root_at n i ≡ odd 53 false (rounded (radicand (significand n i) i)) (i / 2) 589
unfolding root_at
at_def n i = refl

root_def : (n : ℕ) → positive_root n ≡ root_at n (size n - 1)
unfolding positive_root
root_def n = refl

pub positive_root-is : (n i M : ℕ) → Scaled n i M → positive_root n ≡ odd 53 false (rounded (under_root M i)) (i / 2 + 485) 1074
positive_root-is n i M t =
    root_def n
    ∙ ap (root_at n) (place n i M t)
    ∙ at_def n i
    ∙ ap (λ (m : ℕ). odd 53 false (rounded m) (i / 2) 589)
    (ap (λ (k : ℕ). radicand k i) (ap (λ (v : ℕ). v / 2 ^ i) t.is ∙ mul-div_cancel M (pow_pos i)) ∙ radicand-is M i)
    ∙ odd_same 53 false (rounded (under_root M i)) (i / 2) 589 485

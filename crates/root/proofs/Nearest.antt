-- Theorems on the definition: q is the largest number whose square is at most m, and the only one; the answer's significand is less than a half from the
-- true root, with no tie; q + 1 does not reach 2 ^ 53; and of all f64 the root is the nearest to the true one. Assumes nothing.
use mathlib.Core.Path.{◌≡◌, refl, sym, ap, ◌∙◌, subst}
use mathlib.Core.Logic.{◌⊎◌, inl, inr}
use Prim.Native.Nat.{ℕ, zero, suc, ◌+◌, ◌-◌, ◌*◌, ◌/◌, ◌%◌, ◌^◌, ◌≤◌, ◌<◌}
use native.Mathlib.Nat.{lt_of_not-le, lt_irrefl, lt_of_lt_of_le, lt_of_le_of_lt, le_antisymm, eq-or-lt_of_le, add-mul, mul-add, mul-one, mul_assoc}
use native.Mathlib.Nat.{mul-mul-mul_comm, mul-pos, mul-le-mul, mul-le-mul_right, mul-lt-mul_of_pos_right, lt_of_mul-lt-mul_right, pow-suc}
use native.Mathlib.Omega.{arith}
use mathlib.Core.Bool.{Bool, true, false, cond}
use lib.Dec.{T, leb}
use lib.Pow.{pow-add, pow_pos, pow_mono, shl_lt}
use lib.Ieee.{Float, binary64, size, odd, fits}
use lib.Ieee.Digits.{size-lt, size_reaches}
use lib.Ieee.Exact.{HasValue, odd_sign}
use lib.Ieee.Positive.{positive, positive_of_value, value_pos}
use borrow.Author.Tests.{leb-true, leb-false}
use Rattle.float_bits.proofs.Powers.{pow-back}
use Rattle.root.specs.Root.{Largest, whole_root, nearer, rounded, count, root_of}
use Rattle.root.specs.Nearest.{square, Significands, Closest, Nearest}
use Rattle.root.proofs.Counts.{shift, count_of, Shifted, shifted, value, Scaled, least, most, under_root, root_of_lem, positive_root-is}

-- ---- squares

pub sq_suc : (r : ℕ) → (r + 1) * (r + 1) ≡ r * r + 2 * r + 1
sq_suc r = omega (arith, add-mul r 1 (r + 1), mul-add r r 1)

sq_dbl : (r : ℕ) → 2 * r * (2 * r) ≡ 4 * (r * r)
sq_dbl r = mul-mul-mul_comm 2 r 2 r

sq_above : (a : ℕ) → (2 * a + 1) * (2 * a + 1) ≡ 4 * (a * a) + 4 * a + 1
sq_above a = omega (arith, sq_suc (2 * a), sq_dbl a)

sq_below : (a : ℕ) → 0 < a → (2 * a - 1) * (2 * a - 1) + 4 * a ≡ 4 * (a * a) + 1
sq_below a h =
    let e : 2 * a - 1 + 1 ≡ 2 * a = omega arith in
    let s : (2 * a - 1 + 1) * (2 * a - 1 + 1) ≡ 4 * (a * a) = ap (λ (n : ℕ). n * n) e ∙ sq_dbl a in
    omega (arith, s, sq_suc (2 * a - 1))

-- ---- q is the largest number whose square is at most m, and the only one

no_larger : (m p q : ℕ) → p * p ≤ m → m < (q + 1) * (q + 1) → q < p → ⊥
no_larger m p q h k l = omega (arith, mul-le-mul {n₁ = q + 1} {m₁ = q + 1} {n₂ = p} {m₂ = p} (omega arith) (omega arith))

pub is_largest : {m q : ℕ} → q * q ≤ m → m < (q + 1) * (q + 1) → Largest m q
is_largest {m} {q} l h = record { square = l; most = λ p k. omega (arith, no_larger m p q k h) }

pub next-over : {m q : ℕ} → Largest m q → m < (q + 1) * (q + 1)
next-over {m} {q} l = lt_of_not-le (λ (g : (q + 1) * (q + 1) ≤ m). lt_irrefl q (omega (arith, l.most (q + 1) g)))

pub only : {m p q : ℕ} → Largest m p → Largest m q → p ≡ q
only {m} {p} {q} a b = le_antisymm (b.most p a.square) (a.most q b.square)

next : (m r : ℕ) → Largest (m / 4) r → Largest m (cond (leb ((2 * r + 1) * (2 * r + 1)) m) (2 * r + 1) (2 * r))
next m r h = go (leb ((2 * r + 1) * (2 * r + 1)) m) refl
  where
    go : (t : Bool) → leb ((2 * r + 1) * (2 * r + 1)) m ≡ t → Largest m (cond t (2 * r + 1) (2 * r))
    go true e = is_largest (leb-true _ _ e) (omega (arith, next-over h, sq_suc (2 * r), sq_suc (2 * r + 1), sq_dbl r, sq_suc r))
    go false e = is_largest (omega (arith, h.square, sq_dbl r)) (leb-false _ _ e)

pub largest : (d m : ℕ) → m < 4 ^ d → Largest m (whole_root d m)
unfolding whole_root
largest zero m h = is_largest (omega arith) (omega arith)
largest (suc d) m h = next m (whole_root d (m / 4)) (largest d (m / 4) (omega (arith, pow-suc 4 d)))

-- ---- what the answer's significand is to m

pub record Near (m a : ℕ) : Type 0 where
  pub over : (2 * a - 1) * (2 * a - 1) < 4 * m
  pub under : 4 * m < (2 * a + 1) * (2 * a + 1)

module _ (m q : ℕ) (l : Largest m q) where
  near : 0 < m → Near m (nearer m q)
  near p = go (leb m (q * q + q)) refl
    where
      none : m ≤ q * q + q → q ≡ 0 → ⊥
      none k e = lt_irrefl 0 (lt_of_lt_of_le p (subst (λ (n : ℕ). m ≤ n * n + n) e k))

      go : (t : Bool) → leb m (q * q + q) ≡ t → Near m (cond t q (q + 1))
      go true e =
          let k = leb-true m (q * q + q) e in
          let s : 0 < q = omega (arith, none k) in
          record { over = omega (arith, l.square, sq_below q s); under = omega (arith, sq_above q) }
      go false e = record {
        over = omega (arith, leb-false m (q * q + q) e, sq_below (q + 1) (omega arith), sq_suc q);
        under = omega (arith, next-over l, sq_above (q + 1));
      }

  -- 53 digits: where q + 1 is the answer it does not reach 2 ^ 53
  no_less : 2 ^ 104 ≤ m → q < 2 ^ 52 → ⊥
  no_less h g = omega (arith, next-over l, mul-le-mul {n₁ = q + 1} {m₁ = q + 1} {n₂ = 2 ^ 52} {m₂ = 2 ^ 52} (omega arith) (omega arith))

  no_more : m < 2 ^ 106 → 2 ^ 53 ≤ q → ⊥
  no_more h g = omega (arith, l.square, mul-le-mul {n₁ = 2 ^ 53} {m₁ = 2 ^ 53} {n₂ = q} {m₂ = q} g g)

  pub next_no_more : m + 2 ^ 53 ≤ 2 ^ 106 → q * q + q < m → 2 ^ 53 ≤ q + 1 → ⊥
  next_no_more h k g = omega (arith, mul-add q q 1, mul-le-mul {n₁ = 2 ^ 53 - 1} {m₁ = 2 ^ 53} {n₂ = q} {m₂ = q + 1} (omega arith) g)

  in-range : 2 ^ 104 ≤ m → m + 2 ^ 53 ≤ 2 ^ 106 → (2 ^ 52 ≤ nearer m q) × (nearer m q < 2 ^ 53)
  in-range a b = go (leb m (q * q + q)) refl
    where
      go : (t : Bool) → leb m (q * q + q) ≡ t → (2 ^ 52 ≤ cond t q (q + 1)) × (cond t q (q + 1) < 2 ^ 53)
      go true e = (omega (arith, no_less a), omega (arith, no_more (omega arith)))
      go false e = (omega (arith, no_less a), omega (arith, next_no_more b (leb-false _ _ e)))

pub rounded-is : (m : ℕ) → rounded m ≡ nearer m (whole_root 53 m)
unfolding rounded
rounded-is m = refl

-- whatever way the largest number is found, it rounds to the same answer
pub rounded_of : {m q : ℕ} → m < 2 ^ 106 → Largest m q → nearer m q ≡ rounded m
rounded_of {m} {q} h l = ap (nearer m) (only l (largest 53 m h)) ∙ sym (rounded-is m)

pub rounded-range : (m : ℕ) → 2 ^ 104 ≤ m → m + 2 ^ 53 ≤ 2 ^ 106 → (2 ^ 52 ≤ rounded m) × (rounded m < 2 ^ 53)
rounded-range m l h = subst (λ (r : ℕ). (2 ^ 52 ≤ r) × (r < 2 ^ 53)) (sym (rounded-is m))
    (in-range m (whole_root 53 m) (largest 53 m (omega arith)) l h)

pub rounded_near : (m : ℕ) → 0 < m → m < 2 ^ 106 → Near m (rounded m)
rounded_near m p h = subst (Near m) (sym (rounded-is m)) (near m (whole_root 53 m) (largest 53 m h) p)

-- ---- m of a positive f64, and what the input and the answer are in terms of it and of the answer's significand

once-or-twice : (M r : ℕ) → r < 2 → (M ≤ M * 2 ^ r) × (M * 2 ^ r ≤ 2 * M)
once-or-twice M zero h = omega arith
once-or-twice M (suc zero) h = omega arith
once-or-twice M (suc (suc r)) h = absurd (lt_irrefl 2 (omega arith))

-- 2 ^ 52 ≤ M · 2^r ≤ 2 ^ 54 - 2
pub wide : (n i M : ℕ) → Scaled n i M → (2 ^ 52 ≤ M * 2 ^ (i % 2)) × (M * 2 ^ (i % 2) + 2 ≤ 2 ^ 54)
wide n i M t = (
  omega (arith, least n i M t, once-or-twice M (i % 2) (omega arith)),
  omega (arith, most n i M t, once-or-twice M (i % 2) (omega arith)),
)

four_is : (k : ℕ) → 4 ^ k ≡ 2 ^ k * 2 ^ k
four_is zero = refl
four_is (suc k) = pow-suc 4 k ∙ ap (λ (v : ℕ). v * 4) (four_is k) ∙ sym (mul-mul-mul_comm (2 ^ k) 2 (2 ^ k) 2) ∙
    ap (λ (v : ℕ). v * v) (sym (pow-suc 2 k))

-- n · 2^1074 = m · 4^k
input_is : (n i M : ℕ) → n * 2 ^ 52 ≡ M * 2 ^ i → n * 2 ^ 1074 ≡ under_root M i * 4 ^ (i / 2 + 485)
input_is n i M e =
    let k = i / 2 + 485 in
    sym (mul_assoc n (2 ^ 52) (2 ^ 1022))
    ∙ ap (λ (v : ℕ). v * 2 ^ 1022) e
    ∙ shift M i 1022 (i % 2) (52 + (k + k)) (omega arith)
    ∙ ap (λ (v : ℕ). M * 2 ^ (i % 2) * v) (pow-add 2 52 (k + k) ∙ ap (λ (v : ℕ). 2 ^ 52 * v) (pow-add 2 k k ∙ sym (four_is k)))
    ∙ sym (mul_assoc (M * 2 ^ (i % 2)) (2 ^ 52) (4 ^ k))

-- the significand of an f64 is whole: its digits are at most 53
whole : (d j i : ℕ) → d < 2 ^ 53 → 2 ^ i ≤ d * 2 ^ j → (M : ℕ) × (d * 2 ^ j * 2 ^ 52 ≡ M * 2 ^ i)
whole d j i h l = go (leb i (j + 52)) refl
  where
    go : (t : Bool) → leb i (j + 52) ≡ t → (M : ℕ) × (d * 2 ^ j * 2 ^ 52 ≡ M * 2 ^ i)
    go true e =
        let g = leb-true i (j + 52) e in
        (d * 2 ^ (j + 52 - i), shift d j 52 (j + 52 - i) i (omega arith))
    go false e =
        let g = leb-false i (j + 52) e in
        absurd (lt_irrefl (2 ^ i) (lt_of_le_of_lt l (lt_of_lt_of_le (shl_lt 53 j h) (pow_mono {i = 53 + j} {j = i} (omega arith)))))

scaled : (x : Float) → T (fits binary64 x) → 0 < count x → (i : ℕ) × (M : ℕ) × Scaled (count x) i M
scaled x f p =
    let s = shifted x f in
    let i = size (count x) - 1 in
    let z : 0 < size (count x) = pow-back 0 (size (count x)) (lt_of_le_of_lt p (size-lt (count x))) in
    let lo : 2 ^ i ≤ count x = size_reaches (count x) i (omega arith) in
    let w = whole s.0 s.1 i s.2.digits (subst (λ (v : ℕ). 2 ^ i ≤ v) s.2.is lo) in (
      i,
      w.0,
      record {
        low = lo;
        high = subst (λ (v : ℕ). count x < 2 ^ v) (omega arith) (size-lt (count x));
        is = ap (λ (v : ℕ). v * 2 ^ 52) s.2.is ∙ w.1;
      },
    )

-- ---- every other f64 is farther away

-- below a significand of 53 digits at place k stands all that has 53 digits at a lower place
lower : (d j k : ℕ) → d < 2 ^ 53 → j < k → d * 2 ^ j < 2 ^ 52 * 2 ^ k
lower d j k h l = lt_of_lt_of_le (shl_lt 53 j h)
    (subst (λ (v : ℕ). 2 ^ (53 + j) ≤ v) (pow-add 2 52 k) (pow_mono {i = 53 + j} {j = 52 + k} (omega arith)))

-- d · 2^j at place k
at_place : (d j k : ℕ) → k ≤ j → d * 2 ^ j ≡ d * 2 ^ (j - k) * 2 ^ k
at_place d j k h = sym (mul-one (d * 2 ^ j)) ∙ shift d j 0 (j - k) k (omega arith)

module _ (a d j k : ℕ) (l : 2 ^ 52 ≤ a) (h : d < 2 ^ 53) where
  a_lower : 2 ^ 52 * 2 ^ k ≤ a * 2 ^ k
  a_lower = mul-le-mul_right (2 ^ k) l

  step-above : a * 2 ^ k < d * 2 ^ j → a * 2 ^ k + 2 ^ k ≤ d * 2 ^ j
  step-above g = go (leb k j) refl
    where
      go : (t : Bool) → leb k j ≡ t → a * 2 ^ k + 2 ^ k ≤ d * 2 ^ j
      go true e =
          let p = at_place d j k (leb-true k j e) in
          let c : a < d * 2 ^ (j - k) = lt_of_mul-lt-mul_right (2 ^ k) (subst (λ (v : ℕ). a * 2 ^ k < v) p g) in
          omega (arith, p, add-mul a 1 (2 ^ k), mul-le-mul_right {m = a + 1} {n = d * 2 ^ (j - k)} (2 ^ k) (omega arith))
      go false e = absurd (lt_irrefl (a * 2 ^ k) (omega (arith, a_lower, lower d j k h (leb-false k j e))))

  step-below : d * 2 ^ j < a * 2 ^ k → (d * 2 ^ j + 2 ^ k ≤ a * 2 ^ k) ⊎ (2 ^ 52 ≡ a)
  step-below g = go (leb k j) refl (eq-or-lt_of_le l)
    where
      go : (t : Bool) → leb k j ≡ t → (2 ^ 52 ≡ a) ⊎ (2 ^ 52 < a) → (d * 2 ^ j + 2 ^ k ≤ a * 2 ^ k) ⊎ (2 ^ 52 ≡ a)
      go true e o =
          let p = at_place d j k (leb-true k j e) in
          let c : d * 2 ^ (j - k) < a = lt_of_mul-lt-mul_right (2 ^ k) (subst (λ (v : ℕ). v < a * 2 ^ k) p g) in
          inl (omega (arith, p, add-mul (d * 2 ^ (j - k)) 1 (2 ^ k), mul-le-mul_right {m = d * 2 ^ (j - k) + 1} {n = a} (2 ^ k) (omega arith)))
      go false e (inl o) = inr o
      go false e (inr o) = inl (omega (
        arith,
        lower d j k h (leb-false k j e),
        add-mul (2 ^ 52) 1 (2 ^ k),
        mul-le-mul_right {m = 2 ^ 52 + 1} {n = a} (2 ^ k) (omega arith),
      ))

-- in units of P = 2 ^ k: y is at or beyond the neighbour of a
module _ (m a P y : ℕ) (p : 0 < P) (n : Near m a) where
  halfway_above : a * P + P ≤ y → 4 * (m * (P * P)) < (a * P + y) * (a * P + y)
  halfway_above h =
      let e : (2 * a + 1) * P ≡ 2 * (a * P) + P = omega (arith, add-mul (2 * a) 1 P, mul_assoc 2 a P) in
      omega (
        arith,
        mul-le-mul {n₁ = (2 * a + 1) * P} {m₁ = (2 * a + 1) * P} {n₂ = a * P + y} {m₂ = a * P + y} (omega arith) (omega arith),
        mul-mul-mul_comm (2 * a + 1) P (2 * a + 1) P,
        mul_assoc 4 m (P * P),
        mul-lt-mul_of_pos_right {k = P * P} n.under (mul-pos p p),
      )

  halfway_below : 0 < a → y + P ≤ a * P → (a * P + y) * (a * P + y) < 4 * (m * (P * P))
  halfway_below s h =
      let t : (2 * a - 1 + 1) * P ≡ 2 * a * P = ap (λ (v : ℕ). v * P) (omega arith) in
      let e : (2 * a - 1) * P + P ≡ 2 * (a * P) = omega (arith, add-mul (2 * a - 1) 1 P, mul_assoc 2 a P) in
      omega (
        arith,
        mul-le-mul {n₁ = a * P + y} {m₁ = a * P + y} {n₂ = (2 * a - 1) * P} {m₂ = (2 * a - 1) * P} (omega arith) (omega arith),
        mul-mul-mul_comm (2 * a - 1) P (2 * a - 1) P,
        mul_assoc 4 m (P * P),
        mul-lt-mul_of_pos_right {k = P * P} n.over (mul-pos p p),
      )

-- where a is the least significand the values below it stand closer, but then a · a is at most m
least_below : (m a P y : ℕ) → a * a ≤ m → y < a * P → (a * P + y) * (a * P + y) < 4 * (m * (P * P))
least_below m a P y h l =
    omega (
      arith,
      sq_suc (a * P + y),
      mul-le-mul {n₁ = a * P + y + 1} {m₁ = a * P + y + 1} {n₂ = 2 * (a * P)} {m₂ = 2 * (a * P)} (omega arith) (omega arith),
      sq_dbl (a * P),
      mul-mul-mul_comm a P a P,
      mul-le-mul_right (P * P) h,
    )

under_square : (s r y : ℕ) → r < y → 4 * s < (r + y) * (r + y) → s < y * y
under_square s r y l h = omega (arith, mul-le-mul {n₁ = r + y} {m₁ = r + y} {n₂ = 2 * y} {m₂ = 2 * y} (omega arith) (omega arith), sq_dbl y)

over-square : (s r y : ℕ) → y < r → (r + y) * (r + y) < 4 * s → y * y < s
over-square s r y l h = omega (arith, mul-le-mul {n₁ = 2 * y} {m₁ = 2 * y} {n₂ = r + y} {m₂ = r + y} (omega arith) (omega arith), sq_dbl y)

module _ (x r : Float) (m q a k : ℕ) (t : Significands x r m q a k) (l : 2 ^ 104 ≤ m) where
  in_unit : square x ≡ m * (2 ^ k * 2 ^ k)
  in_unit = t.input ∙ ap (λ (v : ℕ). m * v) (four_is k)

  near_digits : Near m a
  near_digits = record { over = t.over; under = t.under }

  above : (y : Float) → T (fits binary64 y) → count r < count y → 4 * square x < (count r + count y) * (count r + count y)
  above y f h =
      let s = shifted y f in
      let g = step-above a s.0 s.1 k t.least s.2.digits (subst (λ (v : ℕ). v < s.0 * 2 ^ s.1) t.answer (subst (λ (v : ℕ). count r < v) s.2.is h)) in
      rw (in_unit, t.answer) (halfway_above m a (2 ^ k) (count y) (pow_pos k) near_digits (subst (λ (v : ℕ). a * 2 ^ k + 2 ^ k ≤ v) (sym s.2.is) g))

  below : (y : Float) → T (fits binary64 y) → count y < count r → (count r + count y) * (count r + count y) < 4 * square x
  below y f h =
      let s = shifted y f in
      let h' : count y < a * 2 ^ k = subst (λ (v : ℕ). count y < v) t.answer h in
      rw (in_unit, t.answer) (go s h' (step-below a s.0 s.1 k t.least s.2.digits (subst (λ (v : ℕ). v < a * 2 ^ k) s.2.is h')))
    where
      go : (s : (d : ℕ) × (j : ℕ) × Shifted y d j) → count y < a * 2 ^ k → (s.0 * 2 ^ s.1 + 2 ^ k ≤ a * 2 ^ k) ⊎ (2 ^ 52 ≡ a)
          → (a * 2 ^ k + count y) * (a * 2 ^ k + count y) < 4 * (m * (2 ^ k * 2 ^ k))
      go s h (inl g) = halfway_below m a (2 ^ k) (count y) (pow_pos k) near_digits (omega (arith, t.least))
          (subst (λ (v : ℕ). v + 2 ^ k ≤ a * 2 ^ k) (sym s.2.is) g)
      go s h (inr e) = least_below m a (2 ^ k) (count y) (subst (λ (v : ℕ). v * v ≤ m) e l) h

  closest : T (positive r) → Closest x r
  closest p = record {
    above_zero = p;
    significands = (m, q, a, k, t);
    nearer_than_above = above;
    nearer_than_below = below;
    under_above = λ y f h. under_square (square x) (count r) (count y) h (above y f h);
    over_below = λ y f h. over-square (square x) (count r) (count y) h (below y f h);
  }

-- ---- the root of every positive f64 is the nearest

-- what the definition works out for x
pub record Worked (x : Float) (i M : ℕ) : Type 0 where
  pub scaling : Scaled (count x) i M
  pub is : root_of x ≡ odd 53 false (rounded (under_root M i)) (i / 2 + 485) 1074
  pub low : 2 ^ 104 ≤ under_root M i
  pub high : under_root M i + 2 ^ 53 ≤ 2 ^ 106
  pub range : (2 ^ 52 ≤ rounded (under_root M i)) × (rounded (under_root M i) < 2 ^ 53)

pub worked : (x : Float) → T (fits binary64 x) → T (positive x) → (i : ℕ) × (M : ℕ) × Worked x i M
worked x f p =
    let v = value x f p in
    let some : 0 < count x = value_pos x (count x) (2 ^ 1074) p (pow_pos 1074) v in
    let s = scaled x f some in
    let w = wide (count x) s.0 s.1 s.2 in (
      s.0,
      s.1,
      record {
        scaling = s.2;
        is = root_of_lem x (count x) v some ∙ positive_root-is (count x) s.0 s.1 s.2;
        low = omega arith;
        high = omega arith;
        range = rounded-range (under_root s.1 s.0) (omega arith) (omega arith);
      },
    )

pub root_nearest : (x : Float) → T (fits binary64 x) → Nearest x (root_of x)
root_nearest x f p =
    let w = worked x f p in
    let t = w.2 in
    let i = w.0 in
    let m = under_root w.1 i in
    let a = rounded m in
    let k = i / 2 + 485 in
    let n = rounded_near m (omega (arith, t.low)) (omega (arith, t.high)) in
    let o : HasValue (root_of x) false (a * 2 ^ k) (2 ^ 1074) = subst (λ (r : Float). HasValue r false (a * 2 ^ k) (2 ^ 1074)) (sym t.is)
    (odd_sign 53 false a k 1074) in
    closest x (root_of x) m (whole_root 53 m) a k
    (record {
      input = input_is (count x) i w.1 t.scaling.is;
      answer = count_of (root_of x) false (a * 2 ^ k) o;
      largest = largest 53 m (omega (arith, t.high));
      rounds = rounded-is m;
      least = t.range.0;
      most = t.range.1;
      over = n.over;
      under = n.under;
    })
    t.low
    (positive_of_value (root_of x) (a * 2 ^ k) (2 ^ 1074) o (mul-pos (omega (arith, t.range)) (pow_pos k)))

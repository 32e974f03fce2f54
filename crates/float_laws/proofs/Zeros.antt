-- Operations at zeros: what a zero does to another value, and that two operands that are alike give results that are. Assumes nothing.
use mathlib.Core.Path.{◌≡◌, refl, sym, ap, ◌∙◌}
use mathlib.Core.Bool.{Bool, true, false, not, cond, ◌&&◌, beq, true≢false}
use mathlib.Core.Logic.{inl, inr, ⊎_elim}
use Prim.Native.Nat.{ℕ, zero, suc, ◌+◌, ◌-◌, ◌*◌, ◌^◌, ◌<◌}
use native.Mathlib.Nat.{mul-one, one-mul, zero-mul, zero-add, add-zero, mul-pos, zero-lt-suc, pow-succ'}
use native.Mathlib.Omega.{arith}
use lib.Dec.{T, ltb, eqb, eqb→eq}
use lib.IntN.{ℤ, pos, negsuc}
use lib.Ieee.{Float, nan, inf, fin, binary64, of_bits, up, down, round, units, odd, size, neg, sum, add, sub, mul, div, eq, is_nan, unlike, level}
use lib.Ieee.{fits}
use lib.Ieee.Fits.{up_pos, down_pos}
use lib.Ieee.Scale.{round_same}
use lib.Pow.{pow_pos}
use borrow.Author.Tests.{lt-ltb, le-ltb, ne_eqb}
use Rattle.float_laws.specs.Zeros.{Zero, Alike, finite}
use Rattle.float_laws.proofs.Rounding.{round_own}

abbrev pub zero_of : Bool → Float
zero_of s = fin s 0 (pos 0)

pub is_zero : (s : Bool) → Zero (zero_of s)
is_zero s = record { sign = s; is = refl }

pub fits-zero : (s : Bool) → T (fits binary64 (zero_of s))
unfolding fits
fits-zero s = tt

-- ---- nothing rounded
round_none : (s : Bool) → round binary64 s 0 1 ≡ zero_of s
unfolding round units odd size
round_none true = refl
round_none false = refl

round_zero : (s : Bool) (a c : ℕ) → a ≡ 0 → 0 < c → round binary64 s a c ≡ zero_of s
round_zero s a c e h = ap (λ (x : ℕ). round binary64 s x c) e ∙ round_same binary64 s 0 c 0 1 h (zero-lt-suc 0) (zero-mul 1 ∙ sym (zero-mul c)) ∙
    round_none s

-- ---- alike
pub alike_sym : (x y : Float) → Alike x y → Alike y x
alike_sym x y h = ⊎_elim (λ (e : x ≡ y). inl (sym e)) (λ (z : Zero x × Zero y). inr (z.1, z.0)) h

pub zero_alike : (x y : Float) → Alike x y → Zero x → Zero y
zero_alike x y h z = ⊎_elim (λ (e : x ≡ y). record { sign = z.sign; is = sym e ∙ z.is }) (λ (p : Zero x × Zero y). p.1) h

pub alike_trans : (x y z : Float) → Alike x y → Alike y z → Alike x z
alike_trans x y z h g =
    ⊎_elim
    (λ (e : x ≡ y). ⊎_elim (λ (f : y ≡ z). inl (e ∙ f)) (λ (p : Zero y × Zero z). inr (zero_alike y x (inl (sym e)) p.0, p.1)) g)
    (λ (p : Zero x × Zero y). inr (p.0, zero_alike y z g p.1))
    h

-- ---- a product and a quotient of a zero
mul_at : (s : Bool) (v : Float) → finite v ≡ true → Zero (mul binary64 (zero_of s) v)
unfolding mul
mul_at s nan h = absurd (true≢false (sym h))
mul_at s (inf t) h = absurd (true≢false (sym h))
mul_at s (fin t n d) h = record {
  sign = unlike s t;
  is = round_zero (unlike s t) (0 * 1 * (n * up d)) (1 * down d) (zero-mul (n * up d))
      (mul-pos (zero-lt-suc 0) (down_pos d));
}

pub mul-zero : (x v : Float) → Zero x → finite v ≡ true → Zero (mul binary64 x v)
mul-zero x v z h = zero_alike _ _ (inl (ap (λ (y : Float). mul binary64 y v) (sym z.is))) (mul_at z.sign v h)

mul_nan : (s t : Bool) → mul binary64 (zero_of s) nan ≡ mul binary64 (zero_of t) nan
unfolding mul
mul_nan s t = refl

mul_inf : (s t u : Bool) → mul binary64 (zero_of s) (inf u) ≡ mul binary64 (zero_of t) (inf u)
unfolding mul
mul_inf s t u = refl

-- what is alike at both zeros is alike
alike_by : (op : Float → Float) → ((s t : Bool) → Alike (op (zero_of s)) (op (zero_of t))) → (x y : Float) → Alike x y → Alike (op x) (op y)
alike_by op at x y h =
    ⊎_elim
    (λ (e : x ≡ y). inl (ap op e))
    (λ (p : Zero x × Zero y). rw (p.0.is, p.1.is) (at p.0.sign p.1.sign))
    h

-- by an infinity or a NaN the result is NaN, whatever the sign
mul_alike_at : (s t : Bool) (v : Float) → Alike (mul binary64 (zero_of s) v) (mul binary64 (zero_of t) v)
mul_alike_at s t v = go v (λ h. inr (mul_at s v h, mul_at t v h))
  where
    go : (v : Float) → (finite v ≡ true → Alike (mul binary64 (zero_of s) v) (mul binary64 (zero_of t) v)) →
        Alike (mul binary64 (zero_of s) v) (mul binary64 (zero_of t) v)
    go nan f = inl (mul_nan s t)
    go (inf u) f = inl (mul_inf s t u)
    go (fin u n d) f = f refl

pub mul_alike : (x y v : Float) → Alike x y → Alike (mul binary64 x v) (mul binary64 y v)
mul_alike x y v h = alike_by (λ z. mul binary64 z v) (λ s t. mul_alike_at s t v) x y h

-- ---- the operations on finite values, by their parts
div_fin : (s : Bool) (m : ℕ) (e : ℤ) (t : Bool) (n : ℕ) (d : ℤ)
    → div binary64 (fin s m e) (fin t n d) ≡ cond (eqb n 0) (cond (eqb m 0) nan (inf (unlike s t)))
    (round binary64 (unlike s t) (m * up e * down d) (n * up d * down e))
unfolding div
div_fin s m e t n d = refl

sub_fin : (s : Bool) (m : ℕ) (e : ℤ) (t : Bool) (n : ℕ) (d : ℤ) → sub binary64 (fin s m e) (fin t n d) ≡ sum binary64 s (m * up e * down d) (not t)
    (n * up d * down e) (down e * down d)
unfolding sub add neg
sub_fin s m e t n d = refl

sum_is : (s : Bool) (a : ℕ) (t : Bool) (b c : ℕ)
    → sum binary64 s a t b c ≡ cond (beq s t) (round binary64 s (a + b) c)
    (cond (ltb a b) (round binary64 t (b - a) c) (round binary64 (s && ltb b a) (a - b) c))
unfolding sum
sum_is s a t b c = refl

-- ---- a quotient of a zero
div_pos : (s t : Bool) (n : ℕ) (e : ℤ) → Zero (div binary64 (zero_of s) (fin t (suc n) e))
div_pos s t n e =
    record {
      sign = unlike s t;
      is = div_fin s 0 (pos 0) t (suc n) e ∙ ap (λ (b : Bool). cond b (cond (eqb 0 0) nan (inf (unlike s t)))
          (round binary64 (unlike s t) (0 * 1 * down e) (suc n * up e * 1))) (ne_eqb (suc n) 0 (λ z. omega arith))
          ∙ round_zero (unlike s t) (0 * 1 * down e) (suc n * up e * 1) (zero-mul (down e))
          (mul-pos (mul-pos (zero-lt-suc n) (up_pos e)) (zero-lt-suc 0));
    }

div_inf : (s t : Bool) → Zero (div binary64 (zero_of s) (inf t))
unfolding div
div_inf s t = record { sign = unlike s t; is = refl }

level_zero : (t : Bool) (a b : ℕ) → a ≡ 0 → b ≡ 0 → level t a false b ≡ true
level_zero t a b p q = rw (p, q) (go t)
  where
    go : (t : Bool) → level t 0 false 0 ≡ true
    go true = refl
    go false = refl

zero-eq : (t : Bool) (e : ℤ) → eq (fin t zero e) (of_bits binary64 0) ≡ true
unfolding eq of_bits
zero-eq t e = level_zero t (0 * up e * 1) (0 * down e) (ap (λ (x : ℕ). x * 1) (zero-mul (up e)) ∙ zero-mul 1) (zero-mul (down e))

-- by what is neither zero nor NaN
div-at : (s : Bool) (d : Float) → eq d (of_bits binary64 0) ≡ false → is_nan d ≡ false → Zero (div binary64 (zero_of s) d)
unfolding is_nan
div-at s nan h g = absurd (true≢false g)
div-at s (inf t) h g = div_inf s t
div-at s (fin t zero e) h g = absurd (true≢false (sym (zero-eq t e) ∙ h))
div-at s (fin t (suc n) e) h g = div_pos s t n e

pub div-zero : (x d : Float) → Zero x → eq d (of_bits binary64 0) ≡ false → is_nan d ≡ false → Zero (div binary64 x d)
div-zero x d z h g = zero_alike _ _ (inl (ap (λ (y : Float). div binary64 y d) (sym z.is))) (div-at z.sign d h g)

div_nan : (s t : Bool) → div binary64 (zero_of s) nan ≡ div binary64 (zero_of t) nan
unfolding div
div_nan s t = refl

div-none : (s t u : Bool) (e : ℤ) → div binary64 (zero_of s) (fin u zero e) ≡ div binary64 (zero_of t) (fin u zero e)
unfolding div
div-none s t u e = refl

div_alike_at : (s t : Bool) (d : Float) → Alike (div binary64 (zero_of s) d) (div binary64 (zero_of t) d)
div_alike_at s t nan = inl (div_nan s t)
div_alike_at s t (inf u) = inr (div_inf s u, div_inf t u)
div_alike_at s t (fin u zero e) = inl (div-none s t u e)
div_alike_at s t (fin u (suc n) e) = inr (div_pos s u n e, div_pos t u n e)

pub div_alike : (x y d : Float) → Alike x y → Alike (div binary64 x d) (div binary64 y d)
div_alike x y d h = alike_by (λ z. div binary64 z d) (λ s t. div_alike_at s t d) x y h

-- ---- a sum with a zero
sum_left : (s t : Bool) (b c : ℕ) → 0 < b → sum binary64 s 0 t b c ≡ round binary64 t b c
sum_left s t b c h = sum_is s 0 t b c ∙ go s t
  where
    less : b - 0 ≡ b
    less = omega arith

    go : (s t : Bool) → cond (beq s t) (round binary64 s (0 + b) c)
        (cond (ltb 0 b) (round binary64 t (b - 0) c) (round binary64 (s && ltb b 0) (0 - b) c)) ≡ round binary64 t b c
    go true true = ap (λ (x : ℕ). round binary64 true x c) (zero-add b)
    go false false = ap (λ (x : ℕ). round binary64 false x c) (zero-add b)
    go true false = rw (lt-ltb 0 b h) (ap (λ (x : ℕ). round binary64 false x c) less)
    go false true = rw (lt-ltb 0 b h) (ap (λ (x : ℕ). round binary64 true x c) less)

sum-right : (s t : Bool) (a c : ℕ) → 0 < a → sum binary64 s a t 0 c ≡ round binary64 s a c
sum-right s t a c h = sum_is s a t 0 c ∙ go s t
  where
    less : a - 0 ≡ a
    less = omega arith

    go : (s t : Bool) → cond (beq s t) (round binary64 s (a + 0) c)
        (cond (ltb a 0) (round binary64 t (0 - a) c) (round binary64 (s && ltb 0 a) (a - 0) c)) ≡ round binary64 s a c
    go true true = ap (λ (x : ℕ). round binary64 true x c) (add-zero a)
    go false false = ap (λ (x : ℕ). round binary64 false x c) (add-zero a)
    go true false = rw (le-ltb a 0 (omega arith), lt-ltb 0 a h) (ap (λ (x : ℕ). round binary64 true x c) less)
    go false true = rw (le-ltb a 0 (omega arith)) (ap (λ (x : ℕ). round binary64 false x c) less)

sum-none : (s t : Bool) → Zero (sum binary64 s 0 t 0 1)
sum-none s t = go s t (sum_is s 0 t 0 1)
  where
    go : (s t : Bool) → sum binary64 s 0 t 0 1 ≡ cond (beq s t) (round binary64 s 0 1) (round binary64 (s && false) 0 1) →
        Zero (sum binary64 s 0 t 0 1)
    go true true e = record { sign = true; is = e ∙ round_none true }
    go false false e = record { sign = false; is = e ∙ round_none false }
    go true false e = record { sign = false; is = e ∙ round_none false }
    go false true e = record { sign = false; is = e ∙ round_none false }

none_left : (s t : Bool) → Zero (sub binary64 (zero_of s) (zero_of t))
none_left s t = let z = sum-none s (not t) in record { sign = z.sign; is = sub_fin s 0 (pos 0) t 0 (pos 0) ∙ z.is }

-- ---- a zero that fits has the exponent 0
two_up : (p : ℕ) → 0 < p → 2 * p ≡ 1 → ⊥
two_up p h e = omega arith

flat : (e : ℤ) → up e * down e ≡ 1 → e ≡ pos 0
flat (pos zero) h = refl
flat (pos (suc k)) h = absurd (two_up (2 ^ k) (pow_pos k) (sym (pow-succ' 2 k) ∙ sym (mul-one (2 ^ suc k)) ∙ h))
flat (negsuc k) h = absurd (two_up (2 ^ k) (pow_pos k) (sym (pow-succ' 2 k) ∙ sym (one-mul (2 ^ suc k)) ∙ h))

zero-fits : (s : Bool) (e : ℤ) → T (fits binary64 (fin s zero e)) → Zero (fin s zero e)
unfolding fits
zero-fits s e t = record { sign = s; is = ap (λ (x : ℤ). fin s 0 x) (flat e (eqb→eq (up e * down e) 1 t)) }

-- ---- a zero subtracted changes nothing but a zero's sign
sub_nan : (y : Float) → sub binary64 nan y ≡ nan
unfolding sub add neg
sub_nan y = refl

sub_inf : (s t : Bool) → sub binary64 (inf s) (zero_of t) ≡ inf s
unfolding sub add neg
sub_inf s t = refl

sub_own : (s : Bool) (m : ℕ) (e : ℤ) (t : Bool) → T (fits binary64 (fin s (suc m) e)) → sub binary64 (fin s (suc m) e) (zero_of t) ≡ fin s (suc m) e
sub_own s m e t f =
    sub_fin s (suc m) e t 0 (pos 0)
    ∙ ap (λ (b : ℕ). sum binary64 s (suc m * up e * 1) (not t) b (down e * 1)) (zero-mul (down e))
    ∙ sum-right s (not t) (suc m * up e * 1) (down e * 1) (mul-pos (mul-pos (zero-lt-suc m) (up_pos e)) (zero-lt-suc 0))
    ∙ ap (λ (a : ℕ). round binary64 s a (down e * 1)) (mul-one (suc m * up e))
    ∙ ap (λ (c : ℕ). round binary64 s (suc m * up e) c) (mul-one (down e))
    ∙ round_own s m e f

sub_at : (x : Float) (t : Bool) → T (fits binary64 x) → Alike (sub binary64 x (zero_of t)) x
sub_at nan t f = inl (sub_nan (zero_of t))
sub_at (inf s) t f = inl (sub_inf s t)
sub_at (fin s zero e) t f = let z = zero-fits s e f in
    inr (zero_alike _ _ (inl (ap (λ (y : Float). sub binary64 y (zero_of t)) (sym z.is))) (none_left z.sign t), z)
sub_at (fin s (suc m) e) t f = inl (sub_own s m e t f)

pub sub_zero : (x y : Float) → T (fits binary64 x) → Zero y → Alike (sub binary64 x y) x
sub_zero x y f z = alike_trans _ _ _ (inl (ap (λ (u : Float). sub binary64 x u) z.is)) (sub_at x z.sign f)

-- ---- from a zero
left_nan : (s : Bool) → sub binary64 (zero_of s) nan ≡ nan
unfolding sub add neg
left_nan s = refl

left_inf : (s t : Bool) → sub binary64 (zero_of s) (inf t) ≡ inf (not t)
unfolding sub add neg
left_inf s t = refl

left_own : (s t : Bool) (n : ℕ) (d : ℤ) → sub binary64 (zero_of s) (fin t (suc n) d) ≡ round binary64 (not t) (suc n * up d * 1) (1 * down d)
left_own s t n d =
    sub_fin s 0 (pos 0) t (suc n) d
    ∙ ap (λ (a : ℕ). sum binary64 s a (not t) (suc n * up d * 1) (1 * down d)) (zero-mul (down d))
    ∙ sum_left s (not t) (suc n * up d * 1) (1 * down d) (mul-pos (mul-pos (zero-lt-suc n) (up_pos d)) (zero-lt-suc 0))

left_alike : (s t : Bool) (y : Float) → T (fits binary64 y) → Alike (sub binary64 (zero_of s) y) (sub binary64 (zero_of t) y)
left_alike s t nan f = inl (left_nan s ∙ sym (left_nan t))
left_alike s t (inf u) f = inl (left_inf s u ∙ sym (left_inf t u))
left_alike s t (fin u zero d) f =
    let z = zero-fits u d f in
    inr (
      zero_alike _ _ (alike_sym _ _ (sub_zero (zero_of s) (fin u zero d) (fits-zero s) z)) (is_zero s),
      zero_alike _ _ (alike_sym _ _ (sub_zero (zero_of t) (fin u zero d) (fits-zero t) z)) (is_zero t),
    )
left_alike s t (fin u (suc n) d) f = inl (left_own s u n d ∙ sym (left_own t u n d))

pub sub_alike : (x x' y y' : Float) → T (fits binary64 x') → T (fits binary64 y) → Alike x x' → Alike y y' →
    Alike (sub binary64 x y) (sub binary64 x' y')
sub_alike x x' y y' fx fy h g =
    alike_trans (sub binary64 x y) (sub binary64 x' y) (sub binary64 x' y')
    (alike_by (λ z. sub binary64 z y) (λ s t. left_alike s t y fy) x x' h)
    (⊎_elim
    (λ (e : y ≡ y'). inl (ap (λ (u : Float). sub binary64 x' u) e))
    (λ (p : Zero y × Zero y'). alike_trans _ _ _ (sub_zero x' y fx p.0) (alike_sym _ _ (sub_zero x' y' fx p.1)))
    g)

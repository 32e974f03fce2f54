-- Bit patterns: what the fields of a positive number say, the pattern of the answer, and the patterns whose roots are not worked out. Assumes nothing.
use mathlib.Core.Path.{◌≡◌, refl, sym, ap, ◌∙◌, subst}
use mathlib.Core.Logic.{◌⊎◌, inl, inr, ⊎_elim}
use Prim.Native.Nat.{ℕ, zero, suc, ◌+◌, ◌-◌, ◌*◌, ◌/◌, ◌%◌, ◌^◌, ◌≤◌, ◌<◌}
use native.Mathlib.Nat.{add_comm, eq-or-lt_of_le, mul-pos, lt_irrefl, lt_of_lt_of_le, lt_of_le_of_lt}
use native.Mathlib.Omega.{arith}
use mathlib.Core.Bool.{Bool, true, false, not, cond}
use lib.Dec.{T, leb, eqb, lt→ltb}
use lib.Pow.{pow_pos, pow_mono, shl_lt}
use lib.Ieee.{Float, nan, inf, fin, binary64, odd, fits, of_fields, of_bits, to_bits, is_nan}
use lib.Ieee.Bits.{nan_bits_is, nan_bits_above, of_bits-to_bits, of_bits-fits, to_bits-of_bits}
use lib.Ieee.Exact.{odd_sign}
use lib.Ieee.Fits.{odd-fits, nan-fits, inf-fits}
use lib.Ieee.Positive.{positive}
use borrow.Author.Tests.{leb-true, leb-false, lt-leb, le-leb, ne_eqb, le-ltb, lt-ltb}
use Rattle.std.proofs.lemmas.Bool.{cases_lt}
use Rattle.float_bits.proofs.Nans.{is_nan_lem}
use Rattle.root.specs.Root.{rounded, positive_root, root_of, root_bits}
use Rattle.root.specs.Nearest.{Nearest, Patterns}
use Rattle.float_bits.proofs.Powers.{pow-back}
use Rattle.root.proofs.Counts.{count-lt, under_root, root_of_lem, no_root_of}
use Rattle.root.proofs.Nearest.{worked, root_nearest}

-- ---- the fields of a pattern

fields : (b : ℕ) → of_bits binary64 b ≡ of_fields binary64 (leb 0x8000_0000_0000_0000 b) (b % 0x8000_0000_0000_0000 / 0x10_0000_0000_0000)
    (b % 0x10_0000_0000_0000)
unfolding of_bits
fields b = refl

pattern : (b x t : ℕ) (s : Bool) → leb 0x8000_0000_0000_0000 b ≡ s → b % 0x8000_0000_0000_0000 / 0x10_0000_0000_0000 ≡ x → b % 0x10_0000_0000_0000
    ≡ t → of_bits binary64 b ≡ of_fields binary64 s x t
pattern b x t s p q r = fields b ∙ rw (p, q, r)

subnormal : (s : Bool) (t : ℕ) → of_fields binary64 s 0 t ≡ odd 53 s t 0 1074
unfolding of_fields
subnormal s t = refl

normal : (s : Bool) (x t : ℕ) → suc x < 2047 → of_fields binary64 s (suc x) t ≡ odd 53 s (0x10_0000_0000_0000 + t) x 1074
unfolding of_fields
normal s x t h = rw (ne_eqb (suc x) 2047 (λ e. lt_irrefl 2047 (subst (λ (n : ℕ). n < 2047) e h)))

topmost : (s : Bool) (t : ℕ) → of_fields binary64 s 2047 t ≡ cond (eqb t 0) (inf s) nan
unfolding of_fields
topmost s t = refl

-- ---- the root of a positive pattern

root-bits-is : (b : ℕ) → root_bits b ≡ to_bits binary64 (root_of (of_bits binary64 b))
unfolding root_bits
root-bits-is b = refl

from_odd : (b u y : ℕ) → of_bits binary64 b ≡ odd 53 false u y 1074 → 0 < u → to_bits binary64 (positive_root (u * 2 ^ y)) ≡ root_bits b
from_odd b u y e p =
    sym (root-bits-is b ∙ ap (λ (v : Float). to_bits binary64 (root_of v)) e ∙
    ap (to_bits binary64) (root_of_lem (odd 53 false u y 1074) (u * 2 ^ y) (odd_sign 53 false u y 1074) (mul-pos p (pow_pos y))))

pub root_subnormal : (b : ℕ) → 0 < b → b < 0x10_0000_0000_0000 → to_bits binary64 (positive_root (b % 0x10_0000_0000_0000 * 2 ^ 0)) ≡ root_bits b
root_subnormal b p h =
    from_odd b (b % 0x10_0000_0000_0000) 0 (pattern b 0 (b % 0x10_0000_0000_0000) false (lt-leb 0x8000_0000_0000_0000 b (omega arith)) (omega arith)
    refl ∙ subnormal false (b % 0x10_0000_0000_0000)) (omega arith)

pub root_normal : (b : ℕ) → 0x10_0000_0000_0000 ≤ b → b < 0x7FF0_0000_0000_0000
    → to_bits binary64 (positive_root ((b % 0x10_0000_0000_0000 + 0x10_0000_0000_0000) * 2 ^ (b / 0x10_0000_0000_0000 - 1))) ≡ root_bits b
root_normal b l h =
    let x = b / 0x10_0000_0000_0000 - 1 in
    let t = b % 0x10_0000_0000_0000 in
    from_odd b (t + 0x10_0000_0000_0000) x
    (pattern b (suc x) t false (lt-leb 0x8000_0000_0000_0000 b (omega arith)) (omega arith) refl ∙ normal false x t (omega arith) ∙
    ap (λ (n : ℕ). odd 53 false n x 1074) (add_comm 0x10_0000_0000_0000 t))
    (omega arith)

-- ---- the pattern of a significand a of 53 digits at place f

no_nan : (b : ℕ) → b % 0x8000_0000_0000_0000 ≤ 0x7FF0_0000_0000_0000 → is_nan (of_bits binary64 b) ≡ false
no_nan b h = sym (nan_bits_is binary64 b) ∙ nan_bits_above binary64 b ∙ le-ltb 0x7FF0_0000_0000_0000 (b % 0x8000_0000_0000_0000) h

pub written : (f a : ℕ) → 2 ^ 52 ≤ a → a < 2 ^ 53 → f < 2046 → f * 0x10_0000_0000_0000 + a ≡ to_bits binary64 (odd 53 false a f 1074)
written f a l h k =
    let b = f * 0x10_0000_0000_0000 + a in
    let e : of_bits binary64 b ≡ odd 53 false a f 1074 =
    pattern b (suc f) (a - 2 ^ 52) false (lt-leb 0x8000_0000_0000_0000 b (omega arith)) (omega arith) (omega arith)
    ∙ normal false f (a - 2 ^ 52) (omega arith)
    ∙ ap (λ (n : ℕ). odd 53 false n f 1074) (omega arith) in
    sym (to_bits-of_bits binary64 b (omega arith) (subst (λ (t : Bool). T (not t)) (sym (no_nan b (omega arith))) tt)) ∙ ap (to_bits binary64) e

-- ---- the patterns whose roots are not worked out

plus_zero : 0 ≡ root_bits 0
unfolding root_bits
plus_zero = refl

minus_zero : 0x8000_0000_0000_0000 ≡ root_bits 0x8000_0000_0000_0000
unfolding root_bits
minus_zero = refl

infinity : 0x7FF0_0000_0000_0000 ≡ root_bits 0x7FF0_0000_0000_0000
unfolding root_bits
infinity = refl

self-at : (b c : ℕ) → b ≡ c → c ≡ root_bits c → b ≡ root_bits b
self-at b c e h = subst (λ (n : ℕ). n ≡ root_bits n) (sym e) h

pub infinity_self : (b : ℕ) → b ≡ 0x7FF0_0000_0000_0000 → b ≡ root_bits b
infinity_self b e = self-at b 0x7FF0_0000_0000_0000 e infinity

pub zero-self : (b : ℕ) → b < 2 ^ 64 → b % 0x8000_0000_0000_0000 ≡ 0 → b ≡ root_bits b
zero-self b h e = go (leb 0x8000_0000_0000_0000 b) refl
  where
    go : (t : Bool) → leb 0x8000_0000_0000_0000 b ≡ t → b ≡ root_bits b
    go true g = self-at b 0x8000_0000_0000_0000 (omega (arith, leb-true 0x8000_0000_0000_0000 b g)) minus_zero
    go false g = self-at b 0 (omega (arith, leb-false 0x8000_0000_0000_0000 b g)) plus_zero

no_root : root_of nan ≡ nan
unfolding root_of
no_root = refl

nan_bits : to_bits binary64 nan ≡ 0x7FF8_0000_0000_0000
unfolding to_bits
nan_bits = refl

none : (b : ℕ) → root_of (of_bits binary64 b) ≡ nan → 0x7FF8_0000_0000_0000 ≡ root_bits b
none b e = sym (root-bits-is b ∙ ap (to_bits binary64) e ∙ nan_bits)

pub nan_none : (b : ℕ) → 0x7FF0_0000_0000_0000 < b % 0x8000_0000_0000_0000 → 0x7FF8_0000_0000_0000 ≡ root_bits b
nan_none b h =
    none b
    (ap root_of (is_nan_lem (of_bits binary64 b) (sym (nan_bits_is binary64 b) ∙ nan_bits_above binary64 b ∙
    lt-ltb 0x7FF0_0000_0000_0000 (b % 0x8000_0000_0000_0000) h)) ∙ no_root)

negative_top : (t : Bool) → root_of (cond t (inf true) nan) ≡ nan
unfolding root_of
negative_top true = refl
negative_top false = refl

negative_odd : (u y : ℕ) → 0 < u → root_of (odd 53 true u y 1074) ≡ nan
negative_odd u y p = no_root_of (odd 53 true u y 1074) (u * 2 ^ y) (odd_sign 53 true u y 1074) (mul-pos p (pow_pos y))

negative_fields : (x t : ℕ) → x ≤ 2047 → 0 < x + t → root_of (of_fields binary64 true x t) ≡ nan
negative_fields zero t h p = ap root_of (subnormal true t) ∙ negative_odd t 0 (omega arith)
negative_fields (suc x) t h p = go (eq-or-lt_of_le h)
  where
    go : (suc x ≡ 2047) ⊎ (suc x < 2047) → root_of (of_fields binary64 true (suc x) t) ≡ nan
    go (inl e) = ap (λ (n : ℕ). root_of (of_fields binary64 true n t)) e ∙ ap root_of (topmost true t) ∙ negative_top (eqb t 0)
    go (inr l) = ap root_of (normal true x t l) ∙ negative_odd (0x10_0000_0000_0000 + t) x (omega arith)

pub negative_none : (b : ℕ) → b < 2 ^ 64 → 0x8000_0000_0000_0000 < b → 0x7FF8_0000_0000_0000 ≡ root_bits b
negative_none b h l =
    none b
    (ap root_of (pattern b (b % 0x8000_0000_0000_0000 / 0x10_0000_0000_0000) (b % 0x10_0000_0000_0000) true
    (le-leb 0x8000_0000_0000_0000 b (omega arith)) refl refl)
    ∙ negative_fields (b % 0x8000_0000_0000_0000 / 0x10_0000_0000_0000) (b % 0x10_0000_0000_0000) (omega arith) (omega arith))

-- the patterns by the code's cases
pub self_all : (b : ℕ) → b < 2 ^ 64 → (b ≡ 0) ⊎ ((b ≡ 0x7FF0_0000_0000_0000) ⊎ (b ≡ 0x8000_0000_0000_0000)) → b ≡ root_bits b
self_all b h s =
    ⊎_elim
    (λ (e : b ≡ 0). zero-self b h (omega arith))
    (⊎_elim (λ (e : b ≡ 0x7FF0_0000_0000_0000). infinity_self b e) (λ (e : b ≡ 0x8000_0000_0000_0000). zero-self b h (omega arith)))
    s

pub none_above : (b : ℕ) → b < 2 ^ 64 → 0x7FF0_0000_0000_0000 < b → (b ≡ 0x8000_0000_0000_0000 → ⊥) → 0x7FF8_0000_0000_0000 ≡ root_bits b
none_above b h l n =
    ⊎_elim
    (λ (g : 0x8000_0000_0000_0000 < b). negative_none b h g)
    (λ (g : b ≤ 0x8000_0000_0000_0000). nan_none b (omega (arith, n)))
    (cases_lt 0x8000_0000_0000_0000 b)

patterns : (b : ℕ) → b < 2 ^ 64 → Patterns b (root_bits b)
patterns b h = record {
  zeros = λ e. sym (zero-self b h e);
  infinite = λ e. sym (infinity_self b e);
  not_a_number = λ l. sym (nan_none b l);
  negative = λ l. sym (negative_none b h l);
}

-- ---- the root of an f64 is an f64

positive_fits : (x : Float) → T (fits binary64 x) → T (positive x) → T (fits binary64 (root_of x))
positive_fits x f p =
    let w = worked x f p in
    let t = w.2 in
    let k = w.0 / 2 + 485 in
    let h : w.0 < 2098 = pow-back w.0 2098 (lt_of_le_of_lt t.scaling.low (count-lt x f p)) in
    subst (λ (r : Float). T (fits binary64 r)) (sym t.is)
    (odd-fits binary64 53 false (rounded (under_root w.1 w.0)) k t.range.1 (omega (arith, t.range))
    (lt_of_lt_of_le (shl_lt 53 k t.range.1) (pow_mono {i = 53 + k} {j = 2098} (omega arith))))

pub root-fits : (x : Float) → T (fits binary64 x) → T (fits binary64 (root_of x))
unfolding root_of
root-fits nan f = nan-fits binary64
root-fits (inf false) f = inf-fits binary64 false
root-fits (inf true) f = nan-fits binary64
root-fits (fin s zero e) f = f
root-fits (fin true (suc m) e) f = nan-fits binary64
root-fits (fin false (suc m) e) f = positive_fits (fin false (suc m) e) f (lt→ltb 0 (suc m) (omega arith))

-- ---- what is said of the answer, from what it is

back : (b r : ℕ) → r ≡ root_bits b → of_bits binary64 r ≡ root_of (of_bits binary64 b)
back b r e = ap (of_bits binary64) (e ∙ root-bits-is b) ∙ of_bits-to_bits binary64 (root_of (of_bits binary64 b))
    (root-fits (of_bits binary64 b) (of_bits-fits binary64 b))

pub answers : (b r : ℕ) → b < 2 ^ 64 → r ≡ root_bits b → (r ≡ root_bits b) × Patterns b r × Nearest (of_bits binary64 b) (of_bits binary64 r)
answers b r h e = (
  e,
  subst (Patterns b) (sym e) (patterns b h),
  subst (Nearest (of_bits binary64 b)) (sym (back b r e)) (root_nearest (of_bits binary64 b) (of_bits-fits binary64 b)),
)

-- ---- from the bits of the answer to its value

pub from_bits : (x : Float) (r : ℕ) → T (fits binary64 x) → r ≡ root_bits (to_bits binary64 x) → of_bits binary64 r ≡ root_of x
from_bits x r f e = back (to_bits binary64 x) r e ∙ ap root_of (of_bits-to_bits binary64 x f)

pub answers-value : (x r : Float) → T (fits binary64 x) → r ≡ root_of x → (r ≡ root_of x) × Nearest x r
answers-value x r f e = (e, subst (Nearest x) (sym e) (root_nearest x f))

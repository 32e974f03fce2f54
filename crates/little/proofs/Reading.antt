-- Little-endian numbers by their halves, in a front, and past the end. Assumes nothing.
use mathlib.Core.Path.{◌≡◌, refl, sym, ap, ◌∙◌}
use mathlib.Core.List.{List, [], ◌∷◌}
use Prim.Native.Nat.{ℕ, zero, suc, ◌+◌, ◌*◌, ◌≤◌, ◌<◌}
use native.Mathlib.Omega.{arith}
use lib.ListN.{length, get_or, take, drop, drop_of_length-le}
use lib.Seq.{drop-cons, drop-drop}
use Rattle.little.specs.Little.{little}

nothing : (k : ℕ) → little k [] ≡ 0
unfolding little
nothing zero = refl
nothing (suc k) = refl

-- past the end
pub past : (k : ℕ) (s : List ℕ) (at : ℕ) → length s ≤ at → 0 ≡ little k (drop at s)
past k s at h = sym (ap (little k) (drop_of_length-le s h) ∙ nothing k)

pub byte-is : (s : List ℕ) (at : ℕ) {a : ℕ} → at < length s → a ≡ get_or s at 0 → a ≡ little 1 (drop at s)
unfolding little
byte-is s at h e = rw (drop-cons s at 0 h) (omega arith)

-- in a front that holds its bytes
pub little-take : (k m : ℕ) (l : List ℕ) → k ≤ m → little k (take m l) ≡ little k l
unfolding little
little-take zero m l h = refl
little-take (suc k) zero l h = absurd (omega arith)
little-take (suc k) (suc m) [] h = refl
little-take (suc k) (suc m) (b ∷ l) h = ap (λ (x : ℕ). b + 256 * x) (little-take k m l (omega arith))

-- ---- a number by its halves
two : (s : List ℕ) → little 2 s ≡ little 1 s + 256 * little 1 (drop 1 s)
unfolding little
two [] = refl
two (a ∷ s) = omega arith

four : (s : List ℕ) → little 4 s ≡ little 2 s + 65536 * little 2 (drop 2 s)
unfolding little
four [] = refl
four (a ∷ []) = omega arith
four (a ∷ b ∷ s) = omega arith

eight : (s : List ℕ) → little 8 s ≡ little 4 s + 4294967296 * little 4 (drop 4 s)
unfolding little
eight [] = refl
eight (a ∷ []) = omega arith
eight (a ∷ b ∷ []) = omega arith
eight (a ∷ b ∷ c ∷ []) = omega arith
eight (a ∷ b ∷ c ∷ d ∷ s) = omega arith

pub two_are : (s : List ℕ) (at : ℕ) {a b : ℕ} → a ≡ little 1 (drop at s) → b ≡ little 1 (drop (at + 1) s) → a + 256 * b ≡ little 2 (drop at s)
two_are s at e f = let g = two (drop at s) in let g1 = rw (drop-drop 1 at s) at g in omega (arith, g1, e, f)

pub four_are : (s : List ℕ) (at : ℕ) {a b : ℕ} → a ≡ little 2 (drop at s) → b ≡ little 2 (drop (at + 2) s) → a + 65536 * b ≡ little 4 (drop at s)
four_are s at e f = let g = four (drop at s) in let g1 = rw (drop-drop 2 at s) at g in omega (arith, g1, e, f)

pub eight_are : (s : List ℕ) (at : ℕ) {a b : ℕ} → a ≡ little 4 (drop at s) → b ≡ little 4 (drop (at + 4) s) → a + 4294967296 * b
    ≡ little 8 (drop at s)
eight_are s at e f = let g = eight (drop at s) in let g1 = rw (drop-drop 4 at s) at g in omega (arith, g1, e, f)

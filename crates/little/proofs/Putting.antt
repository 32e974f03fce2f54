-- The bytes of a number: how many they are, a slice that they fill, and the loop of `put`. Assumes nothing.
use mathlib.Core.Path.{◌≡◌, refl, sym, ap, ◌∙◌}
use mathlib.Core.List.{List, [], ◌∷◌, ◌++◌, append-nil}
use mathlib.Core.Logic.{⊎_elim}
use Prim.Native.Nat.{ℕ, zero, suc, ◌+◌, ◌-◌, ◌%◌, ◌/◌, ◌≤◌, ◌<◌, min}
use native.Mathlib.Numerals.{add-one}
use native.Mathlib.Omega.{arith}
use lib.ListN.{length, set, drop_of_length-le}
use lib.Seq.{sets, sets-eq, set_out}
use Rattle.std.proofs.lemmas.Bool.{cases_lt}
use Rattle.little.specs.Little.{bytes}

pub length-bytes : (k x : ℕ) → length (bytes k x) ≡ k
unfolding bytes
length-bytes zero x = refl
length-bytes (suc k) x = ap suc (length-bytes k (x / 256))

-- a slice of k places holds the k bytes and nothing else
pub all-put : (k x : ℕ) (old : List ℕ) → length old ≡ k → sets old 0 (bytes k x) ≡ bytes k x
all-put k x old h =
    let n = length-bytes k x in
    let e : length old ≤ 0 + length (bytes k x) = omega arith in
    sets-eq (bytes k x) old 0 (omega arith)
    ∙ ap (λ (l : List ℕ). bytes k x ++ l) (drop_of_length-le old e)
    ∙ append-nil (bytes k x)

no_bytes : (x : ℕ) → bytes 0 x ≡ []
unfolding bytes
no_bytes x = refl

bytes_one : (m x : ℕ) → bytes (suc m) x ≡ x % 256 ∷ bytes m (x / 256)
unfolding bytes
bytes_one m x = refl

-- past the end nothing is stored
sets_past : (l : List ℕ) (i : ℕ) (w : List ℕ) → length l ≤ i → sets l i w ≡ l
sets_past l i [] h = refl
sets_past l i (b ∷ w) h = ap (λ (m : List ℕ). sets m (suc i) w) (set_out l i b h) ∙ sets_past l (suc i) w (omega arith)

-- ---- the loop: with what is still to be put the slice is the whole
pub record Putting (old : List ℕ) (at k x : ℕ) (out : List ℕ) (rest i : ℕ) : Type 0 where
  pub is : sets out i (bytes (at + k - i) rest) ≡ sets old at (bytes k x)

pub putting_start : (old : List ℕ) (at k x : ℕ) → Putting old at k x old x at
putting_start old at k x = let e : at + k - at ≡ k = omega arith in record { is = ap (λ (j : ℕ). sets old at (bytes j x)) e }

pub putting_turn : {old : List ℕ} {at k x : ℕ} {out : List ℕ} {rest i : ℕ} → Putting old at k x out rest i → i < at + k
    → Putting old at k x (set out i (rest % 256)) (rest / 256) (i + 1)
putting_turn {at = at} {k = k} {out = out} {rest = rest} {i = i} w h =
    let m : suc (at + k - suc i) ≡ at + k - i = omega arith in
    record {
      is =
          rw add-one
          (ap (sets out i) (sym (bytes_one (at + k - suc i) rest) ∙ ap (λ (j : ℕ). bytes j rest) m) ∙ w.is);
    }

pub putting_done : {old : List ℕ} {at k x : ℕ} {out : List ℕ} {rest i : ℕ} → Putting old at k x out rest i → min (at + k) (length out) ≤ i
    → out ≡ sets old at (bytes k x)
putting_done {at = at} {k = k} {out = out} {rest = rest} {i = i} w h = sym none ∙ w.is
  where
    none : sets out i (bytes (at + k - i) rest) ≡ out
    none =
        ⊎_elim
        (λ (g : i < at + k). sets_past out i (bytes (at + k - i) rest) (omega arith))
        (λ (g : at + k ≤ i). let e : at + k - i ≡ 0 = omega arith in ap (λ (j : ℕ). sets out i (bytes j rest)) e ∙ ap (sets out i) (no_bytes rest))
        (cases_lt i (at + k))

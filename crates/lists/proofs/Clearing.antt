-- `cleared`: its length, its places, and the loop that clears, over the element type and its zero. Assumes nothing.
use Rattle.std.proofs.Common.{◌≡◌, ℕ, zero, suc, ◌+◌, ◌<◌, ◌≤◌, min, List, [], ◌∷◌, length, get_or, set, replicate, refl, ap, ◌∙◌, ⊎_elim, add-one}
use Rattle.std.proofs.Common.{arith}
use Rattle.lists.specs.Calls.{cleared}
use Rattle.lists.proofs.Bools.{le-or-lt}

module _ {A : Type 0} (z : A) where
  pub length-cleared : (n : ℕ) (l : List A) → length (cleared z n l) ≡ length l
  unfolding cleared
  length-cleared zero l = refl
  length-cleared (suc n) [] = refl
  length-cleared (suc n) (x ∷ l) = ap suc (length-cleared n l)

  pub cleared-front : (n : ℕ) (l : List A) (k : ℕ) → k < n → get_or (cleared z n l) k z ≡ z
  unfolding cleared
  cleared-front zero l k h = absurd (omega arith)
  cleared-front (suc n) [] k h = refl
  cleared-front (suc n) (x ∷ l) zero h = refl
  cleared-front (suc n) (x ∷ l) (suc k) h = cleared-front n l k (omega arith)

  pub cleared-rest : (n : ℕ) (l : List A) (k : ℕ) → n ≤ k → get_or (cleared z n l) k z ≡ get_or l k z
  unfolding cleared
  cleared-rest zero l k h = refl
  cleared-rest (suc n) [] k h = refl
  cleared-rest (suc n) (x ∷ l) zero h = absurd (omega arith)
  cleared-rest (suc n) (x ∷ l) (suc k) h = cleared-rest n l k (omega arith)

  pub cleared_at : (n : ℕ) (l : List A) (k : ℕ) (d : A) → k < n → k < length l → get_or (cleared z n l) k d ≡ z
  unfolding cleared
  cleared_at zero l k d h g = absurd (omega arith)
  cleared_at (suc n) [] k d h g = absurd (omega arith)
  cleared_at (suc n) (x ∷ l) zero d h g = refl
  cleared_at (suc n) (x ∷ l) (suc k) d h g = cleared_at n l k d (omega arith) (omega arith)

  -- a whole list
  pub cleared-all : (n : ℕ) (l : List A) → length l ≡ n → cleared z n l ≡ replicate n z
  unfolding cleared
  cleared-all zero [] e = refl
  cleared-all zero (x ∷ l) e = absurd (omega arith)
  cleared-all (suc n) [] e = absurd (omega arith)
  cleared-all (suc n) (x ∷ l) e = ap (λ (t : List A). z ∷ t) (cleared-all n l (omega arith))

  -- two lists that differ in the first n places only
  pub cleared-same : (n : ℕ) (l d : List A) → length l ≡ length d → ((q : ℕ) → n ≤ q → get_or l q z ≡ get_or d q z) → cleared z n l ≡ cleared z n d
  unfolding cleared
  cleared-same n [] [] e h = refl
  cleared-same n [] (y ∷ d) e h = absurd (omega arith)
  cleared-same n (x ∷ l) [] e h = absurd (omega arith)
  cleared-same zero (x ∷ l) (y ∷ d) e h = cons (h 0 (omega arith)) (cleared-same zero l d (omega arith) (λ q m. h (suc q) (omega arith)))
    where
      cons : {x y : A} {l d : List A} → x ≡ y → l ≡ d → x ∷ l ≡ y ∷ d
      cons a b = λ k. a k ∷ b k
  cleared-same (suc n) (x ∷ l) (y ∷ d) e h = ap (λ (t : List A). z ∷ t) (cleared-same n l d (omega arith) (λ q m. h (suc q) (omega arith)))

  -- clearing again changes nothing
  pub cleared-again : (n : ℕ) (l : List A) → cleared z n (cleared z n l) ≡ cleared z n l
  cleared-again n l = cleared-same n (cleared z n l) l (length-cleared n l) (λ q m. cleared-rest n l q m)

  one_more : (k : ℕ) (l : List A) → k < length l → set (cleared z k l) k z ≡ cleared z (suc k) l
  unfolding cleared
  one_more k [] h = absurd (omega arith)
  one_more zero (x ∷ l) h = refl
  one_more (suc k) (x ∷ l) h = ap (λ (t : List A). z ∷ t) (one_more k l (omega arith))

  -- past the end nothing is left to clear
  past : (n k : ℕ) (l : List A) → length l ≤ k → k ≤ n → cleared z k l ≡ cleared z n l
  unfolding cleared
  past n zero [] h g = rw (nothing n)
    where
      nothing : (n : ℕ) → cleared z n [] ≡ []
      nothing zero = refl
      nothing (suc n) = refl
  past n zero (x ∷ l) h g = absurd (omega arith)
  past zero (suc k) l h g = absurd (omega arith)
  past (suc n) (suc k) [] h g = refl
  past (suc n) (suc k) (x ∷ l) h g = ap (λ (t : List A). z ∷ t) (past n k l (omega arith) (omega arith))

  -- ---- the loop: one place more, and all that both n and the list have
  pub clearing_turn : {out : List A} {k : ℕ} (l : List A) → out ≡ cleared z k l → k < length l → set out k z ≡ cleared z (k + 1) l
  clearing_turn {k = k} l e h = rw (e, add-one) (one_more k l h)

  pub clearing_done : {out : List A} {k : ℕ} (n : ℕ) (l : List A) → out ≡ cleared z k l → k ≤ min n (length l) → min n (length l) ≤ k
      → out ≡ cleared z n l
  clearing_done {k = k} n l e m h = e ∙ ⊎_elim (λ (g : n ≤ k). let i : k ≡ n = omega arith in rw i refl)
      (λ (g : k < n). past n k l (omega arith) (omega arith))
      (le-or-lt n k)

-- Lists of numbers: strictly rising, each number once, whether a number is listed, and whether a list starts with another. `rises`,
-- `lists` and `starts_with` are the tests that definitions compute with, `Rising` and `Once` the facts that proofs pass on. Assumes nothing.
use Rattle.std.specs.Prelude.{ℕ, suc, ◌+◌, ◌-◌, ◌≤◌, Bool, true, false, ◌&&◌, ◌||◌, List, [], ◌∷◌, length, ◌==◌, nat_lt, slice_index}
use mathlib.Core.List.{Memᴰ}
use Rattle.lists.specs.Folds.{every}

-- each is below the next
unfoldable pub rises : List ℕ → Bool
rises l = every (length l - 1) (λ k. nat_lt (slice_index l k) (slice_index l (k + 1)))

-- every one is below n
unfoldable pub all_below : List ℕ → ℕ → Bool
all_below l n = every (length l) (λ k. nat_lt (slice_index l k) n)

-- x is listed
unfoldable pub lists : ℕ → List ℕ → Bool
lists x [] = false
lists x (y ∷ ys) = x == y || lists x ys

-- the slice l holds xs in its front: a short slice does not, and what stands behind does not matter
unfoldable pub starts_with : List ℕ → List ℕ → Bool
starts_with [] l = true
starts_with (x ∷ xs) [] = false
starts_with (x ∷ xs) (y ∷ l) = x == y && starts_with xs l

-- each is below the next, and none is below b
pub data Rising : ℕ → List ℕ → Type 0 where
  flat : {b : ℕ} → Rising b []
  step : {b x : ℕ} {xs : List ℕ} → b ≤ x → Rising (suc x) xs → Rising b (x ∷ xs)

-- no number is listed twice
pub data Once : List ℕ → Type 0 where
  no_more : Once []
  one_more : {x : ℕ} {xs : List ℕ} → ¬ Memᴰ x xs → Once xs → Once (x ∷ xs)

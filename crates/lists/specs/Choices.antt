-- The numbers at which a test holds, and a list by its ends. Assumes nothing.
use Rattle.std.specs.Prelude.{◌≡◌, ℕ, zero, suc, ◌<◌, ◌≤◌, Bool, true, false, cond, ◌||◌, List, [], ◌∷◌, ◌++◌}

-- the numbers below n at which the test holds, rising
unfoldable pub chosen : ℕ → (ℕ → Bool) → List ℕ
chosen zero f = []
chosen (suc n) f = chosen n f ++ cond (f n) (n ∷ []) []

module _ {A : Type 0} where
  -- there is one
  abbrev pub some : List A → Bool
  some [] = false
  some (x ∷ l) = true

  -- the first, and the last; d where there is none
  abbrev pub first_or : A → List A → A
  first_or d [] = d
  first_or d (x ∷ l) = x

  abbrev pub last_or : A → List A → A
  last_or d [] = d
  last_or d (x ∷ l) = last_or x l

  -- the test holds at one of them
  unfoldable pub some_of : (A → Bool) → List A → Bool
  some_of f [] = false
  some_of f (x ∷ l) = f x || some_of f l

  -- those at which the test holds, in order
  unfoldable pub keep : (A → Bool) → List A → List A
  keep f [] = []
  keep f (x ∷ l) = cond (f x) (x ∷ keep f l) (keep f l)

-- what a search below n answers, where `name` is the number that it is to give of the list l: that number, or n where l is empty
pub record Found (n : ℕ) (l : List ℕ) (name r : ℕ) : Type 0 where
  pub found : r < n → (some l ≡ true) × (r ≡ name)
  pub none : n ≤ r → some l ≡ false

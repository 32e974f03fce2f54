-- The reached set: document 01, "Sparse forward". Assumes nothing.
use Rattle.std.specs.Prelude.{Bool, true, cond, ◌&&◌, ◌||◌, ◌≡◌, ℕ, zero, suc, ◌<◌, ltb}
use mathlib.Core.List.{List, [], ◌∷◌, ◌++◌, Memᴰ}
use Rattle.lists.specs.Choices.{some_of}
use Rattle.lists.specs.Order.{lists, Rising}
use Rattle.cs_matrix.specs.Matrix.{Pattern, column}

-- column j stores row k, and k is above j in number
unfoldable pub stores : Pattern → ℕ → ℕ → Bool
stores a j k = ltb j k && lists k (column a.p j a.i)

-- k is one of the rows, or a column of js stores it
unfoldable pub touched : Pattern → List ℕ → List ℕ → ℕ → Bool
touched a rows js k = lists k rows || some_of (λ j. stores a j k) js

-- the reached numbers below n, rising: k is reached where it is one of the rows, or a reached column below k stores it
unfoldable pub reached_below : Pattern → List ℕ → ℕ → List ℕ
reached_below a rows zero = []
reached_below a rows (suc k) = let js = reached_below a rows k in js ++ cond (touched a rows js k) (k ∷ []) []

unfoldable pub reached : Pattern → List ℕ → List ℕ
reached a rows = reached_below a rows a.ncols

-- ---- the set itself: the least one holding the rows and, with j, each stored row above j in number in column j
pub data Reached (a : Pattern) (rows : List ℕ) : ℕ → Type 0 where
  given : {k : ℕ} → Memᴰ k rows → Reached a rows k
  stored : {j k : ℕ} → Reached a rows j → j < k → Memᴰ k (column a.p j a.i) → Reached a rows k

-- a set, given by its test, that holds the rows and, with j, each of those
pub record Closed (a : Pattern) (rows : List ℕ) (f : ℕ → Bool) : Type 0 where
  pub holds : (k : ℕ) → Memᴰ k rows → f k ≡ true
  pub follows : (j k : ℕ) → f j ≡ true → j < k → Memᴰ k (column a.p j a.i) → f k ≡ true

-- what is promised of the list l: it rises, it is that set, and it is in every closed one
pub record Reaches (a : Pattern) (rows l : List ℕ) : Type 0 where
  pub rising : Rising 0 l
  pub only : (k : ℕ) → Memᴰ k l → Reached a rows k
  pub all : (k : ℕ) → Reached a rows k → Memᴰ k l
  pub least : (f : ℕ → Bool) → Closed a rows f → (k : ℕ) → Memᴰ k l → f k ≡ true

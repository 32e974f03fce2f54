-- Folds: over the numbers below a bound, over a list, over a column's rows and values side by side. Assumes nothing.
use Rattle.std.specs.Prelude.{ℕ, zero, suc, ◌+◌, Bool, true, cond, ◌&&◌, List, [], ◌∷◌}

-- the test holds at every number below n
unfoldable pub every : ℕ → (ℕ → Bool) → Bool
every zero f = true
every (suc n) f = every n f && f n

-- at how many numbers below n the test holds
unfoldable pub tally : ℕ → (ℕ → Bool) → ℕ
tally zero f = 0
tally (suc n) f = tally n f + cond (f n) 1 0

module _ {S : Type 0} where
  -- for k in 0..n { s = f k s }
  unfoldable pub turns : ℕ → (ℕ → S → S) → S → S
  turns zero f s = s
  turns (suc n) f s = f n (turns n f s)

  -- the same with k falling: n - 1 first, 0 last
  unfoldable pub falls : ℕ → (ℕ → S → S) → S → S
  falls zero f s = s
  falls (suc n) f s = falls n f (f n s)

module _ {A S : Type 0} where
  -- f at each element of a list, from the front
  unfoldable pub along : (A → S → S) → List A → S → S
  along f [] s = s
  along f (a ∷ l) s = along f l (f a s)

module _ {A B S : Type 0} where
  -- f at each pair of a column's row and value, from the front
  unfoldable pub over : (A → B → S → S) → List A → List B → S → S
  over f [] m s = s
  over f (a ∷ l) [] s = s
  over f (a ∷ l) (b ∷ m) s = over f l m (f a b s)

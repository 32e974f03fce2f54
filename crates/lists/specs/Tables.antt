-- A list by its places. Assumes nothing.
use Rattle.std.specs.Prelude.{ℕ, zero, suc, List, [], ◌∷◌}

module _ {A : Type 0} where
  -- f k, f (k + 1), .. : n of them
  unfoldable pub from : (ℕ → A) → ℕ → ℕ → List A
  from f k zero = []
  from f k (suc n) = f k ∷ from f (suc k) n

  -- f 0, f 1, .. : n of them
  abbrev pub table : ℕ → (ℕ → A) → List A
  table n f = from f 0 n

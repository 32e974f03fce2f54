-- Runs: numbers one after the other, how a rising list is known to be one, and two lists taken side by side. Assumes nothing.
use Rattle.std.specs.Prelude.{ℕ, ◌+◌, ◌-◌, Bool, ◌&&◌, List, [], ◌∷◌, length, ◌==◌, nat_lt, slice_index}
use Rattle.lists.specs.Tables.{from}

-- r, r + 1, .. : n of them
abbrev pub run : ℕ → ℕ → List ℕ
run r n = from (λ k. k) r n

-- the last is as far behind the first as its place is
unfoldable pub tight : List ℕ → Bool
tight l = nat_lt 0 (length l) && slice_index l (length l - 1) + 1 == slice_index l 0 + length l

module _ {A B : Type 0} where
  -- each element by its value, the first with the first; elements past the last value stay
  unfoldable pub zipped : (A → B → A) → List A → List B → List A
  zipped op [] vs = []
  zipped op (x ∷ xs) [] = x ∷ xs
  zipped op (x ∷ xs) (v ∷ vs) = op x v ∷ zipped op xs vs

-- A slice of which no more than the first n places have changed, and one that holds zeros. Assumes nothing.
use Rattle.std.specs.Prelude.{◌≡◌, ℕ, ◌<◌, ◌≤◌, List, length, slice_index, slice_index_or}

pub record Kept {A : Type 0} (z : A) (n : ℕ) (old new : List A) : Type 0 where
  pub long : length new ≡ length old
  pub rest : (q : ℕ) → n ≤ q → slice_index_or new q z ≡ slice_index_or old q z

pub record Zeros (l : List ℕ) : Type 0 where
  pub at : (q : ℕ) → q < length l → slice_index l q ≡ 0

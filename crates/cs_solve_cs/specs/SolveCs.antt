-- The forward solve with a sparse right side: document 01, "Sparse forward". Assumes nothing.
use Rattle.std.specs.Prelude.{Bool, ◌||◌, List, [], ◌∷◌, ◌++◌, map, ℕ, ltb, Float, length, get_or, set, replicate}
use Rattle.std.specs.Float.{nan}
use Rattle.lists.specs.Calls.{lowest, both, disagree, narrow, onto, none, Lent}
use Rattle.lists.specs.Choices.{keep, some}
use Rattle.lists.specs.Folds.{along, over}
use Rattle.cs_matrix.specs.Matrix.{Matrix, Vector, vector, judged, judged_vector, oblong, needed}
use Rattle.cs_solve.specs.Diagonal.{lacking}
use Rattle.cs_solve.specs.Solve.{forward_column}
use Rattle.cs_solve_cs.specs.Reach.{reached}

-- a value put at its row
abbrev pub put_at : ℕ → Float → List Float → List Float
put_at i v x = set x i v

-- x is zero except for b's values
unfoldable pub right : Vector → List Float
right b = over put_at b.i b.v (replicate b.n none)

-- the forward steps over the reached columns, rising
unfoldable pub steps : Matrix → Vector → List Float
steps a b = along (forward_column a) (reached a.pattern b.i) (right b)

-- the result: the reached set rising, with the values, zeros kept
unfoldable pub solution : Matrix → Vector → Vector
solution a b = let l = reached a.pattern b.i in let x = steps a b in vector b.n l (map (λ (j : ℕ). get_or x j nan) l)

-- the reached columns whose diagonal is absent, +0 or -0, rising
unfoldable pub lacking_reached : Matrix → Vector → List ℕ
lacking_reached a b = keep (lacking a) (reached a.pattern b.i)

-- 1 to 5: those of the matrix and of the right side, number by number, and 2 where the matrix is not square
unfoldable pub judged_cs : Matrix → Vector → List (ℕ × Bool)
judged_cs a b = both (both (judged a) (judged_vector b)) (disagree (oblong a.pattern))

-- the slices that a vector is written to
pub record Stored : Type 0 where
  pub i : List ℕ
  pub v : List Float

abbrev pub stored : List ℕ → List Float → Stored
stored i v = record { i = i; v = v }

-- 7, where the vector c is to be written: an output is shorter than needed, or the needed count is over 4,194,304
unfoldable pub short : Vector → Stored → Bool
short c out = ltb 4194304 (length c.i) || ltb (length out.i) (length c.i) || ltb (length out.v) (length c.v)

-- the vector c written to the outputs, excess length unchanged
unfoldable pub written : Vector → Stored → Stored
written c old = stored (onto old.i c.i) (onto old.v c.v)

-- 7 and 10, once 1 to 6 are passed
unfoldable pub later : Matrix → Vector → Stored → List (ℕ × Bool)
later a b out = (7, short (solution a b) out) ∷ (10, some (lacking_reached a b)) ∷ []

-- the number that the sparse solve answers
unfoldable pub number : Matrix → Vector → Lent Stored → ℕ
number a b old = lowest (judged_cs a b ++ (6, narrow (needed a.pattern) old.work) ∷ later a b old.out)

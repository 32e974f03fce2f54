-- Assembly from triplets: document 01, "Assembly needs room for as many entries as there are triplets, stores each at its place with
-- rows rising, zeros too, and keeps values' bits". A triplet is a row, a column and a value. Assumes nothing.
use Rattle.std.specs.Prelude.{Bool, false, not, ◌||◌, ◌≡◌, ℕ, ◌+◌, ◌*◌, ◌≤◌, ◌<◌, max, ltb, eqb, Float, length, get_or}
use mathlib.Core.List.{List, [], ◌∷◌, ◌++◌, Permᴰ}
use Rattle.lists.specs.Calls.{lowest, none, narrow, Lent}
use Rattle.lists.specs.Keys.{of_key, by_key}
use Rattle.lists.specs.Order.{lists, all_below}
use Rattle.lists.specs.Tables.{table}
use Rattle.cs_matrix.specs.Matrix.{Matrix, matrix, Stored, short, Valid}

-- ---- what is lent as triplets: dimensions, and a row, a column and a value for each
pub record Triplets : Type 0 where
  pub nrows : ℕ
  pub ncols : ℕ
  pub i : List ℕ
  pub j : List ℕ
  pub v : List Float

abbrev pub triplets : ℕ → ℕ → List ℕ → List ℕ → List Float → Triplets
triplets nrows ncols i j v = record { nrows = nrows; ncols = ncols; i = i; j = j; v = v }

-- numbers 1, 2 and 4. The triplet count is the length of the row list
unfoldable pub judged_triplets : Triplets → List (ℕ × Bool)
judged_triplets t =
    (1, ltb 65535 t.nrows || ltb 65535 t.ncols || ltb 4194304 (length t.i))
    ∷ (2, not (eqb (length t.i) (length t.j)) || not (eqb (length t.i) (length t.v)))
    ∷ (4, not (all_below t.i t.nrows) || not (all_below t.j t.ncols))
    ∷ []

-- 6: of each scratch slice twice max(rows, cols) + 1 elements are needed, and the triplet count
unfoldable pub needed_triplets : Triplets → ℕ
needed_triplets t = 2 * (max t.nrows t.ncols + 1) + length t.i

-- 9, the clash rule: a place is given twice, where a later triplet in the row of a triplet has its column
unfoldable pub twice : List ℕ → List ℕ → Bool
twice [] cs = false
twice (r ∷ rs) [] = false
twice (r ∷ rs) (c ∷ cs) = lists c (of_key r rs cs) || twice rs cs

-- ---- the places in order
-- of a list with one item for each triplet, the items by row
abbrev pub by_row : {A : Type 0} → Triplets → List A → List A
by_row t xs = by_key t.nrows t.i xs

-- and then by column, so that those of a column stay in the order of their rows
unfoldable pub in_order : {A : Type 0} → Triplets → List A → List A
in_order t xs = by_key t.ncols (by_row t t.j) (by_row t xs)

-- column j starts behind the triplets of the columns before it
unfoldable pub assembled : Triplets → Matrix
assembled t = matrix t.nrows t.ncols (table (t.ncols + 1) (λ j. length (by_key j t.j t.v))) (in_order t t.i) (in_order t t.v)

-- the number that `from_triplet` answers
unfoldable pub number : Triplets → Lent Stored → ℕ
number t old =
    lowest
    (judged_triplets t
    ++ (6, narrow (needed_triplets t) old.work)
    ∷ (7, short (assembled t) old.out)
    ∷ (9, twice t.i t.j)
    ∷ [])

-- ---- what is promised of the result besides, where the answer is 0
-- a triplet gives the value x for row r of column c
pub record Gives (t : Triplets) (r c : ℕ) (x : Float) : Type 0 where
  pub at : ℕ
  pub inside : at < length t.i
  pub row : get_or t.i at 0 ≡ r
  pub column : get_or t.j at 0 ≡ c
  pub value : get_or t.v at none ≡ x

-- the value x stands in row r of column c, between the two pointers of the column
pub record Stands (a : Matrix) (r c : ℕ) (x : Float) : Type 0 where
  pub at : ℕ
  pub from : get_or a.pattern.p c 0 ≤ at
  pub upto : at < get_or a.pattern.p (c + 1) 0
  pub row : get_or a.pattern.i at 0 ≡ r
  pub value : get_or a.v at none ≡ x

-- the triplets as one list
unfoldable pub listed : List ℕ → List ℕ → List Float → List (ℕ × ℕ × Float)
listed [] cs xs = []
listed (r ∷ rs) [] xs = []
listed (r ∷ rs) (c ∷ cs) [] = []
listed (r ∷ rs) (c ∷ cs) (x ∷ xs) = (r, c, x) ∷ listed rs cs xs

-- u has the triplets of t, in whatever order
pub record Reordered (t u : Triplets) : Type 0 where
  pub nrows : t.nrows ≡ u.nrows
  pub ncols : t.ncols ≡ u.ncols
  pub j_long : length u.i ≡ length u.j
  pub v_long : length u.i ≡ length u.v
  pub same : Permᴰ (listed t.i t.j t.v) (listed u.i u.j u.v)

pub record Assembled (t : Triplets) : Type 0 where
  pub valid : Valid (assembled t)
  -- each triplet's value stands at its place, and nothing else stands anywhere
  pub stands : (r c : ℕ) (x : Float) → Gives t r c x → Stands (assembled t) r c x
  pub only : (r c : ℕ) (x : Float) → c < t.ncols → Stands (assembled t) r c x → Gives t r c x
  -- the order in which the triplets come does not matter
  pub order : (u : Triplets) → Reordered t u → assembled u ≡ assembled t

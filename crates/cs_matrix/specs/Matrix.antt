-- A valid matrix, and the numbers that refuse one: document 01, "A valid matrix" and "Refusal numbers". Assumes nothing.
use Rattle.std.specs.Prelude.{Bool, true, false, not, cond, ◌&&◌, ◌||◌, List, [], ◌∷◌, ◌≡◌, ℕ, ◌+◌, ◌-◌, ◌≤◌, ◌<◌, max, leb, ltb, eqb, Float}
use Rattle.std.specs.Prelude.{length, get_or}
use Rattle.lists.specs.Calls.{both, disagree, onto, none}
use Rattle.lists.specs.Folds.{every}
use Rattle.lists.specs.Order.{rises, all_below}
use Rattle.lists.specs.Parts.{part}

-- ---- what is lent as a matrix
-- dimensions, pointers and rows
pub record Pattern : Type 0 where
  pub nrows : ℕ
  pub ncols : ℕ
  pub p : List ℕ
  pub i : List ℕ

-- a pattern, and a value for each of its rows
pub record Matrix : Type 0 where
  pub pattern : Pattern
  pub v : List Float

-- rows with a value for each, below the dimension n
pub record Vector : Type 0 where
  pub n : ℕ
  pub i : List ℕ
  pub v : List Float

abbrev pub pattern : ℕ → ℕ → List ℕ → List ℕ → Pattern
pattern nrows ncols p i = record { nrows = nrows; ncols = ncols; p = p; i = i }

abbrev pub matrix : ℕ → ℕ → List ℕ → List ℕ → List Float → Matrix
matrix nrows ncols p i v = record { pattern = pattern nrows ncols p i; v = v }

abbrev pub vector : ℕ → List ℕ → List Float → Vector
vector n i v = record { n = n; i = i; v = v }

-- ---- numbers 1 to 5
-- 1: a dimension or the entry count is over its maximum. The entry count is the length of the row list
unfoldable pub too_large : Pattern → Bool
too_large a = ltb 65535 a.nrows || ltb 65535 a.ncols || ltb 4194304 (length a.i)

-- 3, where it does not hold: the first pointer is 0, the last is the entry count n, and none falls
unfoldable pub pointers : List ℕ → ℕ → Bool
pointers p n =
    eqb (get_or p 0 0) 0
    && eqb (get_or p (length p - 1) 0) n
    && every (length p - 1) (λ k. leb (get_or p k 0) (get_or p (k + 1) 0))

module _ {A : Type 0} where
  -- column j of a list with one item for each entry: the part between its two pointers
  unfoldable pub column : List ℕ → ℕ → List A → List A
  column p j l = part (get_or p j 0) (get_or p (j + 1) 0) l

-- the value at row r of a column's rows and values; +0.0 where the row is absent
unfoldable pub value_at : ℕ → List ℕ → List Float → Float
value_at r [] vs = none
value_at r (i ∷ is) [] = none
value_at r (i ∷ is) (v ∷ vs) = cond (eqb i r) v (value_at r is vs)

-- 5, where it does not hold: within each column the rows rise strictly
unfoldable pub columns_rise : Pattern → Bool
columns_rise a = every a.ncols (λ j. rises (column a.p j a.i))

-- there are cols + 1 pointers, and rows are below the row count
unfoldable pub judged_pattern : Pattern → List (ℕ × Bool)
judged_pattern a =
    (1, too_large a)
    ∷ (2, not (eqb (length a.p) (a.ncols + 1)))
    ∷ (3, not (pointers a.p (length a.i)))
    ∷ (4, not (all_below a.i a.nrows))
    ∷ (5, not (columns_rise a))
    ∷ []

-- a matrix has as many values as rows
unfoldable pub judged : Matrix → List (ℕ × Bool)
judged a = both (judged_pattern a.pattern) (disagree (not (eqb (length a.pattern.i) (length a.v))))

-- not square
abbrev pub oblong : Pattern → Bool
oblong a = not (eqb a.nrows a.ncols)

-- numbers 1 to 5 of a pattern that has to be square, and of such a matrix: 2 also where it is not
unfoldable pub judged_square : Pattern → List (ℕ × Bool)
judged_square a = both (judged_pattern a) (disagree (oblong a))

unfoldable pub judged_square_matrix : Matrix → List (ℕ × Bool)
judged_square_matrix a = both (judged a) (disagree (oblong a.pattern))

-- a vector is a list of strictly rising rows with as many values
unfoldable pub judged_vector : Vector → List (ℕ × Bool)
judged_vector b =
    (1, ltb 65535 b.n || ltb 4194304 (length b.i))
    ∷ (2, not (eqb (length b.i) (length b.v)))
    ∷ (3, false)
    ∷ (4, not (all_below b.i b.n))
    ∷ (5, not (rises b.i))
    ∷ []

-- ---- numbers 6 and 7
-- the elements of each scratch slice that a pattern needs
unfoldable pub needed : Pattern → ℕ
needed a = max a.nrows a.ncols + 1

-- the slices that a matrix is written to
pub record Stored : Type 0 where
  pub p : List ℕ
  pub i : List ℕ
  pub v : List Float

abbrev pub stored : List ℕ → List ℕ → List Float → Stored
stored p i v = record { p = p; i = i; v = v }

-- 7, where the matrix a is to be written: an output is shorter than needed, or the needed count is over 4,194,304
unfoldable pub short : Matrix → Stored → Bool
short a out =
    ltb 4194304 (length a.pattern.i)
    || ltb (length out.p) (length a.pattern.p)
    || ltb (length out.i) (length a.pattern.i)
    || ltb (length out.v) (length a.v)

-- the same in the lengths of the outputs, for a matrix of so many columns and entries
unfoldable pub short_by : ℕ → ℕ → ℕ → ℕ → ℕ → Bool
short_by ncols entries p i v = ltb p (ncols + 1) || ltb i entries || ltb v entries

-- the matrix a written to the outputs, excess length unchanged
unfoldable pub written : Matrix → Stored → Stored
written a old = stored (onto old.p a.pattern.p) (onto old.i a.pattern.i) (onto old.v a.v)

-- ---- validity, as proofs pass it on
pub record Pointers (p : List ℕ) (n : ℕ) : Type 0 where
  pub first : get_or p 0 0 ≡ 0
  pub last : get_or p (length p - 1) 0 ≡ n
  pub climbs : (k : ℕ) → k < length p - 1 → get_or p k 0 ≤ get_or p (k + 1) 0

pub record ValidPattern (a : Pattern) : Type 0 where
  pub rows : a.nrows ≤ 65535
  pub cols : a.ncols ≤ 65535
  pub entries : length a.i ≤ 4194304
  pub p_long : length a.p ≡ a.ncols + 1
  pub ptrs : Pointers a.p (length a.i)
  pub below : (k : ℕ) → k < length a.i → get_or a.i k 0 < a.nrows
  pub rise : (j : ℕ) → j < a.ncols → rises (column a.p j a.i) ≡ true

pub record Valid (a : Matrix) : Type 0 where
  pub pattern : ValidPattern a.pattern
  pub v_long : length a.pattern.i ≡ length a.v

pub record ValidVector (b : Vector) : Type 0 where
  pub dimension : b.n ≤ 65535
  pub entries : length b.i ≤ 4194304
  pub v_long : length b.i ≡ length b.v
  pub below : (k : ℕ) → k < length b.i → get_or b.i k 0 < b.n
  pub rise : rises b.i ≡ true

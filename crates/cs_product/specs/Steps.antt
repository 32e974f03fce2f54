-- What the private steps of the product ask and leave. No public contract names these. Assumes nothing.
use Rattle.std.specs.Prelude.{true, false, List, ◌≡◌, ℕ, ◌+◌, ◌<◌, ◌≤◌, Float, length, get_or, take, replicate}
use Rattle.std.specs.Float.{nan}
use Rattle.lists.specs.Calls.{none}
use Rattle.lists.specs.Choices.{chosen, keep}
use Rattle.lists.specs.Folds.{along, over}
use Rattle.lists.specs.Order.{lists, rises, Once}
use Rattle.cs_matrix.specs.Matrix.{Pattern, Matrix, Stored, column, ValidPattern, Valid}
use Rattle.cs_columns.specs.Columns.{either, joined}
use Rattle.cs_product.specs.Product.{add_column, row_of, remains}

-- ---- the rows that a column of the product has met so far: `count` of them, each once, in `met`; they bear the mark `stamp`
pub record Met (n stamp : ℕ) (mark met : List ℕ) (x : List Float) (count : ℕ) : Type 0 where
  pub small : n ≤ 65535
  pub mark_long : length mark ≡ n
  pub met_long : length met ≡ n
  pub x_long : length x ≡ n
  pub within : count ≤ n
  pub once : Once (take count met)
  pub below : (k : ℕ) → k < count → get_or met k 0 < n
  pub marked : (r : ℕ) → r < n → get_or mark r 0 ≡ stamp → lists r (take count met) ≡ true
  pub listed : (r : ℕ) → r < n → lists r (take count met) ≡ true → get_or mark r 0 ≡ stamp
  pub most : (r : ℕ) → r < n → get_or mark r 0 ≤ stamp
  pub zero : (r : ℕ) → r < n → lists r (take count met) ≡ false → get_or x r nan ≡ none

-- before a column: no mark is `stamp` yet, and x is all +0.0
pub record Fresh (n stamp : ℕ) (mark met : List ℕ) (x : List Float) : Type 0 where
  pub small : n ≤ 65535
  pub mark_long : length mark ≡ n
  pub met_long : length met ≡ n
  pub unmarked : (r : ℕ) → r < n → get_or mark r 0 < stamp
  pub zeros : x ≡ replicate n none

-- what `add_column` asks: a column of A, and the rows met so far
pub record Adding (n stamp : ℕ) (rows : List ℕ) (vals : List Float) (mark met : List ℕ) (x : List Float) (count : ℕ) : Type 0 where
  pub alike : length vals ≡ length rows
  pub below : (k : ℕ) → k < length rows → get_or rows k 0 < n
  pub met_so_far : Met n stamp mark met x count

-- what `accumulate` asks: A, a column of B, and nothing met
pub record Starting (a : Matrix) (stamp : ℕ) (rows : List ℕ) (vals : List Float) (mark met : List ℕ) (x : List Float) : Type 0 where
  pub valid : Valid a
  pub alike : length vals ≡ length rows
  pub few : length rows ≤ 4194304
  pub below : (k : ℕ) → k < length rows → get_or rows k 0 < a.pattern.ncols
  pub fresh : Fresh a.pattern.nrows stamp mark met x

-- ---- rows in order
unfoldable pub in_order : ℕ → List ℕ → List ℕ
in_order n l = chosen n (λ r. lists r l)

-- two lists that rise, below n, and room for both merged
pub record Risen (n : ℕ) (l m out : List ℕ) : Type 0 where
  pub small : n ≤ 65535
  pub l_below : (k : ℕ) → k < length l → get_or l k 0 < n
  pub m_below : (k : ℕ) → k < length m → get_or m k 0 < n
  pub l_up : rises l ≡ true
  pub m_up : rises m ≡ true
  pub room : length (chosen n (either l m)) ≤ length out

-- rows below n, each once, and room for as many
pub record Loose (n : ℕ) (l spare : List ℕ) : Type 0 where
  pub small : n ≤ 65535
  pub once : Once l
  pub below : (k : ℕ) → k < length l → get_or l k 0 < n
  pub room : length l ≤ length spare

-- ---- the rows that were met, when they are taken out of x: elsewhere x is +0.0
pub record Drain (n : ℕ) (rows : List ℕ) (x : List Float) : Type 0 where
  pub small : n ≤ 65535
  pub x_long : length x ≡ n
  pub once : Once rows
  pub below : (k : ℕ) → k < length rows → get_or rows k 0 < n
  pub zero : (r : ℕ) → r < n → lists r rows ≡ false → get_or x r nan ≡ none

-- and room for those that remain, from `start` on
pub record Taking (n start : ℕ) (rows : List ℕ) (x : List Float) (oi : List ℕ) (ov : List Float) : Type 0 where
  pub drain : Drain n rows x
  pub few : start + length (keep (remains x) rows) ≤ 4194304
  pub in_i : start + length (keep (remains x) rows) ≤ length oi
  pub in_v : start + length (keep (remains x) rows) ≤ length ov

-- ---- one column, given by the rows and values of B's
unfoldable pub column_of : Matrix → List ℕ → List Float → List Float
unfolding add_column
column_of a rows vals = over (add_column a) rows vals (replicate a.pattern.nrows none)

-- what `write_column` and `write_listed` ask: as `accumulate`, a spare slice, and room for what remains, from `start` on
pub record Column (a : Matrix) (stamp : ℕ) (rows : List ℕ) (vals : List Float) (start : ℕ) (mark met spare : List ℕ) (x : List Float) (oi : List ℕ)
    (ov : List Float) : Type 0 where
  pub starting : Starting a stamp rows vals mark met x
  pub spare_long : length spare ≡ a.pattern.nrows
  pub few : start + length (chosen a.pattern.nrows (remains (column_of a rows vals))) ≤ 4194304
  pub in_i : start + length (chosen a.pattern.nrows (remains (column_of a rows vals))) ≤ length oi
  pub in_v : start + length (chosen a.pattern.nrows (remains (column_of a rows vals))) ≤ length ov

-- ---- the rows that a column of the product can have
-- what `span_of` asks: columns of A
pub record Within (a : Pattern) (cols : List ℕ) : Type 0 where
  pub valid : ValidPattern a
  pub few : length cols ≤ 4194304
  pub below : (k : ℕ) → k < length cols → get_or cols k 0 < a.ncols

-- how many entries they have
unfoldable pub work_of : Pattern → List ℕ → ℕ
work_of a cols = along (λ c n. n + length (column a.p c a.i)) cols 0

-- their rows are not below lo, and below hi
pub record Spanned (a : Pattern) (cols : List ℕ) (lo hi work : ℕ) : Type 0 where
  pub order : lo ≤ hi
  pub inside : hi ≤ a.nrows
  pub low : (k : ℕ) → k < length cols → (q : ℕ) → q < length (column a.p (get_or cols k 0) a.i) → lo ≤ get_or (column a.p (get_or cols k 0) a.i) q 0
  pub high : (k : ℕ) → k < length cols → (q : ℕ) → q < length (column a.p (get_or cols k 0) a.i) → get_or (column a.p (get_or cols k 0) a.i) q 0 < hi
  pub work_is : work ≡ work_of a cols
  pub work_small : work ≤ 17592186044416

-- ---- a column of the product without marks
-- what `accumulate_plain` asks: A, a column of B, and x
pub record Plain (a : Matrix) (rows : List ℕ) (vals x : List Float) : Type 0 where
  pub valid : Valid a
  pub alike : length vals ≡ length rows
  pub below : (k : ℕ) → k < length rows → get_or rows k 0 < a.pattern.ncols
  pub x_long : length x ≡ a.pattern.nrows

-- what `sweep` asks: x is +0.0 below lo and from hi on, and room for what remains of it, from `start` on
pub record Swept (n lo hi start : ℕ) (x : List Float) (oi : List ℕ) (ov : List Float) : Type 0 where
  pub small : n ≤ 65535
  pub order : lo ≤ hi
  pub inside : hi ≤ n
  pub x_long : length x ≡ n
  pub below : (r : ℕ) → r < lo → get_or x r nan ≡ none
  pub behind : (r : ℕ) → hi ≤ r → r < n → get_or x r nan ≡ none
  pub few : start + length (chosen n (remains x)) ≤ 4194304
  pub in_i : start + length (chosen n (remains x)) ≤ length oi
  pub in_v : start + length (chosen n (remains x)) ≤ length ov

-- what `write_dense` asks: a column whose span is known, x all +0.0, and room for what remains, from `start` on
pub record Dense (a : Matrix) (rows : List ℕ) (vals : List Float) (lo hi start : ℕ) (x : List Float) (oi : List ℕ) (ov : List Float) : Type 0 where
  pub plain : Plain a rows vals x
  pub work : ℕ
  pub spanned : Spanned a.pattern rows lo hi work
  pub zeros : x ≡ replicate a.pattern.nrows none
  pub few : start + length (chosen a.pattern.nrows (remains (column_of a rows vals))) ≤ 4194304
  pub in_i : start + length (chosen a.pattern.nrows (remains (column_of a rows vals))) ≤ length oi
  pub in_v : start + length (chosen a.pattern.nrows (remains (column_of a rows vals))) ≤ length ov

-- ---- two valid matrices, the second with as many rows as the first has columns
pub record Factors (a b : Matrix) : Type 0 where
  pub first : Valid a
  pub second : Valid b
  pub inner : a.pattern.ncols ≡ b.pattern.nrows

-- and scratch for their columns
pub record Begun (a b : Matrix) (stamp : ℕ) (mark met : List ℕ) (x : List Float) : Type 0 where
  pub factors : Factors a b
  pub fresh : Fresh a.pattern.nrows stamp mark met x

-- the entries that remain
unfoldable pub size : Matrix → Matrix → ℕ
size a b = length (joined (λ j. chosen a.pattern.nrows (row_of a b j)) b.pattern.ncols)

-- and room for their product
pub record Ready (a b : Matrix) (mark met spare : List ℕ) (x : List Float) (out : Stored) : Type 0 where
  pub begun : Begun a b 1 mark met x
  pub spare_long : length spare ≡ a.pattern.nrows
  pub few : size a b ≤ 4194304
  pub in_p : b.pattern.ncols + 1 ≤ length out.p
  pub in_i : size a b ≤ length out.i
  pub in_v : size a b ≤ length out.v

-- scratch as long as a column, cleared
pub record Clean (a b : Matrix) (mark met spare : List ℕ) (x : List Float) : Type 0 where
  pub factors : Factors a b
  pub mark_is : mark ≡ replicate a.pattern.nrows 0
  pub met_long : length met ≡ a.pattern.nrows
  pub spare_long : length spare ≡ a.pattern.nrows
  pub zeros : x ≡ replicate a.pattern.nrows none

-- What the steps of the up factoring ask and leave, on plain lists. L's values lie where its pattern has their rows: column j's
-- from its pointer in lp up to, not including, `next`, the place of its first row that is not yet worked out. Assumes nothing.
use Rattle.std.specs.Prelude.{true, cond, ◌≡◌, ℕ, ◌+◌, ◌≤◌, ◌<◌, ltb, Float, length, get_or, set, drop, replicate}
use mathlib.Core.List.{List, [], Memᴰ}
use Rattle.std.specs.Float.{nan, binary64}
use Rattle.std.specs.Float.Ieee.{sub, mul}
use Rattle.lists.specs.Calls.{none}
use Rattle.lists.specs.Folds.{along, over}
use Rattle.lists.specs.Order.{rises, Once}
use Rattle.lists.specs.Parts.{part}
use Rattle.lists.specs.Tables.{table}
use Rattle.cs_matrix.specs.Matrix.{Matrix, column}
use Rattle.cs_tree.specs.Least.{In}
use Rattle.cs_tree.specs.Pattern.{Analysis, upper, entries}
use Rattle.cs_pattern.specs.Columns.{columns}
use Rattle.cs_cholesky.specs.Served.{Served}
use Rattle.cs_up.specs.Up.{put_at, Way, row_at}

abbrev pub way : List Float → Float → List (List Float) → Way
way x pivot columns = record { x = x; pivot = pivot; columns = columns }

-- ---- the steps as the code makes them
-- x(r) = x(r) - (v times t)
unfoldable pub take_at : Float → ℕ → Float → List Float → List Float
take_at t r v x = set x r (sub binary64 (get_or x r nan) (mul binary64 v t))

-- the values of L's first k columns
unfoldable pub held : ℕ → List ℕ → List ℕ → List Float → List (List Float)
held k lp next lx = table k (λ j. part (get_or lp j 0) (get_or next j 0) lx)

-- each j < k of us in order, L's rows read where they lie
unfoldable pub goes : ℕ → List ℕ → List ℕ → List ℕ → Way → Way
goes k lp li us s = along (λ j s. cond (ltb j k) (row_at k (column lp j li) j s) s) us s

-- the start of column k, with its stored rows and values put into x
unfoldable pub start_on : ℕ → List ℕ → List Float → List Float → List (List Float) → Way
start_on k rows vals x done = let y = over (put_at k) rows vals x in way (set y k none) (get_or y k nan) done

-- ---- what they ask
-- a stored column, to be put into x down to row k
pub record Loads (k : ℕ) (rows : List ℕ) (vals x : List Float) : Type 0 where
  pub here : k < length x
  pub alike : length vals ≡ length rows
  pub rise : rises rows ≡ true

-- column j of L from s to e, the next value of which goes to e
pub record Reads (j s e : ℕ) (li : List ℕ) (lx x : List Float) : Type 0 where
  pub begun : s < e
  pub rows : e ≤ length li
  pub room : e < length lx
  pub here : j < length x
  pub below : (z : ℕ) → s < z → z < e → get_or li z 0 < length x
  pub rise : (y z : ℕ) → s < y → y < z → z < e → get_or li y 0 < get_or li z 0

-- ---- what holds between them
-- the rows of a column of L from lo to hi: before mid they are below b, from mid on they are not
pub record Cut (li : List ℕ) (lo mid hi b : ℕ) : Type 0 where
  pub low : lo ≤ mid
  pub high : mid ≤ hi
  pub before : (z : ℕ) → lo ≤ z → z < mid → get_or li z 0 < b
  pub after : (z : ℕ) → mid ≤ z → z < hi → b ≤ get_or li z 0

-- the first k columns of L, worked out in the rows below b: each has its diagonal first
pub record Stands (k b : ℕ) (lp li next : List ℕ) : Type 0 where
  pub cut : (j : ℕ) → j < k → Cut li (get_or lp j 0) (get_or next j 0) (get_or lp (j + 1) 0) b
  pub some : (j : ℕ) → j < k → get_or lp j 0 < get_or lp (j + 1) 0
  pub first : (j : ℕ) → j < k → get_or li (get_or lp j 0) 0 ≡ j

-- where row k stands in column j of L
pub record Place (lp li : List ℕ) (j k : ℕ) : Type 0 where
  pub at : ℕ
  pub from : get_or lp j 0 ≤ at
  pub to : at < get_or lp (j + 1) 0
  pub is : get_or li at 0 ≡ k

-- the n columns of L, t entries in all, laid out in li with their pointers in lp: the pattern us transposed
pub record Lies (n t : ℕ) (us : List (List ℕ)) (lp li : List ℕ) : Type 0 where
  pub small : n ≤ 65535
  pub few : t ≤ 4194304
  pub lp_long : n < length lp
  pub in_li : t ≤ length li
  pub start : get_or lp 0 0 ≡ 0
  pub climb : (j : ℕ) → j < n → get_or lp j 0 ≤ get_or lp (j + 1) 0
  pub end : get_or lp n 0 ≡ t
  pub rise : (j y z : ℕ) → j < n → get_or lp j 0 ≤ y → y < z → z < get_or lp (j + 1) 0 → get_or li y 0 < get_or li z 0
  pub entry : (j z : ℕ) → j < n → get_or lp j 0 ≤ z → z < get_or lp (j + 1) 0 → In us j (get_or li z 0)
  pub place : (j k : ℕ) → In us j k → Place lp li j k
  pub upward : (j k : ℕ) → In us j k → (j ≤ k) × (k < n)
  pub once : (k : ℕ) → Once (get_or us k [])
  -- each row of column j at or before k is behind j in column k of U
  pub behind : (k q r : ℕ) → q < length (get_or us k []) → In us (get_or (get_or us k []) q 0) r → get_or (get_or us k []) q 0 < r → r ≤ k →
      Memᴰ r (drop (q + 1) (get_or us k []))

-- column k on its way, before the columns that u names: L's first k columns are worked out in the rows below k, and x has values
-- at rows of u above k only
pub record Rows (k : ℕ) (u lp li : List ℕ) (lx : List Float) (next : List ℕ) (x : List Float) : Type 0 where
  pub n : ℕ
  pub t : ℕ
  pub us : List (List ℕ)
  pub lies : Lies n t us lp li
  pub here : k < n
  pub is : u ≡ get_or us k []
  pub lx_long : length lx ≡ t
  pub next_long : length next ≡ n
  pub x_long : length x ≡ n
  pub stands : Stands k k lp li next
  pub zero : (i : ℕ) → i < n → (i < k → ¬ Memᴰ i u) → get_or x i nan ≡ none

-- and after them
pub record Rowed (k : ℕ) (lp li next : List ℕ) (x : List Float) : Type 0 where
  pub stands : Stands k (k + 1) lp li next
  pub zeros : x ≡ replicate (length x) none

-- the diagonal of column k has a place
pub record Closes (k : ℕ) (lp : List ℕ) (lx : List Float) (next : List ℕ) : Type 0 where
  pub in_lp : k < length lp
  pub in_next : k < length next
  pub room : get_or lp k 0 < length lx
  pub few : length lx ≤ 4194304

-- ---- all columns
-- a square matrix with its own analysis, L's values as long as U has entries, and x zeros
pub record Ready (a : Matrix) (given : Analysis) (lx : List Float) (next : List ℕ) (x : List Float) : Type 0 where
  pub room : ℕ
  pub served : Served a.pattern.ncols a.pattern.p a.pattern.i a.v given.up given.ui given.lp given.li room
  pub lx_long : length lx ≡ entries (upper (columns a.pattern))
  pub next_long : length next ≡ a.pattern.ncols
  pub x_long : length x ≡ a.pattern.ncols
  pub zeros : x ≡ replicate a.pattern.ncols none

-- and at column k
pub record Turns (k : ℕ) (a : Matrix) (given : Analysis) (lx : List Float) (next : List ℕ) (x : List Float) : Type 0 where
  pub here : k < a.pattern.ncols
  pub ready : Ready a given lx next x
  pub stands : Stands k k given.lp given.li next

-- column k gone through: x1, the pivot and L's columns are those of the steps, L's columns are worked out in row k too, and x is zeros
pub record Gone (k : ℕ) (a : Matrix) (given : Analysis) (lx : List Float) (next : List ℕ) (x lx1 : List Float) (next1 : List ℕ) (x1 : List Float)
    (pivot : Float) : Type 0 where
  pub is : way x1 pivot (held k given.lp next1 lx1) ≡ goes k given.lp given.li (column given.up k given.ui)
      (start_on k (column a.pattern.p k a.pattern.i) (column a.pattern.p k a.v) x (held k given.lp next lx))
  pub rowed : Rowed k given.lp given.li next1 x1

-- ---- the whole
-- the slices that were lent, once they are judged: x has as many zeros in front as the square matrix has columns
pub record Fills (a : Matrix) (given : Analysis) (lx : List Float) (next : List ℕ) (x : List Float) : Type 0 where
  pub served : Served a.pattern.ncols a.pattern.p a.pattern.i a.v given.up given.ui given.lp given.li (length lx)
  pub in_next : a.pattern.ncols ≤ length next
  pub in_x : a.pattern.ncols ≤ length x
  pub zeros : part 0 a.pattern.ncols x ≡ replicate a.pattern.ncols none

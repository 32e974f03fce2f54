-- What the steps of the left factoring ask and leave, on plain lists. Assumes nothing.
use Rattle.std.specs.Prelude.{◌≡◌, Bool, true, false, not, cond, ◌&&◌, ◌⊎◌, ℕ, ◌+◌, ◌-◌, ◌≤◌, ◌<◌, ltb, eqb, Float, length, get_or, set}
use Rattle.std.specs.Prelude.{replicate}
use mathlib.Core.List.{List, Memᴰ}
use Rattle.lists.specs.Calls.{none}
use Rattle.lists.specs.Choices.{some_of, some, chosen}
use Rattle.lists.specs.Entries.{Entries}
use Rattle.lists.specs.Folds.{along}
use Rattle.lists.specs.Order.{lists, rises}
use Rattle.cs_matrix.specs.Matrix.{Pattern, Matrix, column}
use Rattle.cs_tree.specs.Pattern.{Analysis}
use Rattle.cs_cholesky.specs.Served.{Served}
use Rattle.cs_left.specs.Left.{add_column, strays}

-- x(z) = 0
unfoldable pub zero_at : ℕ → List Float → List Float
zero_at z x = set x z none

-- each j < k in the order us, where L's columns stand in li and lx between the pointers lp
unfoldable pub add_held : ℕ → List ℕ → List ℕ → List Float → List ℕ → List Float → List Float
add_held k lp li lx us x = along (λ j x. cond (ltb j k) (add_column k (column lp j li) (column lp j lx) x) x) us x

-- the place of the next row in L's column j < k goes on by one
unfoldable pub advance : ℕ → ℕ → List ℕ → List ℕ
advance k j w = cond (ltb j k) (set w j (get_or w j 0 + 1)) w

-- one of the rows is below k and absent from those held
unfoldable pub stray_in : ℕ → List ℕ → List ℕ → Bool
stray_in k held rows = some_of (λ i. ltb k i && not (lists i held)) rows

-- so is a row of column k, where L's columns are held by the lent analysis
abbrev pub stray_at : Pattern → Analysis → ℕ → Bool
stray_at a given k = stray_in k (column given.lp k given.li) (column a.p k a.i)

-- so is one of some column
abbrev pub some_stray : Pattern → Analysis → Bool
some_stray a given = some (chosen a.ncols (stray_at a given))

-- a column's rows, each once and below m, with room for c values
pub record Places (m : ℕ) (rows : List ℕ) (c : ℕ) : Type 0 where
  pub alike : c ≡ length rows
  pub below : (q : ℕ) → q < length rows → get_or rows q 0 < m
  pub once : (q r : ℕ) → q < r → r < length rows → get_or rows q 0 ≡ get_or rows r 0 → ⊥

-- the rows before place m are below k in number, those from there on are not
pub record Cut (k : ℕ) (rows : List ℕ) (m : ℕ) : Type 0 where
  pub within : m ≤ length rows
  pub before : (q : ℕ) → q < m → get_or rows q 0 < k
  pub behind : (q : ℕ) → m ≤ q → q < length rows → k ≤ get_or rows q 0

-- s is the place of the first row at or past k in a column that starts at a
pub record Next (k : ℕ) (rows : List ℕ) (a s : ℕ) : Type 0 where
  pub m : ℕ
  pub is : s ≡ a + m
  pub cut : Cut k rows m

-- L's column j has row k, at the place that `next` has
pub record Crossing (k : ℕ) (lp li : List ℕ) (lx : List Float) (next : List ℕ) (m j : ℕ) : Type 0 where
  pub pointer : j + 1 < length lp
  pub place : j < length next
  pub few : get_or lp (j + 1) 0 ≤ 4194304
  pub in_li : get_or lp (j + 1) 0 ≤ length li
  pub in_lx : get_or lp (j + 1) 0 ≤ length lx
  pub at : Next k (column lp j li) (get_or lp j 0) (get_or next j 0)
  pub inside : get_or next j 0 < get_or lp (j + 1) 0
  pub here : get_or li (get_or next j 0) 0 ≡ k
  pub rise : rises (column lp j li) ≡ true
  pub below : (q : ℕ) → q < get_or lp (j + 1) 0 → get_or lp j 0 ≤ q → get_or li q 0 < m

-- so have all the columns of L that U's column k names
pub record Crossings (k : ℕ) (us lp li : List ℕ) (lx : List Float) (next : List ℕ) (m : ℕ) : Type 0 where
  pub once : (q r : ℕ) → q < r → r < length us → get_or us q 0 ≡ get_or us r 0 → ⊥
  pub each : (q : ℕ) → q < length us → get_or us q 0 < k → Crossing k lp li lx next m (get_or us q 0)

-- column k of a matrix with its pointers p: it is within i
pub record Within (k : ℕ) (p i : List ℕ) : Type 0 where
  pub pointer : k + 1 < length p
  pub order : get_or p k 0 ≤ get_or p (k + 1) 0
  pub inside : get_or p (k + 1) 0 ≤ length i

-- what column k is gathered from, into m places
pub record Gathers (k : ℕ) (a : Matrix) (given : Analysis) (lx : List Float) (next : List ℕ) (m : ℕ) : Type 0 where
  pub small : k < 65535
  pub here : k < m
  pub stored : Within k a.pattern.p a.pattern.i
  pub v_inside : get_or a.pattern.p (k + 1) 0 ≤ length a.v
  pub entries : Entries m (column a.pattern.p k a.pattern.i) (column a.pattern.p k a.v)
  pub listed : Within k given.up given.ui
  pub crossings : Crossings k (column given.up k given.ui) given.lp given.li lx next m

-- what column k of L is finished from
pub record Finishes (k : ℕ) (lp li : List ℕ) (lx : List Float) (next : List ℕ) (m : ℕ) : Type 0 where
  pub small : k < 65535
  pub place : k < length next
  pub few : get_or lp (k + 1) 0 ≤ 4194304
  pub laid : Within k lp li
  pub in_lx : get_or lp (k + 1) 0 ≤ length lx
  pub places : Places m (column lp k li) (get_or lp (k + 1) 0 - get_or lp k 0)

-- n columns, each within i and rising
pub record Rises (n : ℕ) (p i : List ℕ) : Type 0 where
  pub few : n ≤ 65535
  pub each : (k : ℕ) → k < n → Within k p i
  pub rise : (k : ℕ) → k < n → rises (column p k i) ≡ true

-- row z of column r is at or above the diagonal, or its mirror is stored: row r of column z
abbrev pub Met : List ℕ → List ℕ → ℕ → ℕ → Type 0
Met p i r z = (z ≤ r) ⊎ Memᴰ r (column p z i)

-- so are all rows of the first c columns, before the places that `next` has
pub record Mirrors (c : ℕ) (p i next : List ℕ) : Type 0 where
  pub met : (r y : ℕ) → r < c → get_or p r 0 ≤ y → y < get_or next r 0 → Met p i r (get_or i y 0)

-- column c stores row r: the next row of column r is met if it is c
unfoldable pub meet_at : ℕ → List ℕ → List ℕ → ℕ → List ℕ → List ℕ
meet_at c p i r next = let s = get_or next r 0 in cond (ltb s (get_or p (r + 1) 0) && eqb (get_or i s 0) c) (set next r (s + 1)) next

-- what column c is walked with
pub record Meets (c : ℕ) (p i next : List ℕ) : Type 0 where
  pub n : ℕ
  pub rises : Rises n p i
  pub here : c < n
  pub room : length next ≡ n
  pub mirrors : Mirrors c p i next

-- and what it leaves: its rows before place q are at or above the diagonal
pub record Walked (c : ℕ) (p i next : List ℕ) (q : ℕ) : Type 0 where
  pub mirrors : Mirrors c p i next
  pub above : (y : ℕ) → get_or p c 0 ≤ y → y < q → get_or i y 0 ≤ c

-- strays are sought, with m places for `next`: L has a place for the mirror of each stored row above the diagonal
pub record Sought (a : Pattern) (given : Analysis) (m : ℕ) : Type 0 where
  pub stored : Rises a.ncols a.p a.i
  pub held : Rises a.ncols given.lp given.li
  pub mirrored : (r z : ℕ) → z < a.ncols → r < z → Memᴰ r (column a.p z a.i) → Memᴰ z (column given.lp r given.li)
  pub below : (q : ℕ) → q < length a.i → get_or a.i q 0 < a.ncols
  pub room : m ≡ a.ncols

-- and in column k, once all rows are met that can be
pub record Seeks (k : ℕ) (a : Pattern) (given : Analysis) (next : List ℕ) : Type 0 where
  pub here : k < a.ncols
  pub sought : Sought a given (length next)
  pub mirrors : Mirrors a.ncols a.p a.i next

-- what a factoring of a square matrix starts from: all that is stored below the diagonal has its place in L, and x is zeros
pub record Asked (a : Matrix) (given : Analysis) (room : ℕ) (next : List ℕ) (x : List Float) : Type 0 where
  pub served : Served a.pattern.ncols a.pattern.p a.pattern.i a.v given.up given.ui given.lp given.li room
  pub none_stray : strays a ≡ false
  pub next_long : length next ≡ a.pattern.ncols
  pub zeros : x ≡ replicate a.pattern.ncols none

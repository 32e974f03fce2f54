-- What both calls have worked out once their numbers 1 to 6 are judged. Assumes nothing.
use Rattle.std.specs.Prelude.{◌≡◌, ℕ, ◌+◌, ◌<◌, ◌≤◌, Bool, true, false, List, [], ◌∷◌, ◌++◌, length, take, Option, MatchOption}
use mathlib.Core.List.{flatten}
use Rattle.lists.specs.Calls.{onto}
use Rattle.lists.specs.Keys.{by_key}
use Rattle.lists.specs.Parts.{part}
use Rattle.lists.specs.Keeping.{Kept}
use Rattle.lists.specs.Sums.{counted}
use Rattle.lists.specs.Order.{starts_with}
use Rattle.cs_tree.specs.Backward.{Holds}
use Rattle.cs_tree.specs.Pattern.{upper, lower, entries, Analysis}
use Rattle.cs_tree.specs.Steps.{lengths, Spread, Put}
use Rattle.cs_tree.specs.Tree.{tree}

-- t entries in the columns, no more than a matrix may have, and one more in w' than in w at the row of each
pub record Counted (us : List (List ℕ)) (w w' : List ℕ) (t : ℕ) : Type 0 where
  pub size : t ≡ entries us
  pub few : t ≤ 4194304
  pub are : w' ≡ counted (flatten us) w

-- the tree, and the entries of U counted, or none where they are too many
pub record Outlined (cols : List (List ℕ)) (n : ℕ) (t : Option ℕ) (w1 w1' w2 w2' w3 w3' : List ℕ) : Type 0 where
  pub count : MatchOption t (4194304 < entries (upper cols)) (Counted (upper cols) w3 w3')
  pub tree_is : w1' ≡ onto w1 (tree cols)
  pub kept2 : Kept 0 n w2 w2'
  pub kept3 : Kept 0 n w3 w3'

-- what has to be known before anything is written
pub record Ready (cols : List (List ℕ)) (n t : ℕ) (w1 w2 w3 : List ℕ) (out : Analysis) : Type 0 where
  pub tree_is : part 0 n w1 ≡ tree cols
  pub w1_long : n ≤ length w1
  pub w2_long : n ≤ length w2
  pub w3_long : n + 1 ≤ length w3
  pub lengths_are : take (n + 1) w3 ≡ lengths (lower cols) ++ (0 ∷ [])
  pub size : t ≡ entries (upper cols)
  pub few : t ≤ 4194304
  pub tree_room : n ≤ length out.tree
  pub up_room : n + 1 ≤ length out.up
  pub ui_room : t ≤ length out.ui
  pub lp_room : n + 1 ≤ length out.lp
  pub li_room : t ≤ length out.li

-- a column of L was looked at: it agrees, and `next` has gone on, or a place differs from what belongs there
pub record Looked {k : ℕ} {rows next li : List ℕ} (s : Spread k rows next li) (r : Bool) (next1 li1 : List ℕ) : Type 0 where
  pub agrees : r ≡ true → Put k rows next li s next1 li1 (length rows)
  pub differs : r ≡ false → false ≡ starts_with (by_key s.n s.keys s.xs) li1

-- the tree and U are held, and U has no more than 4,194,304 entries
pub record Known (cols : List (List ℕ)) (tr up ui : List ℕ) : Type 0 where
  pub tree_same : starts_with (tree cols) tr ≡ true
  pub holds : Holds cols up ui
  pub few : entries (upper cols) ≤ 4194304

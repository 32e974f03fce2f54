-- The columns of U and of L, and how an analysis holds them: document 01, "Pattern". Assumes nothing.
use Rattle.std.specs.Prelude.{true, false, ℕ, zero, suc, ◌+◌, leb, length, get_or}
use mathlib.Core.List.{List, [], ◌∷◌, ◌++◌, flatten}
use Rattle.lists.specs.Folds.{along}
use Rattle.lists.specs.Order.{lists}
use Rattle.lists.specs.Tables.{table}
use Rattle.cs_tree.specs.Tree.{root, tree}

-- ---- U
-- climb by parents from i while at most k and not yet listed
unfoldable pub path : ℕ → List ℕ → ℕ → ℕ → List ℕ → List ℕ
unfolding lists
path zero par k i seen = []
path (suc f) par k i seen = elim (leb i k) [
  | true ↦ elim (lists i seen) [ true ↦ [] | false ↦ i ∷ path f par k (get_or par i root) seen ]
  | false ↦ []
]

-- for each stored row of column k in order; each new path is put in front of the older ones
unfoldable pub paths : List ℕ → ℕ → List ℕ → List ℕ → List ℕ
unfolding path along
paths par k rows older = along (λ i older. path (suc k) par k i older ++ older) rows older

-- column k of U
unfoldable pub upper_column : List (List ℕ) → ℕ → List ℕ
unfolding tree paths
upper_column cols k = paths (tree cols) k (get_or cols k []) []

unfoldable pub upper : List (List ℕ) → List (List ℕ)
unfolding upper_column
upper cols = table (length cols) (upper_column cols)

-- ---- L
-- the columns that hold row j; those given are numbered k and up
unfoldable pub across : ℕ → ℕ → List (List ℕ) → List ℕ
unfolding lists
across j k [] = []
across j k (c ∷ cs) = elim (lists j c) [ true ↦ k ∷ across j (suc k) cs | false ↦ across j (suc k) cs ]

unfoldable pub transposed : List (List ℕ) → List (List ℕ)
unfolding across
transposed us = table (length us) (λ j. across j 0 us)

unfoldable pub lower : List (List ℕ) → List (List ℕ)
unfolding upper transposed
lower cols = transposed (upper cols)

-- ---- an analysis: tree, pointers and rows of U, pointers and rows of L
-- pointers: where each column starts, the first at s, and where the last ends
unfoldable pub starts : ℕ → List (List ℕ) → List ℕ
starts s [] = s ∷ []
starts s (c ∷ cs) = s ∷ starts (s + length c) cs

-- how many entries there are
unfoldable pub entries : List (List ℕ) → ℕ
entries [] = 0
entries (c ∷ cs) = length c + entries cs

pub record Analysis : Type 0 where
  pub tree : List ℕ
  pub up : List ℕ
  pub ui : List ℕ
  pub lp : List ℕ
  pub li : List ℕ

abbrev pub analysis : List ℕ → List ℕ → List ℕ → List ℕ → List ℕ → Analysis
analysis tree up ui lp li = record { tree = tree; up = up; ui = ui; lp = lp; li = li }

unfoldable pub analysed : List (List ℕ) → Analysis
unfolding tree upper lower starts
analysed cols = analysis (tree cols) (starts 0 (upper cols)) (flatten (upper cols)) (starts 0 (lower cols)) (flatten (lower cols))

-- What the steps of the calls ask and leave, on plain lists. Assumes nothing.
use Rattle.std.specs.Prelude.{◌≡◌, ℕ, suc, ◌+◌, ◌≤◌, ◌<◌, eqb, length, get_or, take, replicate}
use mathlib.Core.List.{List, [], ◌∷◌, ◌++◌, flatten, Memᴰ}
use Rattle.lists.specs.Keys.{by_key}
use Rattle.lists.specs.Order.{lists, Once}
use Rattle.lists.proofs.Scattering.{Scatter, Scattering}
use Rattle.cs_tree.specs.Tree.{tree}
use Rattle.cs_tree.specs.Pattern.{path, entries}

-- each parent, or noted ancestor, is above its index; the root's mark is too
pub record Above (l : List ℕ) : Type 0 where
  pub up : (i : ℕ) → i < length l → i < get_or l i 0

-- a climb in column k
pub record Climbs (k : ℕ) (par anc : List ℕ) : Type 0 where
  pub p_long : k ≤ length par
  pub a_long : k ≤ length anc
  pub above : Above anc

-- the indices listed in a column that k columns came before are marked by k + 1, and no mark is above that
pub record Marks (k : ℕ) (mark listed : List ℕ) : Type 0 where
  pub at : (i : ℕ) → i < length mark → eqb (get_or mark i 0) (k + 1) ≡ lists i listed
  pub most : (i : ℕ) → i < length mark → get_or mark i 0 ≤ k + 1

-- a walk by parents in column k
pub record Walks (k : ℕ) (par mark : List ℕ) : Type 0 where
  pub small : k < 65535
  pub p_long : k < length par
  pub m_long : k < length mark
  pub above : Above par

-- the path that a row adds to column k, with the list `older` before it
abbrev pub way : ℕ → List ℕ → ℕ → List ℕ → List ℕ
way k par row older = path (suc k) par k row older

-- that path's length, and the marks, by s + 1, once it is listed too
pub record Walked (s k : ℕ) (par : List ℕ) (row : ℕ) (older : List ℕ) (len : ℕ) (mark : List ℕ) : Type 0 where
  pub is : len ≡ length (way k par row older)
  pub marks : Marks s mark (way k par row older ++ older)

-- what `trace` asks: a list that the marks stand for, and room for the way that a row adds to it
pub record Roomy (s k : ℕ) (par : List ℕ) (row : ℕ) (mark out : List ℕ) : Type 0 where
  pub older : List ℕ
  pub marks : Marks s mark older
  pub room : length (way k par row older) ≤ length out

-- and what it leaves: the way stands in the front of out
pub record Traced (s k : ℕ) (par : List ℕ) (row : ℕ) (older : List ℕ) (len : ℕ) (mark out : List ℕ) : Type 0 where
  pub walked : Walked s k par row older len mark
  pub listed : take len out ≡ way k par row older

-- how long each column is
unfoldable pub lengths : List (List ℕ) → List ℕ
lengths [] = []
lengths (c ∷ cs) = length c ∷ lengths cs

-- the column of each entry, the columns numbered b and up
unfoldable pub numbers : ℕ → List (List ℕ) → List ℕ
numbers b [] = []
numbers b (c ∷ cs) = replicate (length c) b ++ numbers (suc b) cs

-- the tree is known
pub record Given (cols : List (List ℕ)) (par : List ℕ) : Type 0 where
  pub small : length cols ≤ 65535
  pub par_is : par ≡ tree cols

-- the front of a slice has the columns' pointers
pub record Pointed (us : List (List ℕ)) (up : List ℕ) : Type 0 where
  pub long : length us < length up
  pub at : (k : ℕ) → k ≤ length us → get_or up k 0 ≡ entries (take k us)

-- column k of U, its rows being next among the entries that are put by their rows into li: `next` has the next place of each
pub record Spread (k : ℕ) (rows next li : List ℕ) : Type 0 where
  pub n : ℕ
  pub keys : List ℕ
  pub xs : List ℕ
  pub next₀ : List ℕ
  pub li₀ : List ℕ
  pub at : ℕ
  pub is : Scattering 0 n keys xs next₀ li₀ next li at
  pub few : length (by_key n keys xs) ≤ 4194304
  pub end : at + length rows ≤ length keys
  pub keyed : (q : ℕ) → q < length rows → get_or keys (at + q) 0 ≡ get_or rows q 0
  pub numbered : (q : ℕ) → q < length rows → get_or xs (at + q) 0 ≡ k

-- where the entries are put, once q of its rows are
abbrev pub Put : (k : ℕ) (rows next li : List ℕ) → Spread k rows next li → List ℕ → List ℕ → ℕ → Type 0
Put k rows next li s next1 li1 q = Scattering 0 s.n s.keys s.xs s.next₀ s.li₀ next1 li1 (s.at + q)

-- all columns of U, laid out in ui, to be put by their rows into li
pub record Spreads (n : ℕ) (up ui next li : List ℕ) : Type 0 where
  pub us : List (List ℕ)
  pub count : length us ≡ n
  pub pointed : Pointed us up
  pub few : entries us ≤ 4194304
  pub room : entries us ≤ length ui
  pub laid : (q : ℕ) → q < entries us → get_or ui q 0 ≡ get_or (flatten us) q 0
  pub ready : Scatter n (flatten us) (numbers 0 us) next li

-- U whole: its columns, laid out in ui with their pointers in up, t entries in all
pub record Whole (n t : ℕ) (up ui : List ℕ) : Type 0 where
  pub us : List (List ℕ)
  pub small : n ≤ 65535
  pub count : length us ≡ n
  pub once : (k : ℕ) → Once (get_or us k [])
  pub below : (k x : ℕ) → Memᴰ x (get_or us k []) → x < n
  pub pointed : Pointed us up
  pub size : t ≡ entries us
  pub few : t ≤ 4194304
  pub room : t ≤ length ui
  pub laid : (q : ℕ) → q < entries us → get_or ui q 0 ≡ get_or (flatten us) q 0

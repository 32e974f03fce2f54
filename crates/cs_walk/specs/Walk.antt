-- A walk over one column: document 01, "A walker over one column of a lent matrix". Assumes nothing.
use Rattle.std.specs.Prelude.{not, cond, ◌≡◌, ℕ, zero, suc, ◌+◌, eqb, Float, length, take, drop, replicate, Option, Some, None, Result, Ok, Err}
use mathlib.Core.List.{List, [], ◌∷◌, ◌++◌, map, flatten}
use Rattle.lists.specs.Calls.{lowest, disagree}
use Rattle.lists.specs.Choices.{some}
use Rattle.lists.specs.declared.refusal.Refusal.{Refusal}
use Rattle.lists.specs.declared.refusal.Refusal.TheVariants.{Disagree}
use Rattle.cs_walk.specs.declared.column_entries.ColumnEntries.{ColumnEntries}
use Rattle.cs_walk.specs.declared.column_entries.Step.{Step}

-- row and value parts of equal length, else 2
unfoldable pub number : List ℕ → List Float → ℕ
number i v = lowest (disagree (not (eqb (length i) (length v))))

-- the answer with that number
unfoldable pub checked : List ℕ → List Float → Result Unit Refusal
checked i v = cond (eqb (length i) (length v)) (Ok tt) (Err Disagree)

-- the pairs of a row part and a value part, in order
unfoldable pub pairs : List ℕ → List Float → List (ℕ × Float)
pairs [] v = []
pairs (r ∷ i) [] = []
pairs (r ∷ i) (x ∷ v) = (r, x) ∷ pairs i v

-- what a walk over the parts gives: their pairs; none where the number is not 0
unfoldable pub given : List ℕ → List Float → List (ℕ × Float)
given i v = cond (eqb (number i v) 0) (pairs i v) []

-- what is left of it from a position on
unfoldable pub left : ℕ → List ℕ → List Float → List (ℕ × Float)
left curr i v = drop curr (given i v)

-- what an entry tells in document 01's words: a row and its value, or at the end nothing
unfoldable pub told : Option (ℕ × Float) → List (ℕ × Float)
told (Some e) = e ∷ []
told None = []

-- the first of what is left, or the end
unfoldable pub first : List (ℕ × Float) → Option (ℕ × Float)
first [] = None
first (e ∷ l) = Some e

-- the position behind it; at the end it stays
unfoldable pub after : ℕ → List ℕ → List Float → ℕ
after curr i v = cond (some (left curr i v)) (curr + 1) curr

-- one step of a walk
abbrev pub step : ℕ → List ℕ → List Float → Step
step curr i v = record { answer = checked i v; entry = first (left curr i v); curr = after curr i v; left = length (left (after curr i v) i v) }

-- the same of a walker
abbrev pub walked : ColumnEntries → List (ℕ × Float)
walked w = left w.curr w.i.now w.v.now

abbrev pub moved : ColumnEntries → ColumnEntries
moved w = record { curr = after w.curr w.i.now w.v.now; i = w.i; v = w.v }

-- what n calls give, one after the other
unfoldable pub gives : ℕ → ColumnEntries → List (Option (ℕ × Float))
gives zero w = []
gives (suc n) w = first (walked w) ∷ gives n (moved w)

-- what n calls tell
abbrev pub tells : ℕ → ColumnEntries → List (ℕ × Float)
tells n w = flatten (map told (gives n w))

-- a walk over the whole: the pairs in order, then the end for ever; and the pairs are the two parts, side by side
pub record Whole (i : List ℕ) (v : List Float) (w : ColumnEntries) : Type 0 where
  pub in_order : (m : ℕ) → gives (length (given i v) + m) w ≡ map Some (given i v) ++ replicate m None
  pub as_told : (n : ℕ) → tells n w ≡ take n (given i v)
  pub only_end : number i v ≡ 2 → given i v ≡ []
  pub rows : number i v ≡ 0 → map (λ e. e.0) (given i v) ≡ i
  pub values : number i v ≡ 0 → map (λ e. e.1) (given i v) ≡ v

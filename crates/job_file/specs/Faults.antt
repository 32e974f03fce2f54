-- What the records so far have said, and the number of a record where it stands: document 01, "Job file". The order of an edition
-- is `turn` and `complete`; everything else holds of whatever records an edition has. Assumes nothing.
use Rattle.std.specs.Prelude.{Bool, true, false, not, ◌&&◌, ◌||◌, List, [], ◌∷◌, ℕ, ltb, leb, eqb, Float, length}
use Rattle.lists.specs.Calls.{lowest}
use Rattle.job_file.specs.Records.{Record, SZ, EN, RH, GO, Wrong}

-- how far the file has come
pub record Place : Type 0 where
  -- 0 before SZ, 1 after it, 2 after GO
  pub stage : ℕ
  -- one more than the row of the last RH
  pub next : ℕ

-- the entries, in the order given
pub record Entries : Type 0 where
  pub rows : List ℕ
  pub columns : List ℕ
  pub values : List Float

pub record Job : Type 0 where
  pub place : Place
  pub n : ℕ
  pub count : ℕ
  pub entries : Entries
  -- the dense right side
  pub right : List Float
  -- 1 left, 2 up
  pub engine : ℕ

-- ---- the order: one SZ, count EN, none or more RH, one GO, the end
-- every entry that SZ announced has come
unfoldable pub complete : Job → Bool
complete j = eqb (length j.entries.rows) j.count

-- it is this record's turn
unfoldable pub turn : Job → Record → Bool
turn j (SZ n count) = eqb j.place.stage 0
turn j (EN row column bits) = eqb j.place.stage 1 && not (complete j)
turn j (RH row bits) = eqb j.place.stage 1 && complete j
turn j (GO engine) = eqb j.place.stage 1 && complete j
turn j Wrong = false

-- ---- the faults of a record
-- 12: no known mark, too short, or a GO byte other than 1 and 2
unfoldable pub malformed : Record → Bool
malformed (SZ n count) = false
malformed (EN row column bits) = false
malformed (RH row bits) = false
malformed (GO engine) = not (eqb engine 1 || eqb engine 2)
malformed Wrong = true

-- 1: a size over its maximum
unfoldable pub oversized : Record → Bool
oversized (SZ n count) = ltb 256 n || ltb 2048 count
oversized (EN row column bits) = false
oversized (RH row bits) = false
oversized (GO engine) = false
oversized Wrong = false

-- 4: a row or column number too large
unfoldable pub outside : ℕ → Record → Bool
outside n (SZ m count) = false
outside n (EN row column bits) = leb n row || leb n column
outside n (RH row bits) = leb n row
outside n (GO engine) = false
outside n Wrong = false

-- 5: RH rows that do not rise
unfoldable pub fallen : Place → Record → Bool
fallen p (SZ n count) = false
fallen p (EN row column bits) = false
fallen p (RH row bits) = ltb row p.next
fallen p (GO engine) = false
fallen p Wrong = false

-- the place is among those of these lists
unfoldable pub given : ℕ → ℕ → List ℕ → List ℕ → Bool
given row column [] ys = false
given row column (x ∷ xs) [] = false
given row column (x ∷ xs) (y ∷ ys) = (eqb x row && eqb y column) || given row column xs ys

-- 9: an EN place given before
unfoldable pub repeated : Entries → Record → Bool
repeated e (SZ n count) = false
repeated e (EN row column bits) = given row column e.rows e.columns
repeated e (RH row bits) = false
repeated e (GO engine) = false
repeated e Wrong = false

-- the number of a record where it stands, 0 for none: first 12, which is also given where it is not this record's turn
unfoldable pub fault : Job → Record → ℕ
fault j r = lowest ((12, malformed r || not (turn j r)) ∷ (1, oversized r) ∷ (4, outside j.n r) ∷ (5, fallen j.place r) ∷ (9, repeated j.entries r)
    ∷ [])

-- the number where the file ends: 12 before GO
unfoldable pub at_end : Job → ℕ
at_end j = lowest ((12, not (eqb j.place.stage 2)) ∷ [])

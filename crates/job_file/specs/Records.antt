-- The records of a job file, each told by its two-byte mark: document 01, "Job file". A value stays the number of its eight bytes.
-- Assumes nothing.
use Rattle.std.specs.Prelude.{Bool, cond, ◌&&◌, List, [], ◌∷◌, ℕ, zero, suc, ◌-◌, leb, eqb, length, drop}
use Rattle.little.specs.Little.{little}

pub data Record : Type 0 where
  SZ : (n count : ℕ) → Record
  EN : (row column bits : ℕ) → Record
  RH : (row bits : ℕ) → Record
  GO : (engine : ℕ) → Record
  -- no known mark, or cut short
  Wrong : Record

-- how many bytes a record takes; behind a wrong one nothing counts
unfoldable pub size : Record → ℕ
size (SZ n count) = 10
size (EN row column bits) = 18
size (RH row bits) = 14
size (GO engine) = 3
size Wrong = 1

-- s begins with this mark, and is long enough for its record
unfoldable pub begins : ℕ → ℕ → List ℕ → Bool
begins mark long s = eqb (little 2 s) mark && leb long (length s)

-- the record that s begins with; a mark is its two letters as a number
unfoldable pub first : List ℕ → Record
first s =
    cond (begins 0x5A53 10 s) (SZ (little 4 (drop 2 s)) (little 4 (drop 6 s)))
    (cond (begins 0x4E45 18 s) (EN (little 4 (drop 2 s)) (little 4 (drop 6 s)) (little 8 (drop 10 s)))
    (cond (begins 0x4852 14 s) (RH (little 4 (drop 2 s)) (little 8 (drop 6 s)))
    (cond (begins 0x4F47 3 s) (GO (little 1 (drop 2 s)))
    Wrong)))

-- the records of s, past k bytes that belong to the record before
unfoldable pub records_past : ℕ → List ℕ → List Record
records_past k [] = []
records_past (suc k) (b ∷ s) = records_past k s
records_past zero (b ∷ s) = first (b ∷ s) ∷ records_past (size (first (b ∷ s)) - 1) s

unfoldable pub records : List ℕ → List Record
records s = records_past 0 s

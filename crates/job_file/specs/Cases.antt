-- Worked cases: the definitions compute the whole case of document 01, and files that each number refuses. Assumes nothing.
use Rattle.std.specs.Prelude.{◌≡◌, refl, List, [], ◌∷◌, ◌++◌, map, ℕ, take}
use Rattle.std.specs.Float.{binary64}
use Rattle.std.specs.Float.Ieee.{to_bits, of_bits}
use Rattle.little.specs.Little.{little}
use Rattle.job_file.specs.Records.{first, begins, size, records, records_past}
use Rattle.job_file.specs.Faults.{fault, turn, malformed, oversized, outside, fallen, repeated, complete, given, at_end}
use Rattle.job_file.specs.Reading.{Outcome, read_file, reads, taken, with_entry}

abbrev SZ1 : List ℕ
SZ1 = 0x53 ∷ 0x5A ∷ 1 ∷ 0 ∷ 0 ∷ 0 ∷ 1 ∷ 0 ∷ 0 ∷ 0 ∷ []

abbrev EN1 : List ℕ
EN1 = 0x45 ∷ 0x4E ∷ 0 ∷ 0 ∷ 0 ∷ 0 ∷ 0 ∷ 0 ∷ 0 ∷ 0 ∷ 0 ∷ 0 ∷ 0 ∷ 0 ∷ 0 ∷ 0 ∷ 0x10 ∷ 0x40 ∷ []

abbrev RH1 : List ℕ
RH1 = 0x52 ∷ 0x48 ∷ 0 ∷ 0 ∷ 0 ∷ 0 ∷ 0 ∷ 0 ∷ 0 ∷ 0 ∷ 0 ∷ 0 ∷ 0 ∷ 0x40 ∷ []

abbrev GO1 : List ℕ
GO1 = 0x47 ∷ 0x4F ∷ 1 ∷ []

abbrev whole : List ℕ
whole = SZ1 ++ (EN1 ++ (RH1 ++ GO1))

-- number, n, count, engine, rows, columns, values, right side
abbrev said : Outcome → List ℕ
said o =
    o.number ∷ o.job.n ∷ o.job.count ∷ o.job.engine
    ∷ (o.job.entries.rows ++ (o.job.entries.columns ++ (map (to_bits binary64) o.job.entries.values ++ map (to_bits binary64) o.job.right)))

pub whole_case : said (read_file whole) ≡ 0 ∷ 1 ∷ 1 ∷ 1 ∷ 0 ∷ 0 ∷ 0x4010_0000_0000_0000 ∷ 0x4000_0000_0000_0000 ∷ []
unfolding read_file reads records records_past first begins size little fault turn malformed oversized outside fallen repeated taken with_entry complete given at_end to_bits of_bits
whole_case = refl

abbrev numbers : List (List ℕ) → List ℕ
numbers fs = map (λ f. (read_file f).number) fs

-- cut short; EN missing; a byte behind GO; two RH of one row; EN outside; sizes; a place twice
pub refused :
    numbers
    (take 44 whole
    ∷ (SZ1 ++ (RH1 ++ GO1))
    ∷ (whole ++ (0 ∷ []))
    ∷ (SZ1 ++ (EN1 ++ (RH1 ++ (RH1 ++ GO1))))
    ∷ (SZ1 ++ (0x45 ∷ 0x4E ∷ 1 ∷ 0 ∷ 0 ∷ 0 ∷ 0 ∷ 0 ∷ 0 ∷ 0 ∷ 0 ∷ 0 ∷ 0 ∷ 0 ∷ 0 ∷ 0 ∷ 0x10 ∷ 0x40 ∷ []))
    ∷ (0x53 ∷ 0x5A ∷ 1 ∷ 1 ∷ 0 ∷ 0 ∷ 1 ∷ 0 ∷ 0 ∷ 0 ∷ [])
    ∷ ((0x53 ∷ 0x5A ∷ 1 ∷ 0 ∷ 0 ∷ 0 ∷ 2 ∷ 0 ∷ 0 ∷ 0 ∷ []) ++ (EN1 ++ EN1))
    ∷ [])
    ≡ 12 ∷ 12 ∷ 12 ∷ 5 ∷ 4 ∷ 1 ∷ 9 ∷ []
unfolding read_file reads records records_past first begins size little fault turn malformed oversized outside fallen repeated taken with_entry complete given at_end to_bits of_bits
refused = refl

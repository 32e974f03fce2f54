-- What a job file says, record by record, up to the first faulty one: document 01, "Job file". Assumes nothing.
use Rattle.std.specs.Prelude.{true, false, List, [], ◌∷◌, ◌++◌, ℕ, ◌+◌, eqb, Float, replicate, set}
use Rattle.std.specs.Float.{binary64}
use Rattle.std.specs.Float.Ieee.{of_bits}
use Rattle.lists.specs.Calls.{none}
use Rattle.job_file.specs.Records.{Record, SZ, EN, RH, GO, Wrong, records}
use Rattle.job_file.specs.Faults.{Place, Entries, Job, fault, at_end}

abbrev pub place : ℕ → ℕ → Place
place stage next = record { stage = stage; next = next }

abbrev pub entries : List ℕ → List ℕ → List Float → Entries
entries rows columns values = record { rows = rows; columns = columns; values = values }

abbrev pub empty : Job
empty = record { place = place 0 0; n = 0; count = 0; entries = entries [] [] []; right = []; engine = 0 }

-- one entry more
unfoldable pub with_entry : Entries → ℕ → ℕ → ℕ → Entries
with_entry e row column bits = entries (e.rows ++ (row ∷ [])) (e.columns ++ (column ∷ [])) (e.values ++ (of_bits binary64 bits ∷ []))

-- what a record adds. Rows of the right side that no RH names are +0.0
unfoldable pub taken : Job → Record → Job
taken j (SZ n count) =
    record { place = place 1 j.place.next; n = n; count = count; entries = j.entries; right = replicate n none; engine = j.engine }
taken j (EN row column bits) =
    record { place = j.place; n = j.n; count = j.count; entries = with_entry j.entries row column bits; right = j.right; engine = j.engine }
taken j (RH row bits) =
    record {
      place = place j.place.stage (row + 1);
      n = j.n;
      count = j.count;
      entries = j.entries;
      right = set j.right row (of_bits binary64 bits);
      engine = j.engine;
    }
taken j (GO engine) =
    record { place = place 2 j.place.next; n = j.n; count = j.count; entries = j.entries; right = j.right; engine = engine }
taken j Wrong = j

-- the number, 0 for a sound file, and what the records before the faulty one said
pub record Outcome : Type 0 where
  pub number : ℕ
  pub job : Job

-- the first faulty record decides
unfoldable pub reads : List Record → Job → Outcome
reads [] j = record { number = at_end j; job = j }
reads (r ∷ rs) j = elim (eqb (fault j r) 0) [ true ↦ reads rs (taken j r) | false ↦ record { number = fault j r; job = j } ]

unfoldable pub read_file : List ℕ → Outcome
read_file s = reads (records s) empty

-- What the reader leaves in the arrays lent to it, and what it answers. Assumes nothing.
use Rattle.std.specs.Prelude.{◌≡◌, List, ℕ, ◌≤◌, Float, Result, Ok, Err, length}
use Rattle.lists.specs.Calls.{onto}
use Rattle.lists.specs.Refusals.{number_of}
use Rattle.job_file.specs.Faults.{Job}
use Rattle.job_file.specs.Reading.{Outcome}
use Rattle.job_file.specs.declared.read.Sound.{Sound}
use Rattle.job_file.specs.declared.read.Fault.{Fault}
use Rattle.job_file.specs.Told.{byte, place_of, engine_of}

pub record Arrays : Type 0 where
  pub rows : List ℕ
  pub columns : List ℕ
  pub values : List Float
  pub right : List Float

abbrev pub arrays : List ℕ → List ℕ → List Float → List Float → Arrays
arrays rows columns values right = record { rows = rows; columns = columns; values = values; right = right }

-- a job in the front of the arrays, the rest as it was
unfoldable pub laid : Job → Arrays → Arrays
laid j old = arrays (onto old.rows j.entries.rows) (onto old.columns j.entries.columns) (onto old.values j.entries.values) (onto old.right j.right)

-- the answer in numbers
pub record Numbers : Type 0 where
  pub stage : ℕ
  pub n : ℕ
  pub count : ℕ
  pub entries : ℕ
  pub next : ℕ
  pub engine : ℕ

pub record Said : Type 0 where
  pub number : ℕ
  pub head : Numbers

abbrev pub said : Result Sound Fault → Said
said (Ok s) =
    record {
      number = 0;
      head = record { stage = 2; n = s.n; count = s.count; entries = s.entries; next = s.next; engine = byte s.engine };
    }
said (Err f) =
    let h = f.head in
    record {
      number = number_of f.refusal;
      head = record {
        stage = place_of h.stage;
        n = h.n;
        count = h.count;
        entries = h.entries;
        next = h.next;
        engine = engine_of h.stage;
      };
    }

-- the number, and the job's own numbers
abbrev pub head_of : Job → Numbers
head_of j = record { stage = j.place.stage; n = j.n; count = j.count; entries = length j.entries.rows; next = j.place.next; engine = j.engine }

abbrev pub answered : Outcome → Said
answered o = record { number = o.number; head = head_of o.job }

-- what the later stages may count on, fault or not
pub record Within (j : Job) : Type 0 where
  pub n : j.n ≤ 256
  pub entries : length j.entries.rows ≤ 2048
  pub columns : length j.entries.columns ≡ length j.entries.rows
  pub values : length j.entries.values ≡ length j.entries.rows
  pub right : length j.right ≡ j.n

-- How the reader holds a job while it reads: numbers in a head, lists in the front of the arrays. Assumes nothing.
use Rattle.std.specs.Prelude.{◌≡◌, ℕ, ◌≤◌, length, take, drop}
use Rattle.job_file.specs.declared.read.Head.{Head}
use Rattle.job_file.specs.Records.{Record}
use Rattle.job_file.specs.Faults.{Job, fault}
use Rattle.job_file.specs.Reading.{place, entries, taken}
use Rattle.job_file.specs.Arrays.{Arrays}
use Rattle.job_file.specs.Told.{place_of, engine_of}

abbrev pub held_by : Head → Arrays → Job
held_by h l =
    record {
      place = place (place_of h.stage) h.next;
      n = h.n;
      count = h.count;
      entries = entries (take h.entries l.rows) (take h.entries l.columns) (take h.entries l.values);
      right = take h.n l.right;
      engine = engine_of h.stage;
    }

-- room for the maxima
pub record Room (l : Arrays) : Type 0 where
  pub rows : 2048 ≤ length l.rows
  pub columns : 2048 ≤ length l.columns
  pub values : 2048 ≤ length l.values
  pub right : 256 ≤ length l.right

-- the job is within the maxima, and there is room for them
pub record Fits (h : Head) (l : Arrays) : Type 0 where
  pub room : Room l
  pub n : h.n ≤ 256
  pub count : h.count ≤ 2048
  pub entries : h.entries ≤ h.count
  pub fresh : place_of h.stage ≡ 0 → (h.n ≡ 0) × (h.entries ≡ 0)

-- behind the job, new is as old
pub record Behind (h : Head) (old new : Arrays) : Type 0 where
  pub rows : drop h.entries new.rows ≡ drop h.entries old.rows
  pub columns : drop h.entries new.columns ≡ drop h.entries old.columns
  pub values : drop h.entries new.values ≡ drop h.entries old.values
  pub right : drop h.n new.right ≡ drop h.n old.right

-- x and new hold the job that h and old held, and the record r
pub record Kept (h : Head) (old : Arrays) (r : Record) (x : Head) (new : Arrays) : Type 0 where
  pub is : held_by x new ≡ taken (held_by h old) r
  pub fits : Fits x new
  pub behind : Behind x old new
  pub more : h.entries ≤ x.entries
  pub wider : h.n ≤ x.n

-- x is the number of the record r where the head h stands, whatever the arrays hold
pub record Judged (h : Head) (r : Record) (x : ℕ) : Type 0 where
  pub is : (l : Arrays) → h.entries ≤ length l.rows → x ≡ fault (held_by h l) r

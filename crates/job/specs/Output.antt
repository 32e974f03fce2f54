-- The answer of a job file, as bytes: read, work, write. Assumes nothing.
use Rattle.std.specs.Prelude.{List, ℕ}
use Rattle.job_file.specs.Reading.{Outcome, read_file}
use Rattle.job_answer.specs.Lines.{text, lines}
use Rattle.job.specs.Run.{Result, after, triplets_of, worked}

-- after a sound file the numbers of the calls made apply
unfoldable pub result_of : Outcome → Result
result_of o = after o.number 0 (worked o.job.engine (triplets_of o.job) o.job.right)

unfoldable pub written : Result → List ℕ
written r = text (lines r.number r.column r.x)

unfoldable pub output : List ℕ → List ℕ
output s = written (result_of (read_file s))

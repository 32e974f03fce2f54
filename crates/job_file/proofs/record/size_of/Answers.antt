-- `size_of` meets its contract. Assumes nothing.
use Rattle.job_file.specs.Told.{told}
use Rattle.job_file.specs.Records.{size}
use Rattle.job_file.specs.declared.record.Found.{Found}
use mathlib.Core.Path.{sym, ap}
use Rattle.job_file.proofs.record.size_of.Goals as goal

pub returns-in-Size : goal.returns-in-Size
unfolding size
returns-in-Size c = sym (ap (λ (x : Found). size (told x)) c.in-Size.is)

pub returns-in-Entry : goal.returns-in-Entry
unfolding size
returns-in-Entry c = sym (ap (λ (x : Found). size (told x)) c.in-Entry.is)

pub returns-in-Right : goal.returns-in-Right
unfolding size
returns-in-Right c = sym (ap (λ (x : Found). size (told x)) c.in-Right.is)

pub returns-in-Go : goal.returns-in-Go
unfolding size
returns-in-Go c = sym (ap (λ (x : Found). size (told x)) c.in-Go.is)

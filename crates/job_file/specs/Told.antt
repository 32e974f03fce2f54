-- The reader's own kinds by the numbers of document 01, and what it finds at a place of the file as a record. Assumes nothing.
use Rattle.std.specs.Prelude.{ℕ}
use Rattle.job_file.specs.declared.read.Engine.{Engine}
use Rattle.job_file.specs.declared.read.Engine.TheVariants.{Left, Up}
use Rattle.job_file.specs.declared.read.Stage.{Stage}
use Rattle.job_file.specs.declared.read.Stage.TheVariants.{Start, Sized, Ended}
use Rattle.job_file.specs.declared.record.Found.{Found}
use Rattle.job_file.specs.declared.record.Found.TheVariants.{Size, Entry, Right, Go}
use Rattle.job_file.specs.Records.{Record}

-- GO's byte
abbrev pub byte : Engine → ℕ
byte Left = 1
byte Up = 2

-- 0 before SZ, 1 after it, 2 after GO
abbrev pub place_of : Stage → ℕ
place_of Start = 0
place_of Sized = 1
place_of (Ended engine) = 2

-- the byte of GO, 0 before it
abbrev pub engine_of : Stage → ℕ
engine_of Start = 0
engine_of Sized = 0
engine_of (Ended engine) = byte engine

abbrev pub told : Found → Record
told (Size n count) = Record.SZ n count
told (Entry row column bits) = Record.EN row column bits
told (Right row bits) = Record.RH row bits
told (Go engine) = Record.GO (byte engine)

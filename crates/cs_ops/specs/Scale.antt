-- Scaling: document 01, "Scaling multiplies each value by s, in place." Assumes nothing.
use Rattle.std.specs.Prelude.{List, map, Float}
use Rattle.std.specs.Float.{binary64}
use Rattle.std.specs.Float.Ieee.{mul}

-- one value times s
unfoldable pub times : Float → Float → Float
unfolding mul
times s v = mul binary64 v s

-- each value times s
unfoldable pub scaled : Float → List Float → List Float
unfolding times
scaled s l = map (times s) l

-- Little-endian numbers: a number's bytes, and the number in bytes. Where bytes are put, `sets` of the library says it: one after the
-- other from a place on, and none where the slice has no such place. Assumes nothing.
use Rattle.std.specs.Prelude.{List, [], ◌∷◌, ℕ, zero, suc, ◌+◌, ◌*◌, ◌%◌, ◌/◌}

-- the number in the first k bytes, the lowest byte first
unfoldable pub little : ℕ → List ℕ → ℕ
little zero s = 0
little (suc k) [] = 0
little (suc k) (b ∷ s) = b + 256 * little k s

-- the k bytes of x, the lowest first
unfoldable pub bytes : ℕ → ℕ → List ℕ
bytes zero x = []
bytes (suc k) x = x % 256 ∷ bytes k (x / 256)

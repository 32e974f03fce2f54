-- The definition yields the roots of E7 and E12. Assumes nothing.
use mathlib.Core.Path.{◌≡◌, refl}
use mathlib.Core.List.{map}
use Rattle.root.specs.Root.{root_bits}
use Rattle.root.specs.Examples.{Case, cases}

pub examples : map (λ (c : Case). root_bits c.of) cases ≡ map (λ (c : Case). c.says) cases
unfolding root_bits
examples = refl

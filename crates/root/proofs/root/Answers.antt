-- `root::root` meets its contract: what the bits of the answer stand for. Assumes nothing.
use mathlib.Core.Path.{sym, ap, subst, ◌∙◌}
use lib.Dec.{T}
use lib.Ieee.{binary64, fits}
use Rattle.root.specs.Root.{root_bits}
use Rattle.root.proofs.Patterns.{answers-value, from_bits}
use Rattle.root.proofs.root.Goals as goal

pub returns : goal.returns
returns c =
    let held : T (fits binary64 c.args.x) = subst T (sym c.well_formed.0.1) tt in
    let e = c.root_bits.ensures.0 ∙ ap root_bits c.bits_of.ensures in
    answers-value c.args.x _ held (c.of_bits.ensures ∙ from_bits c.args.x c.root_bits.result held e)

-- `float_bits::bits_of` meets its contract. Assumes nothing.
use mathlib.Core.Path.{sym, ◌∙◌}
use Rattle.float_bits.proofs.Nans.{nan_bits_lem}
use Rattle.float_bits.proofs.bits_of.Goals as goal

pub returns-then-is_nan : goal.returns-then-is_nan
returns-then-is_nan c = nan_bits_lem c.args.x (sym c.is_nan.ensures.value ∙ c.if-is_nan.true)

-- `float_bits::of_bits` meets its contract. Assumes nothing.
use native.Mathlib.Omega.{arith}
use Rattle.float_bits.proofs.Nans.{nan_read, no_nan_read}
use Rattle.float_bits.proofs.of_bits.Goals as goal

pub returns-then-n-gt9218868437227405312 : goal.returns-then-n-gt9218868437227405312
returns-then-n-gt9218868437227405312 c = nan_read c.args.n (omega arith)

pub float_from_bits-result : goal.float_from_bits-result
float_from_bits-result c = no_nan_read c.args.n (omega arith)

-- `root::near::closer` meets its contract. Assumes nothing.
use Prim.Native.Nat.{◌+◌, ◌^◌}
use native.Mathlib.Nat.{mul-le-mul}
use native.Mathlib.Omega.{arith}
use Rattle.root.proofs.near.closer.Goals as goal

pub overflow_mul-s : goal.overflow_mul-s
overflow_mul-s c = omega (
  arith,
  mul-le-mul {n₁ = c.args.s + 1} {m₁ = c.args.s + 1} {n₂ = 2 ^ 27} {m₂ = 2 ^ 27} (omega (arith, c.requires))
      (omega (arith, c.requires)),
)

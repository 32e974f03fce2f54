-- `root::near::near_root` meets its contract: the two tests say that the number is the largest. Assumes nothing.
use Prim.Native.Nat.{◌^◌}
use native.Mathlib.Nat.{mul-le-mul}
use native.Mathlib.Omega.{arith}
use Rattle.root.proofs.Nearest.{is_largest}
use Rattle.root.proofs.near.near_root.Goals as goal

pub overflow_mul-s : goal.overflow_mul-s
overflow_mul-s c = omega (
  arith,
  mul-le-mul {n₁ = c.closer-s.result} {m₁ = c.closer-s.result} {n₂ = 2 ^ 27} {m₂ = 2 ^ 27} c.closer-s.ensures
      c.closer-s.ensures,
)

pub returns-then-a-s : goal.returns-then-a-s
returns-then-a-s c = is_largest c.if-s-a.true c.if-a-s.true

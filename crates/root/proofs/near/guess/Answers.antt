-- `root::near::guess` meets its contract: its numbers fit. Assumes nothing.
use Prim.Native.Nat.{◌/◌, ◌^◌}
use native.Mathlib.Nat.{div-le_self}
use native.Mathlib.Omega.{arith}
use Rattle.root.proofs.near.guess.Goals as goal

pub overflow_add-b-2 : goal.overflow_add-b-2
overflow_add-b-2 c = omega (arith, c.requires, div-le_self c.args.a (2 ^ (c.args.a / 0x20_0000_0000_0000)))

pub overflow_sub-b : goal.overflow_sub-b
overflow_sub-b c = omega (arith, c.requires, div-le_self c.args.a (2 ^ (c.args.a / 0x20_0000_0000_0000)))

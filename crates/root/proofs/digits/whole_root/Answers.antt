-- `root::digits::whole_root` meets its contract: each turn keeps `Turn` of `Turns.antt`. Assumes nothing.
use native.Mathlib.Omega.{arith}
use Rattle.root.proofs.digits.Turns.{start, root-lt, fewer, same, found}
use Rattle.root.proofs.digits.whole_root.Goals as goal
use Rattle.root.proofs.digits.whole_root.Goals.{else-trial-rem, then-trial-rem}

pub loop-init : goal.loop-init
loop-init c = start _ c.requires

pub overflow_mul-rem : goal.overflow_mul-rem
overflow_mul-rem c = omega (arith, root-lt c.loop.invariant)

pub overflow_add-rem : goal.overflow_add-rem
overflow_add-rem c = omega (arith, root-lt c.loop.invariant)

pub overflow_mul-trial : goal.overflow_mul-trial
overflow_mul-trial c = omega (arith, root-lt c.loop.invariant)

pub overflow_add-trial : goal.overflow_add-trial
overflow_add-trial c = omega (arith, root-lt c.loop.invariant)

pub overflow_mul-root : goal.overflow_mul-root
overflow_mul-root c = omega (arith, root-lt c.loop.invariant)

pub overflow_add-root : goal.overflow_add-root
overflow_add-root c = omega (arith, root-lt c.loop.invariant)

pub overflow_mul-root-else-trial-rem : goal.overflow_mul-root-else-trial-rem
overflow_mul-root-else-trial-rem c = omega (arith, root-lt c.loop.invariant)

pub loop-preserved : goal.loop-preserved
loop-preserved c =
    let t = c.loop.invariant in
    elim c.if-trial-rem.branch [
      | then-trial-rem w ↦ rw (w.rem-is, w.root-is) (fewer t c.loop-test.true w.if-trial-rem.true)
      | else-trial-rem w ↦
          rw (w.rem-is, w.root-is) (same t c.loop-test.true w.if-trial-rem.false)
    ]

pub returns : goal.returns
returns c = found c.loop.invariant c.loop-test.false

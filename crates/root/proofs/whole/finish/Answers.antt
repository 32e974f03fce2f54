-- `root::whole::finish` meets its contract: `Sized` of `Division.antt` has what each step asks. Assumes nothing.
use native.Mathlib.Omega.{arith}
use Rattle.root.proofs.whole.Division.{sized, rounds_here, rounds_up}
use Rattle.root.proofs.whole.finish.Goals as goal

pub overflow_mul-n-2 : goal.overflow_mul-n-2
overflow_mul-n-2 c = omega (arith, ((sized c.requires.0 c.requires.1 c.requires.2)).over, ((sized c.requires.0 c.requires.1 c.requires.2)).most)

pub nonzero_div-q : goal.nonzero_div-q
nonzero_div-q c = omega (arith, ((sized c.requires.0 c.requires.1 c.requires.2)).least)

pub nonzero_rem-u : goal.nonzero_rem-u
nonzero_rem-u c = omega (arith, ((sized c.requires.0 c.requires.1 c.requires.2)).least)

pub overflow_mul-u : goal.overflow_mul-u
overflow_mul-u c = omega (arith, ((sized c.requires.0 c.requires.1 c.requires.2)).rest, ((sized c.requires.0 c.requires.1 c.requires.2)).most)

pub overflow_mul-root : goal.overflow_mul-root
overflow_mul-root c = omega (arith, ((sized c.requires.0 c.requires.1 c.requires.2)).most)

pub overflow_add-root : goal.overflow_add-root
overflow_add-root c = omega (arith, ((sized c.requires.0 c.requires.1 c.requires.2)).most, ((sized c.requires.0 c.requires.1 c.requires.2)).digits)

pub overflow_mul-q : goal.overflow_mul-q
overflow_mul-q c = omega (arith, ((sized c.requires.0 c.requires.1 c.requires.2)).square, ((sized c.requires.0 c.requires.1 c.requires.2)).digits)

pub overflow_add-root-2 : goal.overflow_add-root-2
overflow_add-root-2 c = omega (
  arith,
  ((sized c.requires.0 c.requires.1 c.requires.2)).most,
  ((sized c.requires.0 c.requires.1 c.requires.2)).digits,
  ((sized c.requires.0 c.requires.1 c.requires.2)).square,
)

pub overflow_add-result : goal.overflow_add-result
overflow_add-result c = omega (arith, ((sized c.requires.0 c.requires.1 c.requires.2)).most, ((sized c.requires.0 c.requires.1 c.requires.2)).digits)

pub returns-then-u-root : goal.returns-then-u-root
returns-then-u-root c = rounds_here c.requires.0 c.requires.1 c.requires.2 c.if-u-root.true

pub returns-else-u-root : goal.returns-else-u-root
returns-else-u-root c = rounds_up c.requires.0 c.requires.1 c.requires.2 c.if-u-root.false

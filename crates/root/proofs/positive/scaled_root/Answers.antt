-- `root::positive::scaled_root` meets its contract: `Ready` of `Scale.antt` has what each step asks. Assumes nothing.
use native.Mathlib.Omega.{arith}
use Rattle.root.proofs.positive.Scale.{ready}
use Rattle.root.proofs.positive.scaled_root.Goals as goal

pub overflow_sub-m : goal.overflow_sub-m
overflow_sub-m c = omega (arith, ready c.args.u c.args.x c.requires.0 c.requires.1 c.requires.2 c.requires.3)

pub overflow_shl-m : goal.overflow_shl-m
overflow_shl-m c = omega (arith, ready c.args.u c.args.x c.requires.0 c.requires.1 c.requires.2 c.requires.3)

pub rounded_root-a-requires : goal.rounded_root-a-requires
rounded_root-a-requires c = let r = ready c.args.u c.args.x c.requires.0 c.requires.1 c.requires.2 c.requires.3 in
    rw c.from-z.ensures (r.low, r.high)

pub overflow_add-result-2 : goal.overflow_add-result-2
overflow_add-result-2 c = let r = ready c.args.u c.args.x c.requires.0 c.requires.1 c.requires.2 c.requires.3 in
    let a = rw c.from-z.ensures at c.rounded_root-a.ensures in
    omega (arith, c.requires.3, a, r.digits)

pub returns : goal.returns
returns c = let r = ready c.args.u c.args.x c.requires.0 c.requires.1 c.requires.2 c.requires.3 in
    rw (c.rounded_root-a.ensures, c.from-z.ensures) r.is

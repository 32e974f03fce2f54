-- `copy`: the loop of proofs/Runs.antt. Assumes nothing.
use Rattle.std.proofs.Common.{subst, sym, slice_set, ◌+◌}
use Rattle.lists.proofs.Runs.{Zipping, zipping_start, zipping_turn, zipping_done}
use Rattle.lists.proofs.sides.copy.Goals as goal

pub loop-k-init : goal.loop-k-init
loop-k-init g c = zipping_start _ c.min-n.ensures

-- the element read is the list's own at that place, whatever would stand past the end
pub loop-k-preserved : goal.loop-k-preserved
loop-k-preserved g c =
    let x = c.index-from-k.result in
    subst (λ v. Zipping (λ _ v. v) c.args.from.now c.args.out.now c.min-n.result (slice_set c.loop-k.out c.loop-k.k v) (c.loop-k.k + 1))
    (sym c.index-from-k.is) (zipping_turn _ c.loop-k.invariant x x c.loop-k-test.true)

pub returns : goal.returns
returns g c = zipping_done _ c.loop-k.invariant c.loop-k-test.false

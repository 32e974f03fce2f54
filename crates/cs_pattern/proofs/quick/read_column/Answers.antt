-- `read_column` meets its contract. Assumes nothing.
use Rattle.cs_tree.proofs.Aiming.{backing_reads, backing_none}
use Rattle.std.proofs.Common.{suc, sym, true≢false, arith, eqb-true}
use Rattle.cs_tree.proofs.Past.{backing_past}
use Rattle.cs_tree.proofs.Backward.{backing_turn, backing_done}
use Rattle.lists.proofs.Laying.{part_long}
use Rattle.cs_pattern.proofs.quick.read_column.Goals as goal
use Rattle.cs_pattern.proofs.quick.read_column.Goals.{else-loop-row-test, then-loop-row-test+then-row-k}

pub returns-in_default : goal.returns-in_default
returns-in_default c = (
  λ z. absurd (true≢false (sym z)),
  λ e. absurd (omega (
    arith,
    backing_reads c.loop-row.invariant e c.loop-row-test.true {r = suc c.loop-row.top}
        (λ older g m d. absurd (true≢false (sym (c.in_default.ensures.1 older g m d)))),
  )),
)

pub loop-row-preserved : goal.loop-row-preserved
loop-row-preserved c = backing_turn c.loop-row.invariant c.loop-row-test.true c.read_row.auto.mark (λ older g l. c.in-Some.ensures.0.1 older g)
    (omega (arith, c.in-Some.ensures.0.0, part_long c.loop-row.top c.args.held.now c.loop-row.invariant.within))

pub returns : goal.returns
returns c = elim c.loop-row-test.branch [
  | else-loop-row-test w ↦
      (λ z. backing_done c.loop-row.invariant w.loop-row-test.false (eqb-true _ _ z), λ e. backing_none c.loop-row.invariant e w.loop-row-test.false)
  | then-loop-row-test+then-row-k w ↦
      let v = backing_past c.loop-row.invariant c.requires.3 w.if-row-k.true in
      (λ z. backing_done v (omega arith) (eqb-true _ _ z), λ e. backing_none v e (omega arith))
]

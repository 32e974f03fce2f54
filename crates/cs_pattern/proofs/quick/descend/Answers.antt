-- `descend` meets its contract. Assumes nothing.
use Rattle.cs_tree.proofs.Aiming.{aiming_start, aiming_some, aiming_stops, aiming_low, aiming_parent, aiming_new, aiming_turn}
use Rattle.lists.proofs.Bools.{not-both}
use Rattle.cs_tree.proofs.Backward.{descending_start, descending_turn, descending_found}
use Rattle.std.proofs.Common.{refl, arith, rules}
use Rattle.cs_pattern.proofs.quick.descend.Goals as goal
use Rattle.cs_pattern.proofs.quick.descend.Goals.{then-b-k-via-then-b-k, then-b-k-via-else-b-k+then-par-j}
use Rattle.cs_pattern.proofs.quick.descend.Goals.{then-b-k-via-else-b-k+else-par-j+then-mark-j}

pub returns-in_err-last : goal.returns-in_err-last
returns-in_err-last c = rw c.from_residual.ensures
    (tt, λ older g m d. absurd (omega (arith, aiming_some c.requires.0 d c.requires.2 g, c.in_err-last.ensures.item)))

pub returns-then-not-stops : goal.returns-then-not-stops
returns-then-not-stops c = (
  tt,
  λ older g m d. let s = aiming_stops c.requires.0 d c.requires.2 g refl (search rules) in
      absurd (not-both _ (c.stops.ensures.1 older g s.0 s.1) c.if-not-stops.true),
)

pub loop-t-init : goal.loop-t-init
loop-t-init c = (
  descending_start c.requires.0 (c.stops.ensures.0 c.if-not-stops.false) c.wide.ensures.0 refl refl,
  c.requires.1,
  aiming_start c.requires.0 c.requires.2 (search rules) c.wide.ensures.0 refl refl,
)

pub returns-then-b-k : goal.returns-then-b-k
returns-then-b-k c = (
  tt,
  λ older g m d. absurd (elim c.then-b-k.branch [
    | then-b-k-via-then-b-k w ↦
        omega (arith, w.if-b-k.true, aiming_low c.loop-t.invariant.0 c.loop-t.invariant.2 c.loop-t-test.true g d)
    | then-b-k-via-else-b-k+then-par-j w ↦
        w.if-par-j.true (aiming_parent c.loop-t.invariant.0 c.loop-t.invariant.2 c.loop-t-test.true g d c.wide-j.ensures.0)
    | then-b-k-via-else-b-k+else-par-j+then-mark-j w ↦
        aiming_new c.loop-t.invariant.0 c.loop-t.invariant.2 c.loop-t-test.true g d c.wide-j.ensures.0 w.if-mark-j.true
  ]),
)

pub returns-then-b-row : goal.returns-then-b-row
returns-then-b-row c = (
  (
    omega (arith, c.loop-t.invariant.0.within),
    λ older m. descending_found c.loop-t.invariant.0 c.loop-t-test.true refl c.if-b-k.false c.wide-j.ensures.0 c.if-par-j.false c.if-mark-j.false
        c.if-b-row.true older m (omega (arith, c.loop-t.invariant.0.within)),
  ),
  λ older g m d. refl,
)

pub loop-t-preserved : goal.loop-t-preserved
loop-t-preserved c = (
  descending_turn c.loop-t.invariant.0 c.loop-t-test.true refl c.if-b-k.false c.wide-j.ensures.0 c.if-par-j.false c.if-mark-j.false,
  c.loop-t.invariant.1,
  aiming_turn c.loop-t.invariant.0 c.loop-t.invariant.2 c.loop-t-test.true refl c.if-b-row.false,
)

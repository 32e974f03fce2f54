-- `add_columns` meets its contract. Assumes nothing.
use Rattle.cs_left.proofs.Crossing.{adding_here, adding_turn, adding_pass, adding_end}
use Rattle.cs_left.proofs.Crossing.{crossing_asks}
use Rattle.cs_left.proofs.column.add_columns.Goals as goal
use Rattle.cs_left.proofs.column.add_columns.Goals.{else-j-k, then-j-k}

pub scatter_add-requires : goal.scatter_add-requires
scatter_add-requires c = crossing_asks (adding_here c.loop-u.invariant c.loop-u-test.true c.wide-j.ensures.0 c.if-j-k.true) c.wide-s.ensures.0
    c.wide-e.ensures.0

pub loop-u-preserved : goal.loop-u-preserved
loop-u-preserved c = let w = c.loop-u.invariant in let g = c.loop-u-test.true in let e = c.wide-j.ensures.0 in
    elim c.if-j-k.branch [
      | then-j-k t ↦ rw (t.next-is, t.x-is) (adding_turn w g e t.if-j-k.true t.wide-s.ensures.0 t.wide-e.ensures.0
          t.scatter_add.auto.x t.scatter_add.ensures)
      | else-j-k u ↦ rw (u.next-is, u.x-is) (adding_pass w g e u.if-j-k.false)
    ]

pub returns : goal.returns
returns c = adding_end c.loop-u.invariant c.loop-u-test.false

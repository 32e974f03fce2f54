-- `load` meets its contract. Assumes nothing.
use Rattle.lists.proofs.Entries.{passing_end}
use Rattle.cs_left.proofs.Columns.{load_put, load_pass}
use Rattle.cs_left.proofs.column.load.Goals as goal
use Rattle.cs_left.proofs.column.load.Goals.{else-z-k, then-z-k}

pub loop-q-preserved : goal.loop-q-preserved
loop-q-preserved c = let w = c.loop-q.invariant in let g = c.loop-q-test.true in let e = c.wide-z.ensures.0 in
    elim c.if-z-k.branch [ then-z-k t ↦ rw t.x-is (load_put w g e t.if-z-k.true) | else-z-k u ↦ rw u.x-is (load_pass w g e u.if-z-k.false) ]

pub returns : goal.returns
returns c = passing_end c.loop-q.invariant c.loop-q-test.false

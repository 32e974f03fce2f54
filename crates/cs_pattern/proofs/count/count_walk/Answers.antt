-- `count_walk` meets its contract. Assumes nothing.
use Rattle.cs_tree.proofs.Bumping.{bumping_start, bumping_seen, bumping_next, bumping_over}
use Rattle.std.proofs.Common.{refl, arith}
use Rattle.cs_pattern.proofs.count.count_walk.Goals as goal

pub loop-i-init : goal.loop-i-init
loop-i-init c = bumping_start c.requires.0 c.requires.1 c.wide-i.ensures.0

pub returns-then-mark-i : goal.returns-then-mark-i
returns-then-mark-i c = bumping_seen c.loop-i.invariant (omega arith) c.if-mark-i.true

pub loop-i-preserved : goal.loop-i-preserved
loop-i-preserved c = bumping_next c.loop-i.invariant (omega arith) c.if-mark-i.false c.wide-i-in-loop-i.ensures.0 refl

pub returns : goal.returns
returns c = bumping_over c.loop-i.invariant (omega arith)

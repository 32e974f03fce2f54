-- `look_columns` meets its contract. Assumes nothing.
use Rattle.cs_pattern.proofs.Finding.{lower-turn, lower_stop}
use Rattle.cs_tree.proofs.Spreading.{columns-start}
use Rattle.cs_tree.proofs.Looking.{seen_start, seen_order, seen_inside, seen_low, seen_turn}
use Rattle.std.proofs.Common.{sym, ◌∙◌, true≢false, arith}
use Rattle.cs_pattern.proofs.look.look_columns.Goals as goal

pub loop-k-init : goal.loop-k-init
loop-k-init c = (c.requires.1, seen_start, columns-start)

pub slice_bounds-look_column-count : goal.slice_bounds-look_column-count
slice_bounds-look_column-count c = seen_order c.requires.0 c.loop-k-test.true c.wide-b.ensures.0 c.wide-f.ensures.0

pub slice_bounds-look_column-start : goal.slice_bounds-look_column-start
slice_bounds-look_column-start c = seen_order c.requires.0 c.loop-k-test.true c.wide-b.ensures.0 c.wide-f.ensures.0

pub slice_bounds-look_column-end : goal.slice_bounds-look_column-end
slice_bounds-look_column-end c = seen_inside c.requires.0 c.loop-k-test.true c.wide-b.ensures.0 c.wide-f.ensures.0

pub look_column-requires : goal.look_column-requires
look_column-requires c = (
  c.requires.0.few,
  λ m l. omega (
    arith,
    seen_low c.requires.0 c.loop-k-test.true c.wide-b.ensures.0 c.wide-f.ensures.0 m l,
    c.loop-k.invariant.0,
  ),
)

pub returns-then-not-look_column : goal.returns-then-not-look_column
returns-then-not-look_column c = (
  λ z. absurd (true≢false (sym z)),
  λ z. lower_stop c.loop-k.invariant.2 c.loop-k-test.true c.wide-b.ensures.0
      c.wide-f.ensures.0 c.look_column.ensures.1 c.if-not-look_column.true,
)

pub loop-k-preserved : goal.loop-k-preserved
loop-k-preserved c = (
  c.look_column.auto.next ∙ c.loop-k.invariant.0,
  seen_turn c.loop-k.invariant.1 c.loop-k-test.true (omega (arith, c.loop-k.invariant.0)) c.wide-b.ensures.0 c.wide-f.ensures.0
      (c.look_column.ensures.0 c.if-not-look_column.false),
  lower-turn c.loop-k.invariant.2 c.loop-k-test.true c.wide-b.ensures.0 c.wide-f.ensures.0 c.look_column.ensures.1
      c.if-not-look_column.false,
)

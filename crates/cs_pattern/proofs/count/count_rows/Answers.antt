-- `count_rows` meets its contract. Assumes nothing.
use Rattle.std.proofs.Common.{arith}
use Rattle.cs_pattern.proofs.Columns.{inside, few_columns, outside, as_many, rows_few, columns_long, rows-are, rows-rise}
use Rattle.lists.proofs.Keeping.{kept-wider}
use Rattle.cs_tree.proofs.Bumping.{totting_start, tot_small, tot_kept, totting_turn, totting_stop, totting_done}
use Rattle.cs_tree.proofs.Filling.{given_walks}
use Rattle.cs_pattern.proofs.count.count_rows.Goals as goal

pub loop-k-init : goal.loop-k-init
loop-k-init c = totting_start (as_many c.requires.0 c.requires.2) (omega (arith, columns_long c.requires.0, c.requires.4)) c.requires.3

pub count_column-total-requires : goal.count_column-total-requires
count_column-total-requires c = (
  given_walks c.requires.1 (inside c.requires.0 c.loop-k-test.true) c.loop-k.invariant.m_long,
  c.loop-k.invariant.fresh,
  rows_few c.requires.0 c.loop-k-test.true c.rows.ensures,
  omega (arith, c.loop-k.invariant.wide, inside c.requires.0 c.loop-k-test.true),
  rows-rise c.requires.0 c.loop-k-test.true c.rows.ensures,
)

pub overflow_add-total : goal.overflow_add-total
overflow_add-total c = omega (
  arith,
  c.loop-k.invariant.few,
  tot_small c.requires.1 c.loop-k.invariant (inside c.requires.0 c.loop-k-test.true)
      (rows-are c.requires.0 c.loop-k-test.true c.rows.ensures) c.count_column-total.auto.mark
      c.count_column-total.ensures,
)

pub returns-then-total-gt-MAX_ENTRIES : goal.returns-then-total-gt-MAX_ENTRIES
returns-then-total-gt-MAX_ENTRIES c = (
  totting_stop c.requires.1 c.loop-k.invariant (inside c.requires.0 c.loop-k-test.true)
      (rows-are c.requires.0 c.loop-k-test.true c.rows.ensures) c.count_column-total.auto.mark
      c.count_column-total.ensures c.if-total-gt-MAX_ENTRIES.true,
  kept-wider _ (few_columns c.requires.0)
      (tot_kept c.requires.1 c.loop-k.invariant (inside c.requires.0 c.loop-k-test.true)
      (rows-are c.requires.0 c.loop-k-test.true c.rows.ensures) c.count_column-total.auto.mark
      c.count_column-total.ensures),
)

pub loop-k-preserved : goal.loop-k-preserved
loop-k-preserved c = totting_turn c.requires.1 c.loop-k.invariant (inside c.requires.0 c.loop-k-test.true)
    (rows-are c.requires.0 c.loop-k-test.true c.rows.ensures) c.count_column-total.auto.mark c.count_column-total.ensures
    c.if-total-gt-MAX_ENTRIES.false

pub returns : goal.returns
returns c = let d = totting_done c.requires.1 c.loop-k.invariant (outside c.requires.0 c.loop-k-test.false) in
    (record { size = d.0; few = c.loop-k.invariant.few; are = d.2 }, kept-wider _ (few_columns c.requires.0) d.1)

-- `check_pattern`: each number from the tests before it. Assumes nothing.
use Rattle.cs_matrix.proofs.Refusing.{refused-rows, refused_cols, refused-entries, refused_2, refused_3, refused_4, refused_5, not-refused}
use Rattle.cs_matrix.proofs.Pointers.{pointers_mean}
use Rattle.lists.proofs.Bools.{held, failed}
use Rattle.cs_matrix.proofs.check.check_pattern.Goals as goal
use Rattle.cs_matrix.proofs.check.check_pattern.Goals.{then-nrows-gt-MAX_DIMENSION-via-then-nrows-gt-MAX_DIMENSION}
use Rattle.cs_matrix.proofs.check.check_pattern.Goals.{then-nrows-gt-MAX_DIMENSION-via-else-nrows-gt-MAX_DIMENSION+then-ncols-gt-MAX_DIMENSION}
use Rattle.cs_matrix.proofs.check.check_pattern.Goals.{then-nrows-gt-MAX_DIMENSION-via-else-nrows-gt-MAX_DIMENSION+else-ncols-gt-MAX_DIMENSION+then-i-gt-MAX_ENTRIES}

pub returns-then-nrows-gt-MAX_DIMENSION : goal.returns-then-nrows-gt-MAX_DIMENSION
returns-then-nrows-gt-MAX_DIMENSION c = elim c.then-nrows-gt-MAX_DIMENSION.branch [
  | then-nrows-gt-MAX_DIMENSION-via-then-nrows-gt-MAX_DIMENSION w ↦ refused-rows _ w.if-nrows-gt-MAX_DIMENSION.true
  | then-nrows-gt-MAX_DIMENSION-via-else-nrows-gt-MAX_DIMENSION+then-ncols-gt-MAX_DIMENSION w ↦ refused_cols _ w.if-nrows-gt-MAX_DIMENSION.false
      w.if-ncols-gt-MAX_DIMENSION.true
  | then-nrows-gt-MAX_DIMENSION-via-else-nrows-gt-MAX_DIMENSION+else-ncols-gt-MAX_DIMENSION+then-i-gt-MAX_ENTRIES w ↦
      refused-entries _ w.if-nrows-gt-MAX_DIMENSION.false w.if-ncols-gt-MAX_DIMENSION.false w.if-i-gt-MAX_ENTRIES.true
]

pub returns-then-p-ncols : goal.returns-then-p-ncols
returns-then-p-ncols c = refused_2 _ (record {
  rows = c.if-nrows-gt-MAX_DIMENSION.false;
  cols = c.if-ncols-gt-MAX_DIMENSION.false;
  entries =
      c.if-i-gt-MAX_ENTRIES.false;
})
    c.if-p-ncols.true

pub returns-then-not-pointers_hold : goal.returns-then-not-pointers_hold
returns-then-not-pointers_hold c = refused_3 _ (record {
  rows = c.if-nrows-gt-MAX_DIMENSION.false;
  cols = c.if-ncols-gt-MAX_DIMENSION.false;
  entries = c.if-i-gt-MAX_ENTRIES.false;
}) c.if-p-ncols.false (failed c.pointers_hold.ensures c.if-not-pointers_hold.true-raw)

pub returns-then-not-all_below : goal.returns-then-not-all_below
returns-then-not-all_below c = refused_4 _ (record {
  rows = c.if-nrows-gt-MAX_DIMENSION.false;
  cols = c.if-ncols-gt-MAX_DIMENSION.false;
  entries = c.if-i-gt-MAX_ENTRIES.false;
}) c.if-p-ncols.false (held c.pointers_hold.ensures c.if-not-pointers_hold.false-raw)
    (failed c.all_below.ensures c.if-not-all_below.true-raw)

pub columns_rise-requires : goal.columns_rise-requires
columns_rise-requires c = record {
  cols = c.if-ncols-gt-MAX_DIMENSION.false;
  entries = c.if-i-gt-MAX_ENTRIES.false;
  p_long = c.if-p-ncols.false;
  ptrs = pointers_mean _ _ (held c.pointers_hold.ensures c.if-not-pointers_hold.false-raw);
}

pub returns-then-not-columns_rise : goal.returns-then-not-columns_rise
returns-then-not-columns_rise c = refused_5 _ (record {
  rows = c.if-nrows-gt-MAX_DIMENSION.false;
  cols = c.if-ncols-gt-MAX_DIMENSION.false;
  entries = c.if-i-gt-MAX_ENTRIES.false;
}) c.if-p-ncols.false (held c.pointers_hold.ensures c.if-not-pointers_hold.false-raw)
    (held c.all_below.ensures c.if-not-all_below.false-raw) (failed c.columns_rise.ensures c.if-not-columns_rise.true-raw)

pub returns : goal.returns
returns c = not-refused _ (record {
  rows = c.if-nrows-gt-MAX_DIMENSION.false;
  cols = c.if-ncols-gt-MAX_DIMENSION.false;
  entries =
      c.if-i-gt-MAX_ENTRIES.false;
})
    c.if-p-ncols.false (held c.pointers_hold.ensures c.if-not-pointers_hold.false-raw) (held c.all_below.ensures c.if-not-all_below.false-raw)
    (held c.columns_rise.ensures c.if-not-columns_rise.false-raw)

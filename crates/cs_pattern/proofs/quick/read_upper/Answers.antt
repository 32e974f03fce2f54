-- `read_upper` meets its contract. Assumes nothing.
use Rattle.std.proofs.Common.{arith}
use Rattle.lists.proofs.Keeping.{kept-all}
use Rattle.cs_pattern.proofs.Deciding.{untold, up-short, up_many, read_asks, told}
use Rattle.cs_pattern.proofs.quick.read_upper.Goals as goal
use Rattle.cs_pattern.proofs.quick.read_upper.Goals.{then-up-n-via-then-up-n, then-up-n-via-else-up-n+then-wide-gt-MAX_ENTRIES}

pub returns-then-up-n : goal.returns-then-up-n
returns-then-up-n c = untold c.requires.0 _ _ _
    (elim c.then-up-n.branch [
      | then-up-n-via-then-up-n w ↦ up-short c.requires.0 _ _ _ w.if-up-n.true
      | then-up-n-via-else-up-n+then-wide-gt-MAX_ENTRIES w ↦
          up_many c.requires.0 _ _ _ (omega (arith, w.if-wide-gt-MAX_ENTRIES.true, w.wide.ensures.0))
    ])
    (kept-all _ _) (kept-all _ _)

pub read_columns-requires : goal.read_columns-requires
read_columns-requires c = read_asks c.requires.0 c.args.given.tree.now _ c.args.given.ui.now _ _ _ c.requires.1 c.requires.2
    c.elimination_tree.ensures c.elimination_tree.auto.anc c.fill.ensures c.if-up-n.false

pub returns : goal.returns
returns c = told c.requires.0 _ _ _ _ _ _ c.requires.1 c.requires.2 c.elimination_tree.ensures c.elimination_tree.auto.anc
    c.starts_with.ensures c.fill.ensures _ c.if-not-starts_with.false c.read_columns.auto.mark
    (omega (arith, c.if-wide-gt-MAX_ENTRIES.false, c.wide.ensures.0)) c.read_columns.ensures

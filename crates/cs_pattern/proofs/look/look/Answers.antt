-- `look` meets its contract. Assumes nothing.
use Rattle.std.proofs.Common.{arith}
use Rattle.lists.proofs.Keeping.{kept-all}
use Rattle.cs_pattern.proofs.Finding.{unseen, lp_long, lp_first, li_long, look_unseen, look_told}
use Rattle.cs_pattern.proofs.look.look.Goals as goal
use Rattle.cs_pattern.proofs.look.look.Goals.{then-lp-n-via-then-lp-n, then-lp-n-via-else-lp-n+then-lp-ne0}
use Rattle.cs_pattern.proofs.look.look.Goals.{then-lp-n-via-else-lp-n+else-lp-ne0+then-li-t}

pub returns-then-lp-n : goal.returns-then-lp-n
returns-then-lp-n c = unseen _ _
    (elim c.then-lp-n.branch [
      | then-lp-n-via-then-lp-n w ↦ λ u h. omega (arith, w.if-lp-n.true, lp_long _ _ u h)
      | then-lp-n-via-else-lp-n+then-lp-ne0 w ↦ λ u h. w.if-lp-ne0.true (lp_first _ _ u h)
      | then-lp-n-via-else-lp-n+else-lp-ne0+then-li-t w ↦ λ u h. omega (arith, w.if-li-t.true, li_long _ _ u h)
    ])
    (kept-all _ _)

pub returns-else-look_columns : goal.returns-else-look_columns
returns-else-look_columns c = rw c.if-look_columns.false
    (look_unseen _ _ _ _ _ _ _ c.requires.1 c.if-lp-n.false c.copy.ensures c.if-li-t.false _ c.look_columns.auto.next c.if-look_columns.false
    c.look_columns.ensures.1)

pub returns-then-look_columns : goal.returns-then-look_columns
returns-then-look_columns c = look_told _ _ _ _ _ _ _ c.requires.1 c.if-lp-n.false c.copy.ensures c.if-li-t.false _
    c.look_columns.auto.next c.if-lp-ne0.false c.look_columns.ensures.0 c.if-look_columns.true c.starts_with.ensures

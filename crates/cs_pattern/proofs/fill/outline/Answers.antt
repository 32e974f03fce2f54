-- `outline` meets its contract. Assumes nothing.
use Rattle.cs_pattern.proofs.Filled.{outline_asks, outlined}
use Rattle.cs_pattern.proofs.fill.outline.Goals as goal

pub count_rows-requires : goal.count_rows-requires
count_rows-requires c = outline_asks c.requires.0 _ _ _ _ c.requires.1 c.requires.2 c.requires.3 c.elimination_tree.ensures
    c.elimination_tree.auto.anc c.fill.ensures

pub returns : goal.returns
returns c = outlined c.requires.0 _ _ _ _ c.requires.1 c.requires.2 c.requires.3 c.elimination_tree.ensures c.elimination_tree.auto.anc
    c.fill.ensures _ c.count_rows.auto.mark c.count_rows.ensures

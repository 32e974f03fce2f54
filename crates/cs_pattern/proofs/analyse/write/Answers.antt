-- `write` meets its contract. Assumes nothing.
use Rattle.cs_pattern.proofs.Analysing.{fill_columns_asks, filled_out}
use Rattle.cs_pattern.proofs.analyse.write.Goals as goal

pub fill_columns-requires : goal.fill_columns-requires
fill_columns-requires c = fill_columns_asks c.requires.0 c.requires.1 c.cumsum.ensures.1 c.fill.ensures

pub returns : goal.returns
returns c = filled_out c.requires.0 c.requires.1 c.fill_columns.new.mark c.fill_columns.new.next c.copy.ensures c.cumsum.ensures.1
    c.cumsum.ensures.2 c.fill_columns.ensures c.fill_columns.auto.next c.fill.ensures c.fill_columns.auto.mark

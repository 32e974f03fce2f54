-- `count_column`: what proofs/Remaining.antt says of the rows that were met. Assumes nothing.
use Rattle.cs_product.proofs.Remaining.{column-drain, column-counted}
use Rattle.cs_product.proofs.columns.count_column.Goals as goal

pub count_remaining-requires : goal.count_remaining-requires
count_remaining-requires c = column-drain c.requires c.accumulate-many.ensures.0 c.accumulate-many.ensures.1

pub returns : goal.returns
returns c = column-counted c.requires c.accumulate-many.ensures.0 c.accumulate-many.ensures.1 c.count_remaining.ensures.0 c.count_remaining.ensures.1

-- `write_listed`: what proofs/Remaining.antt says of the rows that were met, sorted. Assumes nothing.
use mathlib.Core.Path.{refl}
use Rattle.cs_product.proofs.Remaining.{column_taking, column-written}
use Rattle.cs_product.proofs.columns.write_listed.Goals as goal

pub gather-requires : goal.gather-requires
gather-requires c = column_taking c.requires.starting c.accumulate-many.ensures.0 c.accumulate-many.ensures.1 c.requires c.sort.ensures refl

pub returns : goal.returns
returns c = column-written c.requires.starting c.accumulate-many.ensures.0 c.accumulate-many.ensures.1 c.requires c.sort.ensures refl
    c.gather.ensures.0 c.gather.ensures.1 c.gather.ensures.2 c.gather.ensures.3

-- `write_dense`: the column's laws of proofs/Sweeping.antt. Assumes nothing.
use Rattle.cs_product.proofs.Sweeping.{dense_asks, dense_written}
use Rattle.cs_product.proofs.columns.write_dense.Goals as goal

pub sweep-requires : goal.sweep-requires
sweep-requires c = dense_asks c.requires c.accumulate_plain.ensures c.accumulate_plain.auto.x

pub returns : goal.returns
returns c = dense_written c.requires c.accumulate_plain.ensures c.accumulate_plain.auto.x c.sweep.ensures

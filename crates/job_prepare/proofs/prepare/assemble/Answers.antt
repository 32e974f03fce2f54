-- `assemble` meets its contract. Assumes nothing.
use Rattle.cs_conversion.specs.Lent.{triplets_of}
use Rattle.job_prepare.proofs.Preparing.{assembled_there}
use Rattle.job_prepare.proofs.prepare.assemble.Goals as goal

pub returns : goal.returns
returns c = assembled_there (triplets_of c.args.t) c.args.p.now c.args.i.now c.args.v.now c.requires.0 c.requires.1 c.requires.2
    c.from_triplet.ensures

-- What `ColumnEntries::new` promises of the walker it makes: it stands at 0 over the two parts, and walks the whole.
use Rattle.std.proofs.Common.{refl}
use Rattle.cs_walk.proofs.Walking.{whole}
use Rattle.cs_walk.proofs.column_entries.ColumnEntries.new.Goals as goal

pub returns : goal.returns
returns c = (refl, refl, refl, whole c.args.i c.args.v)

-- What a call sees of triplets that are lent to it. Assumes nothing.
use Rattle.cs_conversion.specs.declared.assembly.Triplets.{Triplets as LentTriplets}
use Rattle.cs_conversion.specs.Assembly.{Triplets, triplets}

abbrev pub triplets_of : LentTriplets → Triplets
triplets_of t = triplets t.nrows t.ncols t.irows.now t.icols.now t.vals.now

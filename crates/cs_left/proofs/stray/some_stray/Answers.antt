-- `some_stray`: the call of `any`, by proofs/Straying.antt. Assumes nothing.
use mathlib.Core.Path.{refl, ◌∙◌}
use Rattle.std.proofs.Common.{arith, rules, tests}
use Rattle.std.proofs.lemmas.Iterator.{YieldsList-from_range}
use Rattle.std.proofs.lemmas.Iterator.Search.{any_from_yields_List}
use Rattle.cs_matrix.specs.Lent.{pattern_of}
use Rattle.cs_pattern.specs.Lent.{analysis_of}
use Rattle.cs_left.specs.Steps.{stray_at}
use Rattle.cs_left.proofs.Straying.{any-chosen}
use Rattle.cs_left.proofs.stray.some_stray.Goals as goal

pub returns : goal.returns
returns c =
    let f = stray_at (pattern_of c.args.a) (analysis_of c.args.given) in
    any_from_yields_List f _ _ c.any.result c.any.ensures.ran (YieldsList-from_range 0 c.args.a.ncols c.args.a.ncols refl (omega arith))
    (λ x b q k. search (rules, tests))
    ∙ any-chosen f c.args.a.ncols

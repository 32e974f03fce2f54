-- `column`: the part between its two pointers. Assumes nothing.
use Rattle.std.proofs.Common.{refl}
use Rattle.lists.specs.Order.{rises}
use Rattle.lists.specs.Folds.{every}
use Rattle.cs_matrix.proofs.Handing.{inside, inside_v, column-handed, column-alike, column-up, past_end}
use Rattle.cs_matrix.proofs.columns.column.Goals as goal

pub invariant_of-result : goal.invariant_of-result
unfolding rises every
invariant_of-result c = record { rise = refl; even = refl }

pub returns-then-j-pattern : goal.returns-then-j-pattern
returns-then-j-pattern c = past_end c.args.a.valid c.if-j-pattern.true

pub slice_bounds-result-end-2 : goal.slice_bounds-result-end-2
slice_bounds-result-end-2 c = inside c.args.a.valid c.if-j-pattern.false c.wide-s.ensures.0 c.wide-e.ensures.0

pub slice_bounds-result-end-3 : goal.slice_bounds-result-end-3
slice_bounds-result-end-3 c = inside_v c.args.a.valid c.if-j-pattern.false c.wide-s.ensures.0 c.wide-e.ensures.0

pub invariant_of-result-2 : goal.invariant_of-result-2
invariant_of-result-2 c = let h = column-handed c.args.a.valid c.if-j-pattern.false c.wide-s.ensures.0 c.wide-e.ensures.0 in
    record { rise = column-up c.args.a.valid c.if-j-pattern.false h; even = column-alike c.args.a.valid c.if-j-pattern.false h }

pub returns : goal.returns
returns c = column-handed c.args.a.valid c.if-j-pattern.false c.wide-s.ensures.0 c.wide-e.ensures.0

-- `prepare` meets its contract. Assumes nothing.
use native.Mathlib.Omega.{arith}
use Rattle.std.proofs.Common.{refl}
use Rattle.lists.proofs.Refusals.{passed_on, refusal-some}
use Rattle.cs_matrix.specs.Matrix.{stored}
use Rattle.cs_conversion.specs.Lent.{triplets_of}
use Rattle.cs_tree.specs.Pattern.{analysis}
use Rattle.job_prepare.proofs.Preparing.{prepared_asks, prepared_analysed, prepared_refused}
use Rattle.job_prepare.proofs.prepare.prepare.Goals as goal

pub returns-in_err-assemble : goal.returns-in_err-assemble
returns-in_err-assemble c = rw (passed_on _ _ c.from_residual.ensures.1) (prepared_refused (triplets_of c.args.t)
    (stored c.args.p.now c.args.i.now c.args.v.now) (stored c.assemble.new.p c.assemble.new.i c.assemble.new.v)
    (analysis c.args.tree.now c.args.up.now c.args.ui.now c.args.lp.now c.args.li.now) _ (refusal-some _) c.in_err-assemble.ensures)

pub offset_bounds-p-ncols : goal.offset_bounds-p-ncols
offset_bounds-p-ncols c = omega (arith, (prepared_asks (triplets_of c.args.t) _ _ _ _ _ _ _ refl c.in_ok-assemble.ensures).0)

pub bounds-p-ncols : goal.bounds-p-ncols
bounds-p-ncols c = omega (arith, (prepared_asks (triplets_of c.args.t) _ _ _ _ _ _ _ refl c.in_ok-assemble.ensures).0)

pub shared_ref_as_front-i : goal.shared_ref_as_front-i
shared_ref_as_front-i c = omega (arith, (prepared_asks (triplets_of c.args.t) _ _ _ _ _ _ _ refl c.in_ok-assemble.ensures).1, c.wide.ensures.0)

pub overflow_add-p : goal.overflow_add-p
overflow_add-p c = omega (arith, (prepared_asks (triplets_of c.args.t) _ _ _ _ _ _ _ refl c.in_ok-assemble.ensures).0)

pub shared_ref_as_front-p : goal.shared_ref_as_front-p
shared_ref_as_front-p c = omega (arith, (prepared_asks (triplets_of c.args.t) _ _ _ _ _ _ _ refl c.in_ok-assemble.ensures).0)

pub returns : goal.returns
returns c = prepared_analysed (triplets_of c.args.t) c.args.p.now c.args.i.now c.args.v.now
    c.assemble.new.p c.assemble.new.i c.assemble.new.v _ refl
    c.in_ok-assemble.ensures (analysis c.args.tree.now c.args.up.now c.args.ui.now c.args.lp.now c.args.li.now) _ _ _ c.wide.ensures.0
    c.analyse.ensures

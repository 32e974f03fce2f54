-- `forward`: the loop of proofs/Stepping.antt. Assumes nothing.
use Rattle.cs_solve_cs.proofs.Stepping.{serving_start, serving_on, serving_off, serving_end, out_i, out_v}
use Rattle.cs_matrix.proofs.Handing.{j_small}
use Rattle.cs_solve_cs.proofs.steps.forward.Goals as goal
use Rattle.cs_solve_cs.proofs.steps.forward.Goals.{else-w-j-ne0, then-w-j-ne0}

pub loop-j-init : goal.loop-j-init
loop-j-init c = serving_start c.args.a.valid c.requires

pub push-at-requires : goal.push-at-requires
push-at-requires c = (
  j_small c.loop-j.invariant.valid c.loop-j-test.true,
  out_i c.loop-j.invariant c.loop-j-test.true c.column-col.ensures c.value_at-d.ensures c.forward_at.ensures c.if-w-j-ne0.true,
  out_v c.loop-j.invariant c.loop-j-test.true c.column-col.ensures c.value_at-d.ensures c.forward_at.ensures c.if-w-j-ne0.true,
)

pub loop-j-preserved : goal.loop-j-preserved
loop-j-preserved c =
    let s = c.loop-j.invariant in
    let h = c.loop-j-test.true in
    elim c.if-w-j-ne0.branch [
      | then-w-j-ne0 t ↦
          rw (t.x-is, t.xi-is, t.xv-is, t.at-is)
          (serving_on s h t.column-col.ensures t.value_at-d.ensures t.forward_at.ensures t.if-w-j-ne0.true t.push-at.ensures)
      | else-w-j-ne0 t ↦
          rw (t.x-is, t.xi-is, t.xv-is, t.at-is) (serving_off s h t.if-w-j-ne0.false)
    ]

pub returns : goal.returns
returns c = serving_end c.loop-j.invariant c.loop-j-test.false

-- `serve`: the ways out of proofs/Ways.antt. Assumes nothing.
use Rattle.cs_solve_cs.proofs.Ways.{at_7, at_10, at-end}
use Rattle.cs_solve_cs.proofs.solve_cs.serve.Goals as goal

pub returns-then-xi-found : goal.returns-then-xi-found
returns-then-xi-found c = rw c.refused.ensures (at_7 _ _ _ c.requires c.reach-found.ensures.1 c.then-xi-found.either)

pub returns-in-Some : goal.returns-in-Some
returns-in-Some c = rw c.lacking.ensures (at_10 _ _ _ c.requires c.reach-found.ensures.1 c.if-xi-found.false c.if-xv-found.false _
    c.reach-found.ensures.0 c.reach-found.result.lacking c.reach-found.ensures.2 c.in-Some.is)

pub returns : goal.returns
returns c = at-end _ _ _ c.requires c.reach-found.ensures.1 c.if-xi-found.false c.if-xv-found.false _
    c.reach-found.ensures.0 c.reach-found.result.lacking c.reach-found.ensures.2 c.in_default.is
    c.put.ensures c.forward.ensures.0 c.forward.ensures.1

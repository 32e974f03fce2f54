-- `stray` meets its contract. Assumes nothing.
use mathlib.Core.Path.{refl, sym, ◌∙◌}
use native.Mathlib.Omega.{arith}
use Prim.Native.Nat.{◌+◌}
use lib.Dec.{eqb}
use lib.ListN.{get_or}
use Rattle.std.proofs.Common.{rules, tests}
use Rattle.cs_left.proofs.Seeking.{none-passes, one-passes}
use Rattle.cs_left.proofs.Straying.{left_none, left_found, straying_pass, straying_absent, straying_found, straying_end}
use Rattle.cs_left.proofs.stray.stray.Goals as goal
use Rattle.cs_left.proofs.stray.stray.Goals.{else-wide-k-via-then-wide-k+else-not-any, else-wide-k-via-else-wide-k}

pub loop-row-init : goal.loop-row-init
loop-row-init c = (
  0,
  c.iter-rest.ensures.rest,
  record {
    rows_rise = c.requires.0;
    held_rise = c.requires.1;
    in_rows = omega arith;
    in_held = omega arith;
    rest = refl;
    passed = λ h r a i m. absurd (omega arith);
  },
)

pub returns-then-not-any : goal.returns-then-not-any
returns-then-not-any c =
    let row = get_or c.args.rows.now c.loop-row.row-index 0 in
    let i = c.loop-row.invariant in
    let n = none-passes _ _ (λ h. eqb h row) (λ x b q k. search (rules, tests)) c.any.ensures.ran c.if-not-any.true in
    straying_absent i.2 c.loop-row-test.true c.wide.ensures.0 c.if-wide-k.true
    (λ b a l g. left_none c.args.held.now i.0 {row = row} i.1 n b a l (g ∙ c.wide.ensures.0))

pub loop-row-preserved : goal.loop-row-preserved
loop-row-preserved c =
    let row = get_or c.args.rows.now c.loop-row.row-index 0 in
    let i = c.loop-row.invariant in
    elim c.else-wide-k.branch [
      | else-wide-k-via-then-wide-k+else-not-any w ↦ (
          let o = one-passes _ _ (λ h. eqb h row) (λ x b q k. search (rules, tests)) w.any.ensures.ran w.if-not-any.false in
          let f = left_found c.args.held.now i.0 {row = row} i.1 o.1 o.2 o.3 in
          rw w.rest-is (
            i.0 + o.0 + 1,
            f.2,
            straying_found i.2 c.loop-row-test.true c.wide.ensures.0 (i.0 + o.0) (omega arith) f.0
                (f.1 ∙ sym c.wide.ensures.0),
          ))
      | else-wide-k-via-else-wide-k w ↦ rw w.rest-is (i.0, i.1, straying_pass i.2 c.loop-row-test.true c.wide.ensures.0 w.if-wide-k.false)
    ]

pub returns : goal.returns
returns c = straying_end c.loop-row.invariant.2 c.loop-row-test.false

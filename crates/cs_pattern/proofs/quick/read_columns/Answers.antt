-- `read_columns` meets its contract. Assumes nothing.
use Rattle.cs_tree.proofs.Aiming.{holds_first, holds_order, holds_inside, holds_column}
use Rattle.lists.proofs.Bools.{not-both}
use Rattle.std.proofs.Common.{sym, refl, ◌∙◌, true≢false, arith}
use Rattle.cs_tree.proofs.Backward.{reading_start, reading_turn, reading_done}
use Rattle.cs_tree.proofs.Filling.{given_walks}
use Rattle.cs_pattern.proofs.Columns.{inside, outside, as_many, rows-are, rows-rise, columns_long}
use Rattle.cs_pattern.proofs.quick.read_columns.Goals as goal

pub returns-then-up-ne0 : goal.returns-then-up-ne0
returns-then-up-ne0 c = (λ z. absurd (true≢false (sym z)), λ d. absurd (c.if-up-ne0.true (holds_first d)))

pub loop-k-init : goal.loop-k-init
loop-k-init c = reading_start _ (as_many c.requires.0 c.requires.2) c.requires.3 c.if-up-ne0.false

pub returns-in_default : goal.returns-in_default
returns-in_default c = (
  λ z. absurd (true≢false (sym z)),
  λ d.
      let k = inside c.requires.0 c.loop-k-test.true in
      absurd (omega (
        arith,
        c.in_default.ensures.lookup,
        holds_order c.requires.1 d k c.wide-b.ensures.0 c.wide-f.ensures.0,
        holds_inside c.requires.1 d k c.wide-b.ensures.0 c.wide-f.ensures.0,
      )),
)

pub read_column-requires : goal.read_column-requires
read_column-requires c = (
  given_walks c.requires.1 (inside c.requires.0 c.loop-k-test.true) c.loop-k.invariant.m_long,
  c.loop-k.invariant.fresh,
  omega (arith, c.in-Some.ensures.lookup, c.wide-f.ensures.1),
  rows-rise c.requires.0 c.loop-k-test.true c.rows.ensures,
)

pub returns-then-not-read_column : goal.returns-then-not-read_column
returns-then-not-read_column c = (
  λ z. absurd (true≢false (sym z)),
  λ d.
      let part = holds_column c.requires.1 d (inside c.requires.0 c.loop-k-test.true) c.wide-b.ensures.0 c.wide-f.ensures.0
      (rows-are c.requires.0 c.loop-k-test.true c.rows.ensures) in
      absurd (not-both _ (c.read_column.ensures.1 (c.in-Some.ensures.lookup.0.2 ∙ part)) c.if-not-read_column.true),
)

pub loop-k-preserved : goal.loop-k-preserved
loop-k-preserved c =
    let given = c.in-Some.ensures.lookup.0 in
    let read = c.read_column.ensures.0 c.if-not-read_column.false in
    reading_turn c.requires.1 c.loop-k.invariant (inside c.requires.0 c.loop-k-test.true)
    (rows-are c.requires.0 c.loop-k-test.true c.rows.ensures) c.wide-b.ensures.0 c.wide-f.ensures.0 given.0 given.1
    c.read_column.auto.mark (rw given.2 at read)

pub returns : goal.returns
returns c = (
  λ z. reading_done c.requires.1 c.loop-k.invariant (outside c.requires.0 c.loop-k-test.false)
      (omega (arith, columns_long c.requires.0, c.requires.4)),
  λ d. refl,
)

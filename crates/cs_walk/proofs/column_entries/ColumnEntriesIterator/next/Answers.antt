-- What the walker's `next` promises: the first of what is left, told, and the walker one step on. Assumes nothing.
use Rattle.std.proofs.Common.{ℕ, ap, ◌∙◌}
use Rattle.cs_walk.specs.Walk.{told, walked}
use Rattle.cs_walk.specs.declared.column_entries.ColumnEntries.{ColumnEntries}
use Rattle.cs_walk.proofs.Walking.{told-first, walk-steps, walk-goes}
use Rattle.cs_walk.proofs.column_entries.ColumnEntriesIterator.next.Goals as goal

pub returns-clause-steps : goal.returns-clause-steps
returns-clause-steps c =
    let w = c.args.self.now in
    let at : ℕ → ColumnEntries = λ n. record { curr = n; i = w.i; v = w.v } in
    walk-steps w c.entry_at.ensures (ap at c.curr_after-self.ensures)

pub returns-clause-goes : goal.returns-clause-goes
returns-clause-goes c =
    let w = c.args.self.now in
    let at : ℕ → ColumnEntries = λ n. record { curr = n; i = w.i; v = w.v } in
    walk-goes w c.entry_at.ensures (ap at c.curr_after-self.ensures)

pub returns-clause-first : goal.returns-clause-first
returns-clause-first c =
    let w = c.args.self.now in
    let at : ℕ → ColumnEntries = λ n. record { curr = n; i = w.i; v = w.v } in
    (c.entry_at.ensures, ap told c.entry_at.ensures ∙ told-first (walked w), ap at c.curr_after-self.ensures)

-- `clear_scratch`: each slice by the call that clears it. Assumes nothing.
use Rattle.lists.proofs.Calls.{wiped_each}
use Rattle.lists.proofs.clear.clear_scratch.Goals as goal

pub returns : goal.returns
returns c = wiped_each _ _ c.fill.ensures c.fill-2.ensures c.fill-3.ensures c.fill-4.ensures

-- `root::digits::whole_root` meets its contract: each turn keeps `Turn` of `Turns.antt`. Assumes nothing.
use Rattle.root.proofs.digits.Turns.{Turn}
use Rattle.root.proofs.digits.whole_root.Given as goal

abbrev pub invariant-loop : goal.invariant-loop
invariant-loop l = Turn l.a l.left l.rem l.root l.counter

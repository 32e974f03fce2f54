-- Columns laid out and read again by their pointers. Assumes nothing.
use mathlib.Core.Path.{◌≡◌, ap, ◌∙◌}
use mathlib.Core.List.{List, [], ◌++◌, append_assoc, flatten}
use Prim.Native.Nat.{ℕ, suc, ◌+◌, ◌<◌}
use native.Mathlib.Omega.{arith}
use lib.ListN.{length, get_or, take, drop}
use Rattle.lists.specs.Calls.{onto}
use Rattle.lists.specs.Parts.{part}
use Rattle.lists.proofs.Laying.{part_at}
use Rattle.lists.proofs.Parts.{get_or-onto-front}
use Rattle.lists.proofs.Positions.{flatten_at}
use Rattle.cs_tree.specs.Pattern.{starts, entries}
use Rattle.cs_tree.proofs.Count.{length-starts}
use Rattle.cs_tree.proofs.Laid.{entries-more, length-laid, start-at}

module _ (us : List (List ℕ)) (d e : List ℕ) (k : ℕ) (h : k < length us) where
  pub start-onto : get_or (onto d (starts 0 us)) k 0 ≡ entries (take k us)
  start-onto = get_or-onto-front d (starts 0 us) 0 k (omega (arith, length-starts 0 us)) ∙ start-at us k (omega arith)

  pub end-onto : get_or (onto d (starts 0 us)) (k + 1) 0 ≡ entries (take k us) + length (get_or us k [])
  end-onto = get_or-onto-front d (starts 0 us) 0 (k + 1) (omega (arith, length-starts 0 us)) ∙ start-at us (k + 1) (omega arith) ∙ entries-more us k h

  -- column k again
  pub reread : part (get_or (onto d (starts 0 us)) k 0) (get_or (onto d (starts 0 us)) (k + 1) 0) (onto e (flatten us)) ≡ get_or us k []
  unfolding onto
  reread =
      let x = entries (take k us) in
      let r = flatten (drop (suc k) us) ++ drop (length (flatten us)) e in
      let l : onto e (flatten us) ≡ flatten (take k us) ++ (get_or us k [] ++ r) =
      ap (λ (z : List ℕ). z ++ drop (length (flatten us)) e) (flatten_at us k h)
      ∙ append_assoc (flatten (take k us)) (get_or us k [] ++ flatten (drop (suc k) us)) (drop (length (flatten us)) e)
      ∙ ap (λ (z : List ℕ). flatten (take k us) ++ z) (append_assoc (get_or us k []) (flatten (drop (suc k) us)) (drop (length (flatten us)) e)) in
      rw (start-onto, end-onto) (ap (part x (x + length (get_or us k []))) l ∙
      part_at (flatten (take k us)) (get_or us k []) r x (x + length (get_or us k [])) (length-laid (take k us)) (omega arith))

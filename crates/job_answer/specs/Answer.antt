-- What is left behind by the writing of an answer's bytes. Assumes nothing.
use Rattle.std.specs.Prelude.{cond, ◌≡◌, List, ◌++◌, ℕ, ◌+◌, Result, Ok, Err, ltb, length, take, drop}
use Rattle.lists.specs.Calls.{onto}
use Rattle.lists.specs.declared.refusal.Refusal.{Refusal}
use Rattle.lists.specs.declared.refusal.Refusal.TheVariants.{NoRoom}

-- 7 where the slice is shorter than the bytes w, else how many there are
unfoldable pub answer : List ℕ → List ℕ → Result ℕ Refusal
answer w old = cond (ltb (length old) (length w)) (Err NoRoom) (Ok (length w))

-- by 7 the slice is as it was, else it starts with w, excess length unchanged
unfoldable pub leaves : List ℕ → List ℕ → List ℕ
leaves w old = cond (ltb (length old) (length w)) old (onto old w)

-- w was put into the slice at a place: e is behind it, and all else is as it was
pub record Put (old : List ℕ) (at : ℕ) (w : List ℕ) (e : ℕ) (new : List ℕ) : Type 0 where
  pub end : e ≡ at + length w
  pub front : take e new ≡ take at old ++ w
  pub behind : drop e new ≡ drop e old

-- The part of a slice that is handed on, and what the slice holds when a lent part comes back. Assumes nothing.
use Rattle.std.specs.Prelude.{ℕ, ◌-◌, List, ◌++◌, take, drop}

module _ {A : Type 0} where
  -- what `&l[a..b]` refers to: the part from a up to, not including, b
  abbrev pub part : ℕ → ℕ → List A → List A
  part a b l = take (b - a) (drop a l)

  -- what l holds once the part from a to b, lent as `&mut l[a..b]`, has come back as ys
  abbrev pub placed : ℕ → ℕ → List A → List A → List A
  placed a b l ys = take a l ++ (ys ++ drop (b - a) (drop a l))

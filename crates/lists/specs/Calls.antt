-- What a call answers and what it leaves behind: the table under "Refusal numbers" in document 01, once for all calls.
-- Assumes nothing.
use Rattle.std.specs.Prelude.{ℕ, zero, suc, min, Bool, false, cond, ◌&&◌, ◌||◌, List, [], ◌∷◌, ◌++◌, length, drop, ◌==◌, from_bits, nat_lt, Float}
use Rattle.std.specs.Float.{binary64}

-- the first number of a list whose condition holds, or 0 where none does. Calls list their numbers rising, so that it is the lowest
-- that applies; the job file lists 12 first, as document 01 has it
abbrev pub lowest : List (ℕ × Bool) → ℕ
lowest [] = 0
lowest (c ∷ cs) = cond c.1 c.0 (lowest cs)

-- where there are two operands, both are judged before moving to the next number; both lists start with the same number
unfoldable pub both : List (ℕ × Bool) → List (ℕ × Bool) → List (ℕ × Bool)
both [] ds = ds
both (c ∷ cs) [] = c ∷ cs
both (c ∷ cs) (d ∷ ds) = (c.0, c.1 || d.1) ∷ both cs ds

-- a judgement of number 2 alone, to be put beside an operand's own: slice lengths or dimensions disagree, or not square
abbrev pub disagree : Bool → List (ℕ × Bool)
disagree b = (1, false) ∷ (2, b) ∷ []

-- the lower of two answers, of which 0 says that no number applies
unfoldable pub lower : ℕ → ℕ → ℕ
lower a b = cond (a == 0) b (cond (b == 0) a (min a b))

-- zeros in the first n places of a slice, the rest unchanged
unfoldable pub cleared : {A : Type 0} → A → ℕ → List A → List A
cleared z zero l = l
cleared z (suc n) [] = []
cleared z (suc n) (x ∷ l) = z ∷ cleared z n l

-- xs written to the front of a slice, excess length unchanged
unfoldable pub onto : {A : Type 0} → List A → List A → List A
onto old xs = xs ++ drop (length xs) old

-- +0.0, as the code's literal has it
abbrev pub none : Float
none = from_bits binary64 0

-- the scratch slices, the same set for every call that takes any
pub record Scratch : Type 0 where
  pub w1 : List ℕ
  pub w2 : List ℕ
  pub w3 : List ℕ
  pub x : List Float

abbrev pub scratch : List ℕ → List ℕ → List ℕ → List Float → Scratch
scratch w1 w2 w3 x = record { w1 = w1; w2 = w2; w3 = w3; x = x }

-- number 6, where n elements are needed of each: a scratch slice is below that
unfoldable pub narrow : ℕ → Scratch → Bool
narrow n s = nat_lt (length s.w1) n || nat_lt (length s.w2) n || nat_lt (length s.w3) n || nat_lt (length s.x) n

-- the first n elements of each scratch slice are zeros, the rest unchanged
unfoldable pub wiped : ℕ → Scratch → Scratch
wiped n s = record { w1 = cleared 0 n s.w1; w2 = cleared 0 n s.w2; w3 = cleared 0 n s.w3; x = cleared none n s.x }

-- what a call may change: its outputs, and its scratch
pub record Lent (Out : Type 0) : Type 0 where
  pub out : Out
  pub work : Scratch

abbrev pub lent : {Out : Type 0} → Out → Scratch → Lent Out
lent out work = record { out = out; work = work }

-- the outputs that number r leaves: what is written by 0 (by 11 the factoring's zeros), what was there by every other
unfoldable pub outputs : {Out : Type 0} → ℕ → Out → Out → Out
outputs r written old = cond (r == 0 || r == 11) written old

-- the scratch that number r leaves, where n elements are needed: unchanged by 1 to 6; from 7 on, and at 0, the needed part is all zeros
unfoldable pub worked : ℕ → ℕ → Scratch → Scratch
worked r n old = cond (nat_lt 0 r && nat_lt r 7) old (wiped n old)

-- what number r leaves behind
unfoldable pub leaves : {Out : Type 0} → ℕ → ℕ → Out → Lent Out → Lent Out
leaves r n written old = lent (outputs r written old.out) (worked r n old.work)

-- A part that came back (`placed`), place by place, and what stands in front of a list that was written to. Assumes nothing.
use Rattle.std.proofs.Common.{◌≡◌, ℕ, ◌+◌, ◌-◌, ◌<◌, ◌≤◌, List, ◌++◌, length, get_or, take, drop, ◌∙◌, arith, length-take-le, get_or-drop}
use Rattle.std.proofs.Common.{get_or-take, get_or-append-add}
use lib.ListN.{get_or-append}
use lib.Seq.{take-append_seam}
use Rattle.lists.specs.Calls.{onto, cleared}
use Rattle.lists.proofs.Clearing.{length-cleared, cleared-front}
use Rattle.lists.specs.Parts.{placed}

module _ {A : Type 0} (z : A) (a b : ℕ) (l ys : List A) (h : a ≤ b) (g : b ≤ length l) (e : length ys ≡ b - a) where
  front_long : length (take a l) ≡ a
  front_long = length-take-le a l (omega arith)

  pub placed-before : (q : ℕ) → q < a → get_or (placed a b l ys) q z ≡ get_or l q z
  placed-before q m = get_or-append (take a l) _ z q (omega (arith, front_long)) ∙ get_or-take a l q z m

  -- q places behind a
  behind : (q : ℕ) → get_or (placed a b l ys) (a + q) z ≡ get_or (ys ++ drop (b - a) (drop a l)) q z
  behind q = rw front_long at (get_or-append-add (take a l) (ys ++ drop (b - a) (drop a l)) q z)

  pub placed_inside : (q : ℕ) → a ≤ q → q < b → get_or (placed a b l ys) q z ≡ get_or ys (q - a) z
  placed_inside q m n =
      let f : a + (q - a) ≡ q = omega arith in
      (rw f at (behind (q - a))) ∙ get_or-append ys _ z (q - a) (omega arith)

  pub placed-after : (q : ℕ) → b ≤ q → get_or (placed a b l ys) q z ≡ get_or l q z
  placed-after q m =
      let f : a + (q - a) ≡ q = omega arith in
      let i : length ys + (q - b) ≡ q - a = omega arith in
      let j : (b - a) + (q - b) ≡ q - a = omega arith in
      (rw f at (behind (q - a)))
      ∙ (rw i at (get_or-append-add ys (drop (b - a) (drop a l)) (q - b) z))
      ∙ (rw j at (get_or-drop (b - a) (drop a l) (q - b) z))
      ∙ (rw f at (get_or-drop a l (q - a) z))

-- what was written to the front
pub take-onto : {A : Type 0} (n : ℕ) (d g : List A) → length g ≡ n → take n (onto d g) ≡ g
unfolding onto
take-onto n d g e = rw (← e) (take-append_seam g (drop (length g) d))

-- a cleared front, handed on as a part
module _ (n : ℕ) (l : List ℕ) (h : n ≤ length l) where
  pub front-cleared_long : length (take n (cleared 0 n l)) ≡ n
  front-cleared_long = length-take-le n (cleared 0 n l) (omega (arith, length-cleared 0 n l))

  pub front-cleared : (k : ℕ) → k < n → get_or (take n (cleared 0 n l)) k 0 ≡ 0
  front-cleared k m = get_or-take n (cleared 0 n l) k 0 m ∙ cleared-front 0 n l k m

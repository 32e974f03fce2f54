-- A part of a list once an element is stored behind it, or elsewhere; and parts that lie one behind the other. Assumes nothing.
use Rattle.std.proofs.Common.{◌≡◌, ℕ, zero, suc, ◌+◌, ◌-◌, ◌<◌, ◌≤◌, ◌⊎◌, List, [], ◌∷◌, ◌++◌, length, get_or, take, drop, set, ap, ◌∙◌, ⊎_elim}
use Rattle.std.proofs.Common.{arith, length-drop, take-take, drop-drop, take-suc-set, drop-set-lt, take-add}
use mathlib.Core.List.{flatten}
use lib.Seq.{drop-set-add, take-set-le}
use Rattle.lists.specs.Tables.{from}
use Rattle.lists.proofs.Bools.{le-or-lt}
use Rattle.lists.proofs.Parts.{left_at}
use Rattle.lists.specs.Parts.{part}

module _ {A : Type 0} where
  -- its end stored
  pub part-push : (s e : ℕ) (l : List A) (a : A) → s ≤ e → e < length l → part s (e + 1) (set l e a) ≡ part s e l ++ (a ∷ [])
  part-push s e l a h g =
      let i : e + 1 - s ≡ suc (e - s) = omega arith in
      let m : s + (e - s) ≡ e = omega arith in
      let d = rw m at (drop-set-add s l (e - s) a) in
      rw (i, d) (take-suc-set (drop s l) (e - s) a (omega (arith, length-drop s l)))

  -- a place outside stored
  pub part_apart : (s e z : ℕ) (l : List A) (a : A) → (e ≤ z) ⊎ (z < s) → part s e (set l z a) ≡ part s e l
  part_apart s e z l a o = ⊎_elim (λ (h : e ≤ z). ⊎_elim (λ (g : s ≤ z). behind h g) (λ (g : z < s). before g) (le-or-lt s z))
      (λ (g : z < s). before g) o
    where
      before : z < s → part s e (set l z a) ≡ part s e l
      before g = rw (drop-set-lt s l z a g)

      behind : e ≤ z → s ≤ z → part s e (set l z a) ≡ part s e l
      behind h g =
          let m : s + (z - s) ≡ z = omega arith in
          let d = rw m at (drop-set-add s l (z - s) a) in
          rw d (take-set-le (e - s) (drop s l) (z - s) a (omega arith))

  -- its first element
  pub part-first : (s e : ℕ) (l : List A) (d : A) → s < e → e ≤ length l → part s e l ≡ get_or l s d ∷ part (s + 1) e l
  part-first s e l d h g = let i : e - s ≡ suc (e - (s + 1)) = omega arith in rw (i, left_at l s d (omega arith))

  -- its front
  pub part_shorter : (s e hi : ℕ) (l : List A) → e ≤ hi → take (e - s) (part s hi l) ≡ part s e l
  part_shorter s e hi l h = take-take (e - s) (hi - s) (drop s l) (omega arith)

  -- two parts, one behind the other
  pub part-append : (a b c : ℕ) (l : List A) → a ≤ b → b ≤ c → part a b l ++ part b c l ≡ part a c l
  part-append a b c l h g =
      let e : c - a ≡ b - a + (c - b) = omega arith in
      let d : a + (b - a) ≡ b = omega arith in
      rw (e, take-add (b - a) (c - b) (drop a l), drop-drop (b - a) a l, d)

  -- all parts between places that climb
  pub parts_laid : (n : ℕ) (p q : List ℕ) (l : List A) → ((a b : ℕ) → a ≤ b → b ≤ n → get_or p a 0 ≤ get_or p b 0) →
      ((j : ℕ) → j < n → get_or q j 0 ≡ get_or p (j + 1) 0)
      → (b m : ℕ) → b + m ≤ n → flatten (from (λ j. part (get_or p j 0) (get_or q j 0) l) b m) ≡ part (get_or p b 0) (get_or p (b + m) 0) l
  unfolding flatten from
  parts_laid n p q l up is b zero h =
      let e : b + 0 ≡ b = omega arith in
      let z : get_or p b 0 - get_or p b 0 ≡ 0 = omega arith in
      rw (e, z)
  parts_laid n p q l up is b (suc m) h =
      let e : b + suc m ≡ suc b + m = omega arith in
      let s : get_or q b 0 ≡ get_or p (suc b) 0 = is b (omega arith) ∙ ap (λ (j : ℕ). get_or p j 0) {x = b + 1} {y = suc b} (omega arith) in
      rw (s, e, parts_laid n p q l up is (suc b) m (omega arith))
      (part-append (get_or p b 0) (get_or p (suc b) 0) (get_or p (suc b + m) 0) l (up b (suc b) (omega arith) (omega arith))
      (up (suc b) (suc b + m) (omega arith) (omega arith)))

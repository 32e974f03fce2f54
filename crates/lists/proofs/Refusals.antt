-- Refusals and answers by their numbers. Assumes nothing.
use Rattle.std.proofs.Common.{◌≡◌, ℕ, ◌<◌, ◌≤◌, refl, ap, sym, ◌∙◌, arith, Result, Ok, Err}
use Rattle.std.specs.Result.{result_and, IsErrAnd}
use Rattle.std.proofs.lemmas.Result.{err_from_is_err_and}
use Rattle.std.specs.Prelude.{cond, eqb}
use Rattle.lists.specs.Calls.{lower}
use Rattle.lists.specs.Refusals.{number_of, numbered}
use Rattle.lists.specs.declared.refusal.Refusal.{Refusal}
use Rattle.lists.specs.declared.refusal.Refusal.TheVariants.{TooLarge, Disagree, BadPointers, OutOfRange, NotRising, NoScratch}
use Rattle.lists.specs.declared.refusal.Refusal.TheVariants.{NoRoom, WrongAnalysis, Misplaced, NoDiagonal, BadPivot, Malformed}
use Rattle.lists.proofs.Calls.{lower-right, lower_alone, lower_least}

-- no refusal has the number 0
pub refusal-some : (r : Refusal) → number_of r ≡ 0 → ⊥
refusal-some TooLarge e = omega arith
refusal-some Disagree e = omega arith
refusal-some BadPointers e = omega arith
refusal-some OutOfRange e = omega arith
refusal-some NotRising e = omega arith
refusal-some NoScratch e = omega arith
refusal-some NoRoom e = omega arith
refusal-some WrongAnalysis e = omega arith
refusal-some Misplaced e = omega arith
refusal-some NoDiagonal e = omega arith
refusal-some BadPivot e = omega arith
refusal-some Malformed e = omega arith

-- an answer with the number 0 refuses nothing
pub numbered-none : (a : Result Unit Refusal) → numbered a ≡ 0 → a ≡ Ok tt
numbered-none (Ok tt) e = refl
numbered-none (Err r) e = absurd (refusal-some r e)

-- ---- no two answers have the same number
abbrev answer_of : ℕ → Result Unit Refusal
answer_of n =
    cond (eqb n 1) (Err TooLarge) (
    cond (eqb n 2) (Err Disagree) (
    cond (eqb n 3) (Err BadPointers) (
    cond (eqb n 4) (Err OutOfRange) (
    cond (eqb n 5) (Err NotRising) (
    cond (eqb n 6) (Err NoScratch) (
    cond (eqb n 7) (Err NoRoom) (
    cond (eqb n 8) (Err WrongAnalysis) (
    cond (eqb n 9) (Err Misplaced) (
    cond (eqb n 10) (Err NoDiagonal) (
    cond (eqb n 11) (Err BadPivot) (
    cond (eqb n 12) (Err Malformed) (Ok tt))))))))))))

answer_back : (a : Result Unit Refusal) → answer_of (numbered a) ≡ a
answer_back (Ok tt) = refl
answer_back (Err TooLarge) = refl
answer_back (Err Disagree) = refl
answer_back (Err BadPointers) = refl
answer_back (Err OutOfRange) = refl
answer_back (Err NotRising) = refl
answer_back (Err NoScratch) = refl
answer_back (Err NoRoom) = refl
answer_back (Err WrongAnalysis) = refl
answer_back (Err Misplaced) = refl
answer_back (Err NoDiagonal) = refl
answer_back (Err BadPivot) = refl
answer_back (Err Malformed) = refl

pub numbered_only : (a b : Result Unit Refusal) → numbered a ≡ numbered b → a ≡ b
numbered_only a b e = sym (answer_back a) ∙ ap answer_of e ∙ answer_back b

-- ---- `lower`: where one answer refuses nothing, and of two refusals the lower
pub lower-ok_left : (a b : Result Unit Refusal) {x : Unit} → a ≡ Ok x → numbered (result_and a b) ≡ lower (numbered a) (numbered b)
lower-ok_left a b e = rw e (lower-right 0 (numbered b) refl)

pub lower-ok_right : (a b : Result Unit Refusal) {r : Refusal} {x : Unit} → a ≡ Err r → b ≡ Ok x → numbered (result_and a b)
    ≡ lower (numbered a) (numbered b)
lower-ok_right a b {r} e f = rw (e, f) (lower_alone (number_of r))

module _ (a b : Result Unit Refusal) {x y : Refusal} (e : a ≡ Err x) (f : b ≡ Err y) where
  pub lower-first : number_of x < number_of y → numbered a ≡ lower (numbered a) (numbered b)
  lower-first h = rw (e, f) (lower_least (number_of x) (number_of y) (number_of x) (refusal-some x) (refusal-some y) (omega arith))

  pub lower-second : number_of y ≤ number_of x → numbered b ≡ lower (numbered a) (numbered b)
  lower-second h = rw (e, f) (lower_least (number_of x) (number_of y) (number_of y) (refusal-some x) (refusal-some y) (omega arith))

-- ---- after `?` on an answer that refuses: what is passed on is the refusal itself, and its number is not 0
module _ {A : Type 0} (a : Result A Refusal) (e : Refusal) (h : IsErrAnd a (λ r. r ≡ e)) where
  pub passed_on : a ≡ Err e
  passed_on = let p = err_from_is_err_and a h in p.1 ∙ ap Err p.2

  pub passed-number : {n : ℕ} → number_of e ≡ n → numbered a ≡ n
  passed-number f = rw passed_on f

  pub passed-some : numbered a ≡ 0 → ⊥
  passed-some = rw passed_on (refusal-some e)

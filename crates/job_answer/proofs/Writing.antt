-- The ways out of `write_answer`: a slice that is too short, and one that is not. Assumes nothing.
use mathlib.Core.Bool.{Bool, cond}
use mathlib.Core.Logic.{⊎_elim}
use mathlib.Core.Path.{◌≡◌, refl, sym, ap, ◌∙◌}
use mathlib.Core.List.{List, [], ◌++◌, append-nil}
use Prim.Native.Nat.{ℕ, zero, suc, ◌*◌, ◌/◌, ◌≤◌, ◌<◌}
use native.Mathlib.Omega.{arith}
use lib.Ieee.{Float}
use lib.ListN.{length, drop, take-append-drop}
use borrow.Author.Tests.{lt-ltb, le-ltb}
use Rattle.std.specs.Prelude.{Result, Ok, Err, IsOk}
use Rattle.lists.specs.Calls.{onto}
use Rattle.lists.specs.declared.refusal.Refusal.{Refusal}
use Rattle.lists.specs.declared.refusal.Refusal.TheVariants.{NoRoom}
use Rattle.lists.proofs.Bools.{eq-or-ne}
use Rattle.little.specs.Little.{bytes}
use Rattle.job_answer.specs.Lines.{NO, bytes_of, text, rows, lines}
use Rattle.job_answer.specs.Answer.{answer, leaves, Put}
use Rattle.job_answer.proofs.Putting.{length-rows}

short : (w old : List ℕ) → length old < length w → (Err NoRoom ≡ answer w old) × (old ≡ leaves w old)
unfolding answer leaves
short w old h =
    let e = lt-ltb (length old) (length w) h in
    (sym (ap (λ (b : Bool). cond b (Err NoRoom) (Ok (length w))) e), sym (ap (λ (b : Bool). cond b old (onto old w)) e))

-- where there is room for all of it, it is written, and stays within the slice
module _ (w old : List ℕ) (r : Result ℕ Refusal) (e : r ≡ answer w old) (h : length w ≤ length old) where
  all-written : r ≡ Ok (length w)
  unfolding answer
  all-written = e ∙ ap (λ (b : Bool). cond b (Err NoRoom) (Ok (length w))) (le-ltb (length old) (length w) h)

  pub written-ok : IsOk r
  written-ok = rw all-written refl

  pub written-within : (n : ℕ) (new : List ℕ) → r ≡ Ok n → length new ≡ length old → n ≤ length new
  written-within n new f l = let g : n ≡ length w = cc (all-written, f) in omega (arith, g, h, l)

room : (w old new : List ℕ) (e : ℕ) → length w ≤ length old → Put old 0 w e new → (Ok e ≡ answer w old) × (new ≡ leaves w old)
unfolding answer leaves onto
room w old new e h p =
    let f = le-ltb (length old) (length w) h in
    let g : e ≡ length w = omega (arith, p.end) in
    let i : new ≡ w ++ drop (length w) old =
    sym (take-append-drop e new) ∙ ap (λ (l : List ℕ). l ++ drop e new) p.front ∙ ap (λ (l : List ℕ). w ++ l) p.behind ∙
    ap (λ (k : ℕ). w ++ drop k old) g in (
      ap Ok g ∙ sym (ap (λ (b : Bool). cond b (Err NoRoom) (Ok (length w))) f),
      i ∙ sym (ap (λ (b : Bool). cond b old (w ++ drop (length w) old)) f),
    )

-- ---- NO
refusal_is : (number column : ℕ) (x : List Float) → (number ≡ 0 → ⊥) → bytes_of (NO number column) ≡ text (lines number column x)
unfolding text lines
refusal_is zero column x h = absurd (h refl)
refusal_is (suc r) column x h = sym (append-nil (bytes_of (NO (suc r) column)))

seven : (number column : ℕ) → length (bytes_of (NO number column)) ≡ 7
unfolding bytes_of bytes
seven number column = refl

module _ (number column : ℕ) (x : List Float) (h : number ≡ 0 → ⊥) (old : List ℕ) where
  refusal_long : length (text (lines number column x)) ≡ 7
  refusal_long = sym (ap length (refusal_is number column x h)) ∙ seven number column

  pub refusal-short : length old < 7 → (Err NoRoom ≡ answer (text (lines number column x)) old) × (old ≡ leaves (text (lines number column x)) old)
  refusal-short l = short (text (lines number column x)) old (omega (arith, l, refusal_long))

  pub refusal-room : {new : List ℕ} {e r c : ℕ} → r ≡ number → c ≡ column → 7 ≤ length old → Put old 0 (bytes_of (NO r c)) e new
      → (Ok e ≡ answer (text (lines number column x)) old) × (new ≡ leaves (text (lines number column x)) old)
  refusal-room {new = new} {e = e} f g l p =
      let q = rw (f, g, refusal_is number column x h) at p in
      room (text (lines number column x)) old new e (omega (arith, l, refusal_long)) q

-- ---- XV
rows_are : (number column : ℕ) (x : List Float) → number ≡ 0 → text (rows 0 x) ≡ text (lines number column x)
unfolding lines
rows_are zero column x h = refl
rows_are (suc r) column x h = absurd (omega arith)

module _ (number column : ℕ) (x : List Float) (h : number ≡ 0) (old : List ℕ) where
  rows_long : length (text (lines number column x)) ≡ 14 * length x
  rows_long = sym (ap length (rows_are number column x h)) ∙ length-rows 0 x

  pub rows_short : length old / 14 < length x → (Err NoRoom ≡ answer (text (lines number column x)) old) ×
      (old ≡ leaves (text (lines number column x)) old)
  rows_short l = short (text (lines number column x)) old (omega (arith, l, rows_long))

  pub rows-room : {new : List ℕ} {e : ℕ} → length x ≤ length old / 14 → Put old 0 (text (rows 0 x)) e new
      → (Ok e ≡ answer (text (lines number column x)) old) × (new ≡ leaves (text (lines number column x)) old)
  rows-room {new = new} {e = e} l p =
      let q = rw (rows_are number column x h) at p in
      room (text (lines number column x)) old new e (omega (arith, l, rows_long)) q

-- ---- an answer for no more than m rows is no longer than their XV, or than NO
pub text_long : (number column m : ℕ) (x : List Float) → length x ≤ m → 1 ≤ m → length (text (lines number column x)) ≤ 14 * m
text_long number column m x h k =
    ⊎_elim
    (λ (z : number ≡ 0). omega (arith, rows_long number column x z [], h))
    (λ (n : number ≡ 0 → ⊥). omega (arith, refusal_long number column x n [], k))
    (eq-or-ne number 0)

-- The record at a place, by its mark and by how much is left. Assumes nothing.
use mathlib.Core.Path.{◌≡◌, sym, ap, ◌∙◌}
use mathlib.Core.Logic.{⊎_elim}
use mathlib.Core.Bool.{true, false}
use mathlib.Core.List.{List}
use Prim.Native.Nat.{ℕ, ◌+◌, ◌-◌, ◌≤◌, ◌<◌}
use native.Mathlib.Omega.{arith}
use lib.Dec.{eqb}
use lib.ListN.{length, drop, length-drop}
use lib.Seq.{drop-drop}
use borrow.Author.Tests.{le-leb, lt-leb, eq-eqb, ne_eqb}
use Rattle.lists.proofs.Bools.{and-false, eq-or-ne}
use Rattle.little.specs.Little.{little}
use Rattle.job_file.specs.Records.{SZ, EN, RH, GO, first, begins}
use Rattle.job_file.specs.Faults.{malformed}

-- where a record with this mark begins, and where none does: another mark, or too few bytes
does : (mark long : ℕ) (s : List ℕ) → little 2 s ≡ mark → long ≤ length s → begins mark long s ≡ true
unfolding begins
does mark long s e h = simp (eq-eqb (little 2 s) mark e, le-leb long (length s) h)

does_not : (mark long : ℕ) (s : List ℕ) → (little 2 s ≡ mark → length s < long) → begins mark long s ≡ false
unfolding begins
does_not mark long s n =
    ⊎_elim
    (λ (e : little 2 s ≡ mark). rw (lt-leb long (length s) (n e)) (and-false (eqb (little 2 s) mark)))
    (λ (f : little 2 s ≡ mark → ⊥). simp (ne_eqb (little 2 s) mark f))
    (eq-or-ne (little 2 s) mark)

-- no record
wrong : (l : List ℕ) → begins 0x5A53 10 l ≡ false → begins 0x4E45 18 l ≡ false → begins 0x4852 14 l ≡ false → begins 0x4F47 3 l ≡ false →
    malformed (first l) ≡ true
unfolding first malformed
wrong l a b c d = simp (a, b, c, d)

-- a byte behind GO that names no engine
pub no_engine : (byte : ℕ) → (byte ≡ 1 → ⊥) → (byte ≡ 2 → ⊥) → malformed (GO byte) ≡ true
unfolding malformed
no_engine byte a b = simp (ne_eqb byte 1 a, ne_eqb byte 2 b)

-- a place at of s, where x is the mark read
module _ (s : List ℕ) (at : ℕ) where
  abbrev here : List ℕ
  here = drop at s

  long : length here ≡ length s - at
  long = length-drop at s

  behind : (k : ℕ) → drop (at + k) s ≡ drop k here
  behind k = sym (drop-drop k at s)

  module _ {x : ℕ} (m : x ≡ little 2 here) where
    none : (mark k : ℕ) → (x ≡ mark → length s - at < k) → begins mark k here ≡ false
    none mark k n = does_not mark k here (λ e. let f = n (m ∙ e) in omega (arith, long, f))

    pub is_wrong : (x ≡ 0x5A53 → length s - at < 10) → (x ≡ 0x4E45 → length s - at < 18) → (x ≡ 0x4852 → length s - at < 14) →
        (x ≡ 0x4F47 → length s - at < 3) → malformed (first here) ≡ true
    is_wrong a b c d = wrong here (none _ _ a) (none _ _ b) (none _ _ c) (none _ _ d)

    not_this : (k q long : ℕ) → x ≡ k → (k ≡ q → ⊥) → begins q long here ≡ false
    not_this k q long e n = does_not q long here (λ f. absurd (n (sym e ∙ m ∙ f)))

    pub is-SZ : x ≡ 0x5A53 → 10 ≤ length s - at → {n count : ℕ} → n ≡ little 4 (drop (at + 2) s) → count ≡ little 4 (drop (at + 6) s) →
        SZ n count ≡ first here
    unfolding first
    is-SZ e h a b = rw (does 0x5A53 10 here (sym m ∙ e) (omega (arith, long)), a, b, behind 2, behind 6)

    pub is-EN : x ≡ 0x4E45 → 18 ≤ length s - at → {row column bits : ℕ} → row ≡ little 4 (drop (at + 2) s) → column ≡ little 4 (drop (at + 6) s) →
        bits ≡ little 8 (drop (at + 10) s) → EN row column bits ≡ first here
    unfolding first
    is-EN e h a b d = rw (
      not_this 0x4E45 0x5A53 10 e (λ f. omega arith),
      does 0x4E45 18 here (sym m ∙ e) (omega (arith, long)),
      a,
      b,
      d,
      behind 2,
      behind 6,
      behind 10,
    )

    pub is-RH : x ≡ 0x4852 → 14 ≤ length s - at → {row bits : ℕ} → row ≡ little 4 (drop (at + 2) s) → bits ≡ little 8 (drop (at + 6) s) →
        RH row bits ≡ first here
    unfolding first
    is-RH e h a b = rw (
      not_this 0x4852 0x5A53 10 e (λ f. omega arith),
      not_this 0x4852 0x4E45 18 e (λ f. omega arith),
      does 0x4852 14 here (sym m ∙ e) (omega (arith, long)),
      a,
      b,
      behind 2,
      behind 6,
    )

    pub is-GO : x ≡ 0x4F47 → 3 ≤ length s - at → {engine : ℕ} → engine ≡ little 1 (drop (at + 2) s) → GO engine ≡ first here
    unfolding first
    is-GO e h a = rw (
      not_this 0x4F47 0x5A53 10 e (λ f. omega arith),
      not_this 0x4F47 0x4E45 18 e (λ f. omega arith),
      not_this 0x4F47 0x4852 14 e (λ f. omega arith),
      does 0x4F47 3 here (sym m ∙ e) (omega (arith, long)),
      a,
      behind 2,
    )

    -- and GO names no engine
    pub is_no_GO : x ≡ 0x4F47 → 3 ≤ length s - at → {engine : ℕ} → engine ≡ little 1 (drop (at + 2) s) → malformed (GO engine) ≡ true
        → malformed (first here) ≡ true
    is_no_GO e h a w = sym (ap malformed (is-GO e h a)) ∙ w

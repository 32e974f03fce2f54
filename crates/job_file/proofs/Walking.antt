-- A file record by record: the first record, its bytes, and the file behind it. Assumes nothing.
use mathlib.Core.Path.{◌≡◌, refl, ap, ◌∙◌}
use mathlib.Core.Bool.{Bool, true, false, cond}
use mathlib.Core.List.{List, [], ◌∷◌}
use Prim.Native.Nat.{ℕ, zero, suc, ◌+◌, ◌-◌, ◌≤◌, ◌<◌}
use native.Mathlib.Omega.{arith}
use lib.Dec.{eqb, leb}
use lib.ListN.{length, drop, length-drop}
use lib.Seq.{drop-drop}
use borrow.Author.Tests.{eq-eqb, ne_eqb, leb-true}
use Rattle.lists.proofs.Bools.{and-true}
use Rattle.little.specs.Little.{little}
use Rattle.job_file.specs.Records.{Record, SZ, EN, RH, GO, Wrong, size, begins, first, records_past, records}
use Rattle.job_file.specs.Faults.{Job, fault, at_end}
use Rattle.job_file.specs.Reading.{Outcome, taken, reads}

-- a record takes at least one byte, and no more than there are
pub some : (r : Record) → 1 ≤ size r
unfolding size
some (SZ n count) = omega arith
some (EN row column bits) = omega arith
some (RH row bits) = omega arith
some (GO engine) = omega arith
some Wrong = omega arith

either : (b : Bool) (x y : Record) (m : ℕ) → (b ≡ true → size x ≤ m) → size y ≤ m → size (cond b x y) ≤ m
either true x y m p q = p refl
either false x y m p q = q

long_enough : (mark k : ℕ) (l : List ℕ) → begins mark k l ≡ true → k ≤ length l
unfolding begins
long_enough mark k l e = leb-true k (length l) (and-true (eqb (little 2 l) mark) (leb k (length l)) e).1

pub no_more : (l : List ℕ) → 0 < length l → size (first l) ≤ length l
unfolding first size
no_more l h =
    either (begins 0x5A53 10 l) _ _ (length l) (long_enough 0x5A53 10 l)
    (either (begins 0x4E45 18 l) _ _ (length l) (long_enough 0x4E45 18 l)
    (either (begins 0x4852 14 l) _ _ (length l) (long_enough 0x4852 14 l)
    (either (begins 0x4F47 3 l) _ _ (length l) (long_enough 0x4F47 3 l) h)))

-- the first record, and those behind it
past : (k : ℕ) (s : List ℕ) → records_past k s ≡ records_past 0 (drop k s)
unfolding records_past
past zero s = refl
past (suc k) [] = refl
past (suc k) (b ∷ s) = past k s

pub one_by_one : (l : List ℕ) → 0 < length l → records l ≡ first l ∷ records (drop (size (first l)) l)
unfolding records records_past
one_by_one [] h = absurd (omega arith)
one_by_one (b ∷ t) h =
    let f = first (b ∷ t) in
    let e : suc (size f - 1) ≡ size f = omega (arith, some f) in
    ap (λ (rs : List Record). f ∷ rs) (past (size f - 1) t ∙ ap (λ (k : ℕ). records_past 0 (drop k (b ∷ t))) e)

pub within_file : (s : List ℕ) (at : ℕ) {r : Record} {k : ℕ} → at < length s → r ≡ first (drop at s) → k ≡ size r → (at + k ≤ length s) × (1 ≤ k)
within_file s at {r = r} {k = k} h e f =
    let m : 0 < length (drop at s) = omega (arith, length-drop at s) in
    let n : size r ≤ length (drop at s) = rw e (no_more (drop at s) m) in
    (omega (arith, f, n, length-drop at s), omega (arith, f, some r))

pub rest-is : (s : List ℕ) (at : ℕ) {r : Record} {k : ℕ} → at < length s → r ≡ first (drop at s) → k ≡ size r → records (drop at s)
    ≡ r ∷ records (drop (at + k) s)
rest-is s at {r = r} {k = k} h e f =
    rw (f, e) (one_by_one (drop at s) (omega (arith, length-drop at s)) ∙
    ap (λ (l : List ℕ). first (drop at s) ∷ records l) (drop-drop (size (first (drop at s))) at s))

-- a record without a fault is taken, the first faulty one ends the reading
pub reads_on : (r : Record) (rs : List Record) (j : Job) → fault j r ≡ 0 → reads (r ∷ rs) j ≡ reads rs (taken j r)
unfolding reads
reads_on r rs j e = ap (λ (b : Bool). elim b as (λ _. Outcome) [ true ↦ reads rs (taken j r) | false ↦ record { number = fault j r; job = j } ])
    (eq-eqb (fault j r) 0 e)

pub reads_stop : (r : Record) (rs : List Record) (j : Job) → (fault j r ≡ 0 → ⊥) → reads (r ∷ rs) j ≡ record { number = fault j r; job = j }
unfolding reads
reads_stop r rs j e = ap (λ (b : Bool). elim b as (λ _. Outcome) [ true ↦ reads rs (taken j r) | false ↦ record { number = fault j r; job = j } ])
    (ne_eqb (fault j r) 0 e)

pub reads_end : (j : Job) → reads (records []) j ≡ record { number = at_end j; job = j }
unfolding reads records records_past
reads_end j = refl

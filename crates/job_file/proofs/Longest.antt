-- No file is decided by what stands behind the longest sound file and one record more: 40,461 bytes and 18. Assumes nothing.
use mathlib.Core.Path.{◌≡◌, refl, sym, ap, ◌∙◌}
use mathlib.Core.Logic.{⊎_elim}
use mathlib.Core.List.{List, [], ◌∷◌}
use Prim.Native.Nat.{ℕ, zero, suc, ◌+◌, ◌*◌, ◌-◌, ◌≤◌, ◌<◌}
use native.Mathlib.Omega.{arith}
use lib.ListN.{length, take, drop, length-append, length-drop}
use lib.Seq.{length-take-le, take_all}
use borrow.Author.Tests.{le-leb}
use Rattle.lists.proofs.Bools.{le-or-lt, eq-or-ne}
use Rattle.little.specs.Little.{little}
use Rattle.little.proofs.Reading.{little-take}
use Rattle.job_file.specs.Records.{Record, SZ, EN, RH, GO, Wrong, size, begins, first, records}
use Rattle.job_file.specs.Faults.{Job, fault}
use Rattle.job_file.specs.Reading.{empty, with_entry, taken, reads, read_file}
use Rattle.lists.proofs.Parts.{drop-take}
use Rattle.job_file.proofs.Meaning.{sz_means, en_means, rh_means, go_means, wrong_means}
use Rattle.job_file.proofs.Walking.{one_by_one, some, reads_on, reads_stop}

-- ---- the first record of a front that has room for any record
field : (d k m : ℕ) (l : List ℕ) → d + k ≤ m → little k (drop d (take m l)) ≡ little k (drop d l)
field d k m l h = ap (little k) (drop-take d m l) ∙ little-take k (m - d) (drop d l) (omega arith)

module _ (m : ℕ) (l : List ℕ) (h : 18 ≤ m) (g : m < length l) where
  begins-take : (mark long : ℕ) → long ≤ 18 → begins mark long (take m l) ≡ begins mark long l
  unfolding begins
  begins-take mark long n =
      rw (little-take 2 m l (omega arith), length-take-le m l (omega arith), le-leb long m (omega arith), le-leb long (length l) (omega arith))

  first-take : first (take m l) ≡ first l
  unfolding first
  first-take =
      rw (
        begins-take 0x5A53 10 (omega arith),
        begins-take 0x4E45 18 (omega arith),
        begins-take 0x4852 14 (omega arith),
        begins-take 0x4F47 3 (omega arith),
        field 2 4 m l (omega arith),
        field 6 4 m l (omega arith),
        field 10 8 m l (omega arith),
        field 6 8 m l (omega arith),
        field 2 1 m l (omega arith),
      )

-- ---- m bytes are enough for what a sound file may still have where j stands, and for any record behind it
pub record Ahead (j : Job) (m : ℕ) : Type 0 where
  pub any : 18 ≤ m
  pub fresh : j.place.stage ≡ 0 → (40479 ≤ m) × (length j.entries.rows ≡ 0)
  pub going : j.place.stage ≡ 1 → (18 * (j.count - length j.entries.rows) + 14 * (j.n - j.place.next) + 21 ≤ m) × (length j.entries.rows ≤ j.count)

ahead_empty : (m : ℕ) → 40479 ≤ m → Ahead empty m
ahead_empty m h = record { any = omega arith; fresh = λ e. (h, refl); going = λ e. absurd (omega arith) }

ahead_on : (j : Job) (r : Record) (m : ℕ) → fault j r ≡ 0 → Ahead j m → (size r ≤ m) × Ahead (taken j r) (m - size r)
unfolding taken with_entry size
ahead_on j (SZ n count) m z v =
    let a = sz_means j n count z in
    let f = v.fresh a.0 in (
      omega (arith, f.0),
      record {
        any = omega (arith, f.0);
        fresh = λ e. absurd (omega arith);
        going = λ e. (omega (arith, f.0, a.1, a.2), omega (arith, f.1));
      },
    )
ahead_on j (EN row column bits) m z v =
    let a = en_means j row column bits z in
    let g = v.going a.0 in
    let ne = a.1 in
    let lt : length j.entries.rows < j.count = omega (arith, g.1, ne) in
    let long = length-append j.entries.rows (row ∷ []) in
    let one : length (row ∷ []) ≡ 1 = refl in (
      omega (arith, g.0),
      record {
        any = omega (arith, g.0);
        fresh = λ e. absurd (omega (arith, e, a.0));
        going = λ e. (omega (arith, g.0, long, one), omega (arith, long, one));
      },
    )
ahead_on j (RH row bits) m z v =
    let a = rh_means j row bits z in
    let g = v.going a.0 in (
      omega (arith, g.0, a.1, a.2),
      record {
        any = omega (arith, g.0, a.1, a.2);
        fresh = λ e. absurd (omega (arith, e, a.0));
        going = λ e. (omega (arith, g.0, a.1, a.2), g.1);
      },
    )
ahead_on j (GO engine) m z v =
    let a = go_means j engine z in
    let g = v.going a.0 in (
      omega (arith, g.0),
      record {
        any = omega (arith, g.0);
        fresh = λ e. absurd (omega arith);
        going = λ e. absurd (omega arith);
      },
    )
ahead_on j Wrong m z v = let t = wrong_means j in absurd (omega (arith, t, z))

-- ---- what is read of the front is what is read of the whole
module _ (l : List ℕ) (j : Job) (m : ℕ) (h : 18 ≤ m) (g : m < length l) where
  front : records (take m l) ≡ first l ∷ records (take (m - size (first l)) (drop (size (first l)) l))
  front =
      one_by_one (take m l) (omega (arith, length-take-le m l (omega arith)))
      ∙ ap (λ (r : Record). r ∷ records (drop (size r) (take m l))) (first-take m l h g)
      ∙ ap (λ (t : List ℕ). first l ∷ records t) (drop-take (size (first l)) m l)

  step :
      (fault j (first l) ≡ 0
      → reads (records (take (m - size (first l)) (drop (size (first l)) l))) (taken j (first l)) ≡ reads (records (drop (size (first l)) l))
      (taken j (first l)))
      → reads (records (take m l)) j ≡ reads (records l) j
  step i =
      let whole = ap (λ (rs : List Record). reads rs j) (one_by_one l (omega arith)) in
      let cut = ap (λ (rs : List Record). reads rs j) front in
      ⊎_elim
      (λ (z : fault j (first l) ≡ 0). cut ∙ reads_on (first l) _ j z ∙ i z ∙ sym (reads_on (first l) _ j z) ∙ sym whole)
      (λ (n : fault j (first l) ≡ 0 → ⊥). cut ∙ reads_stop (first l) _ j n ∙ sym (reads_stop (first l) _ j n) ∙ sym whole)
      (eq-or-ne (fault j (first l)) 0)

same : (f : ℕ) (l : List ℕ) (j : Job) (m : ℕ) → length l ≤ f → Ahead j m → reads (records (take m l)) j ≡ reads (records l) j
same zero l j m b v = ap (λ (t : List ℕ). reads (records t) j) (take_all m l (omega arith))
same (suc f) l j m b v =
    ⊎_elim
    (λ (h : length l ≤ m). ap (λ (t : List ℕ). reads (records t) j) (take_all m l h))
    (λ (g : m < length l).
    step l j m v.any g
    (λ z.
    same f (drop (size (first l)) l) (taken j (first l)) (m - size (first l))
    (omega (arith, length-drop (size (first l)) l, some (first l)))
    (ahead_on j (first l) m z v).1))
    (le-or-lt (length l) m)

-- the number and what was read are those of the first m bytes, where m is 40,479 or more
pub past_longest : (s : List ℕ) (m : ℕ) → 40479 ≤ m → read_file (take m s) ≡ read_file s
unfolding read_file
past_longest s m h = same (length s) s empty m (omega arith) (ahead_empty m h)

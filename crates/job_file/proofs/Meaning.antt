-- What it means that a record has no fault where it stands. Assumes nothing.
use mathlib.Core.Path.{◌≡◌, refl}
use mathlib.Core.Bool.{Bool, true, false, not, ◌&&◌, ◌||◌}
use Prim.Native.Nat.{ℕ, ◌≤◌, ◌<◌}
use lib.Dec.{leb, ltb, eqb}
use lib.ListN.{length}
use borrow.Author.Tests.{eqb-true, eqb-false, ltb-false, leb-false}
use Rattle.lists.proofs.Bools.{and-true, failed, passed_over, or-false, not_holds}
use Rattle.job_file.specs.Records.{SZ, EN, RH, GO, Wrong}
use Rattle.job_file.specs.Faults.{Job, fault, turn, malformed, oversized, outside, fallen, repeated, complete}

module _ (j : Job) where
  abbrev full : Bool
  full = eqb (length j.entries.rows) j.count

  pub sz_means : (n count : ℕ) → fault j (SZ n count) ≡ 0 → (j.place.stage ≡ 0) × (n ≤ 256) × (count ≤ 2048)
  unfolding fault malformed turn oversized outside fallen repeated
  sz_means n count z =
      let p = passed_over (not (eqb j.place.stage 0)) 11 _ z in
      let q = or-false (ltb 256 n) (ltb 2048 count) (passed_over (ltb 256 n || ltb 2048 count) 0 0 p.1).0 in
      (eqb-true j.place.stage 0 (not_holds _ p.0), ltb-false 256 n q.0, ltb-false 2048 count q.1)

  pub en_means : (row column bits : ℕ) → fault j (EN row column bits) ≡ 0
      → (j.place.stage ≡ 1) × (length j.entries.rows ≡ j.count → ⊥) × (row < j.n) × (column < j.n)
  unfolding fault malformed turn oversized outside fallen repeated complete
  en_means row column bits z =
      let p = passed_over (not (eqb j.place.stage 1 && not full)) 11 _ z in
      let a = and-true (eqb j.place.stage 1) (not full) (not_holds _ p.0) in
      let q = passed_over (leb j.n row || leb j.n column) 3 _ p.1 in
      let b = or-false (leb j.n row) (leb j.n column) q.0 in (
        eqb-true j.place.stage 1 a.0,
        eqb-false (length j.entries.rows) j.count (failed {r = full} refl a.1),
        leb-false j.n row b.0,
        leb-false j.n column b.1,
      )

  pub rh_means : (row bits : ℕ) → fault j (RH row bits) ≡ 0 → (j.place.stage ≡ 1) × (row < j.n) × (j.place.next ≤ row)
  unfolding fault malformed turn oversized outside fallen repeated complete
  rh_means row bits z =
      let p = passed_over (not (eqb j.place.stage 1 && full)) 11 _ z in
      let a = and-true (eqb j.place.stage 1) full (not_holds _ p.0) in
      let q = passed_over (leb j.n row) 3 _ p.1 in
      let s = passed_over (ltb row j.place.next) 4 _ q.1 in
      (eqb-true j.place.stage 1 a.0, leb-false j.n row q.0, ltb-false row j.place.next s.0)

  pub go_means : (engine : ℕ) → fault j (GO engine) ≡ 0 → (j.place.stage ≡ 1) × ((engine ≡ 1 → ⊥) → engine ≡ 2)
  unfolding fault malformed turn oversized outside fallen repeated complete
  go_means engine z =
      let p = passed_over (not (eqb engine 1 || eqb engine 2) || not (eqb j.place.stage 1 && full)) 11 _ z in
      let q = or-false (not (eqb engine 1 || eqb engine 2)) (not (eqb j.place.stage 1 && full)) p.0 in
      let a = and-true (eqb j.place.stage 1) full (not_holds _ q.1) in
      (eqb-true j.place.stage 1 a.0, λ n. eqb-true engine 2 (other (eqb engine 1) (eqb engine 2) (not_holds _ q.0) (λ e. n (eqb-true engine 1 e))))
    where
      other : (a b : Bool) → (a || b) ≡ true → (a ≡ true → ⊥) → b ≡ true
      other true b e n = absurd (n refl)
      other false b e n = e

  pub wrong_means : fault j Wrong ≡ 12
  unfolding fault malformed
  wrong_means = refl

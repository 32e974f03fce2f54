-- The number of a record, by the tests of the code: one law for each answer. Assumes nothing.
use mathlib.Core.Path.{◌≡◌, refl, sym, ap, ◌∙◌}
use mathlib.Core.Bool.{Bool, true, false, not, ◌&&◌, ◌||◌}
use mathlib.Core.List.{List, [], ◌∷◌}
use mathlib.Core.Logic.{◌⊎◌, ⊎_elim}
use Prim.Native.Nat.{ℕ, ◌≤◌, ◌<◌}
use native.Mathlib.Omega.{arith}
use lib.Dec.{leb, ltb, eqb}
use lib.ListN.{length, take}
use lib.Seq.{length-take-le}
use borrow.Author.Tests.{lt-ltb, le-ltb, le-leb, lt-leb, eq-eqb, ne_eqb}
use Rattle.std.specs.Prelude.{◌==◌}
use Rattle.std.specs.List.{list_any, zip}
use Rattle.lists.specs.Calls.{lowest}
use Rattle.job_file.specs.declared.read.Head.{Head}
use Rattle.job_file.specs.declared.read.Engine.{Engine}
use Rattle.job_file.specs.declared.read.Engine.TheVariants.{Left, Up}
use Rattle.job_file.specs.declared.read.Stage.{Stage}
use Rattle.job_file.specs.declared.read.Stage.TheVariants.{Start, Sized, Ended}
use Rattle.job_file.specs.declared.record.Found.{Found}
use Rattle.job_file.specs.Records.{Record, SZ, EN, RH, GO}
use Rattle.job_file.specs.Faults.{Job, fault, turn, malformed, oversized, outside, fallen, repeated, complete, given}
use Rattle.job_file.specs.Arrays.{Arrays}
use Rattle.job_file.specs.Told.{byte, place_of, told}
use Rattle.job_file.specs.Keeping.{held_by, Judged}

-- a stage by its number
at_start : (s : Stage) → place_of s ≡ 0 → s ≡ Start
at_start Start e = refl
at_start Sized e = absurd (omega arith)
at_start (Ended engine) e = absurd (omega arith)

at_sized : (s : Stage) → place_of s ≡ 1 → s ≡ Sized
at_sized Start e = absurd (omega arith)
at_sized Sized e = refl
at_sized (Ended engine) e = absurd (omega arith)

-- the number of what was found, once it is known which
pub by_kind : (h : Head) (l : Arrays) {r x : Found} {y : ℕ} → r ≡ x → y ≡ fault (held_by h l) (told x) → y ≡ fault (held_by h l) (told r)
by_kind h l e f = f ∙ sym (ap (λ (z : Found). fault (held_by h l) (told z)) e)

-- 12 wherever it stands
pub malformed_is : (j : Job) (r : Record) → malformed r ≡ true → fault j r ≡ 12
unfolding fault
malformed_is j r e = simp e

module _ (h : Head) (n count : ℕ) where
  sz : (l : Arrays) → fault (held_by h l) (SZ n count) ≡ lowest ((12, not (eqb (place_of h.stage) 0)) ∷ (1, ltb 256 n || ltb 2048 count) ∷ [])
  unfolding fault malformed turn oversized outside fallen repeated
  sz l = refl

  pub sz_late : (h.stage ≡ Start → ⊥) → Judged h (SZ n count) 12
  sz_late a = record { is = λ l p. sym (sz l ∙ simp (ne_eqb (place_of h.stage) 0 (λ e. a (at_start h.stage e)))) }

  module _ (a : h.stage ≡ Start) where
    stage_is : eqb (place_of h.stage) 0 ≡ true
    stage_is = eq-eqb (place_of h.stage) 0 (ap place_of a)

    pub sz_over : (256 < n) ⊎ ((n ≤ 256) × (2048 < count)) → Judged h (SZ n count) 1
    sz_over b = record {
      is = λ l p. sym (sz l ∙ ⊎_elim
          (λ (c : 256 < n). simp (stage_is, lt-ltb 256 n c))
          (λ (c : (n ≤ 256) × (2048 < count)). simp (stage_is, le-ltb 256 n c.0, lt-ltb 2048 count c.1))
          b);
    }

    pub sz_sound : n ≤ 256 → count ≤ 2048 → Judged h (SZ n count) 0
    sz_sound b c = record { is = λ l p. sym (sz l ∙ simp (stage_is, le-ltb 256 n b, le-ltb 2048 count c)) }

-- the search for a place
pub given_is : (row column : ℕ) (xs ys : List ℕ) → list_any (λ p. (p.0 == row) && (p.1 == column)) (zip xs ys) ≡ given row column xs ys
unfolding given
given_is row column [] ys = refl
given_is row column (x ∷ xs) [] = refl
given_is row column (x ∷ xs) (y ∷ ys) = ap (λ (b : Bool). (eqb x row && eqb y column) || b) (given_is row column xs ys)

module _ (h : Head) where
  not_sized : (h.stage ≡ Sized → ⊥) → eqb (place_of h.stage) 1 ≡ false
  not_sized a = ne_eqb (place_of h.stage) 1 (λ e. a (at_sized h.stage e))

  sized : h.stage ≡ Sized → eqb (place_of h.stage) 1 ≡ true
  sized a = eq-eqb (place_of h.stage) 1 (ap place_of a)

module _ (h : Head) (l : Arrays) (long : h.entries ≤ length l.rows) where
  complete-is : complete (held_by h l) ≡ eqb h.entries h.count
  unfolding complete
  complete-is = rw (length-take-le h.entries l.rows long)

  module _ (row column bits : ℕ) where
    en :
        fault (held_by h l) (EN row column bits)
        ≡ lowest
        ((12, not (eqb (place_of h.stage) 1 && not (eqb h.entries h.count)))
        ∷ (4, leb h.n row || leb h.n column)
        ∷ (9, given row column (take h.entries l.rows) (take h.entries l.columns))
        ∷ [])
    unfolding fault malformed turn oversized outside fallen repeated
    en = rw (complete-is)

    pub en_late : (h.stage ≡ Sized → ⊥) → 12 ≡ fault (held_by h l) (EN row column bits)
    en_late a = sym (en ∙ simp (not_sized h a))

    module _ (a : h.stage ≡ Sized) where
      pub en_over : h.entries ≡ h.count → 12 ≡ fault (held_by h l) (EN row column bits)
      en_over b = sym (en ∙ simp (sized h a, eq-eqb h.entries h.count b))

      module _ (b : h.entries ≡ h.count → ⊥) where
        pub en_outside : (h.n ≤ row) ⊎ ((row < h.n) × (h.n ≤ column)) → 4 ≡ fault (held_by h l) (EN row column bits)
        en_outside c =
            sym
            (en
            ∙ ⊎_elim
            (λ (d : h.n ≤ row). simp (sized h a, ne_eqb h.entries h.count b, le-leb h.n row d))
            (λ (d : (row < h.n) × (h.n ≤ column)). simp (sized h a, ne_eqb h.entries h.count b, lt-leb h.n row d.0, le-leb h.n column d.1))
            c)

        module _ (c : row < h.n) (d : column < h.n) {w : ℕ} {g : Bool} (f : w ≡ h.entries)
            (i : g ≡ list_any (λ p. (p.0 == row) && (p.1 == column)) (zip (take w l.rows) (take w l.columns))) where
          is_there : g ≡ given row column (take h.entries l.rows) (take h.entries l.columns)
          is_there = let j = i ∙ given_is row column (take w l.rows) (take w l.columns) in rw f at j

          pub en_again : g ≡ true → 9 ≡ fault (held_by h l) (EN row column bits)
          en_again k = sym (en ∙ simp (sized h a, ne_eqb h.entries h.count b, lt-leb h.n row c, lt-leb h.n column d, sym is_there ∙ k))

          pub en_sound : g ≡ false → 0 ≡ fault (held_by h l) (EN row column bits)
          en_sound k = sym (en ∙ simp (sized h a, ne_eqb h.entries h.count b, lt-leb h.n row c, lt-leb h.n column d, sym is_there ∙ k))

  rh :
      (row bits : ℕ)
      → fault (held_by h l) (RH row bits)
      ≡ lowest ((12, not (eqb (place_of h.stage) 1 && eqb h.entries h.count)) ∷ (4, leb h.n row) ∷ (5, ltb row h.next) ∷ [])
  unfolding fault malformed turn oversized outside fallen repeated
  rh row bits = rw (complete-is)

  go :
      (engine : Engine)
      → fault (held_by h l) (GO (byte engine)) ≡ lowest ((12, not (eqb (place_of h.stage) 1 && eqb h.entries h.count)) ∷ [])
  unfolding fault malformed turn oversized outside fallen repeated
  go Left = rw (complete-is)
  go Up = rw (complete-is)

-- the turn of RH and of GO
module _ (h : Head) {b : Bool} (is : b ≡ (eqb (place_of h.stage) 1 && eqb h.entries h.count)) where
  module _ (row bits : ℕ) where
    pub rh_unfilled : b ≡ false → Judged h (RH row bits) 12
    rh_unfilled f = record { is = λ l p. sym (rh h l p row bits ∙ simp (sym is ∙ f)) }

    module _ (t : b ≡ true) where
      pub rh_row : h.n ≤ row → Judged h (RH row bits) 4
      rh_row c = record { is = λ l p. sym (rh h l p row bits ∙ simp (sym is ∙ t, le-leb h.n row c)) }

      pub rh_low : row < h.n → row < h.next → Judged h (RH row bits) 5
      rh_low c d = record { is = λ l p. sym (rh h l p row bits ∙ simp (sym is ∙ t, lt-leb h.n row c, lt-ltb row h.next d)) }

      pub rh_sound : row < h.n → h.next ≤ row → Judged h (RH row bits) 0
      rh_sound c d = record { is = λ l p. sym (rh h l p row bits ∙ simp (sym is ∙ t, lt-leb h.n row c, le-ltb row h.next d)) }

  module _ (engine : Engine) where
    pub go_unfilled : b ≡ false → Judged h (GO (byte engine)) 12
    go_unfilled f = record { is = λ l p. sym (go h l p engine ∙ simp (sym is ∙ f)) }

    pub go_sound : b ≡ true → Judged h (GO (byte engine)) 0
    go_sound t = record { is = λ l p. sym (go h l p engine ∙ simp (sym is ∙ t)) }

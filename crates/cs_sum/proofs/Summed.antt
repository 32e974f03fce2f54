-- The loops of `count` and `fill`, and the ways out of `sum`. Assumes nothing.
use mathlib.Core.Path.{◌≡◌, refl, sym, ap as cong, ◌∙◌}
use mathlib.Core.Bool.{Bool, false, not, cond}
use mathlib.Core.List.{List, [], ◌∷◌, map}
use Prim.Native.Nat.{ℕ, ◌+◌, ◌≤◌, ◌<◌}
use native.Mathlib.Omega.{arith}
use lib.Dec.{eqb}
use lib.Ieee.{Float}
use lib.ListN.{length, get_or, set, length-map}
use borrow.Author.Tests.{eqb-true}
use Rattle.lists.specs.Calls.{lowest, outputs}
use Rattle.lists.specs.Choices.{chosen}
use Rattle.lists.proofs.Bools.{or-false, not_holds, passed_over}
use Rattle.lists.proofs.Calls.{first, then, below_7, left_alone, left-written}
use Rattle.lists.proofs.Tables.{length-table}
use Rattle.cs_matrix.specs.Matrix.{Matrix, Stored, stored, column, short, written, Valid}
use Rattle.cs_matrix.proofs.Pointers.{between, length-column, last-at}
use Rattle.cs_matrix.specs.Columns.{IsColumn}
use Rattle.cs_columns.specs.Columns.{joined, with_columns, with_entries, either, laid, judged_two, short_for}
use Rattle.cs_columns.proofs.Filling.{Filling, filling_start, filling_turn, filling_end, filling_at, filling_i, filling_v, room_i, room_v, room_p}
use Rattle.cs_columns.proofs.Filling.{room-all}
use Rattle.cs_matrix.proofs.Handing.{column-alike, column-below, column-up}
use Rattle.cs_columns.proofs.Joining.{joined-none, length_more, joined-steps, joined_alike, entries-within, entries_valid}
use Rattle.cs_columns.proofs.Judging.{alone_7, early_two, Passed, passed, Roomy, roomy, short_fewer, short_for_lem}
use Rattle.cs_columns.proofs.Merging.{either-most, either-fewer}
use Rattle.cs_sum.specs.Steps.{Risen, Column, Alike, Ready}
use Rattle.cs_sum.specs.Sum.{summed_at, row_of, value_of, sum, differ, number}

-- ---- `differ`
same_dimensions : (n m k l : ℕ) → differ n m k l ≡ false → (n ≡ k) × (m ≡ l)
unfolding differ
same_dimensions n m k l h = let x = or-false (not (eqb n k)) _ h in (eqb-true n k (not_holds _ x.0), eqb-true m l (not_holds _ x.1))

module _ (a b : Matrix) where
  abbrev nrows : ℕ
  nrows = a.pattern.nrows

  abbrev ncols : ℕ
  ncols = a.pattern.ncols

  abbrev ap : List ℕ
  ap = a.pattern.p

  abbrev ai : List ℕ
  ai = a.pattern.i

  abbrev av : List Float
  av = a.v

  abbrev bp : List ℕ
  bp = b.pattern.p

  abbrev bi : List ℕ
  bi = b.pattern.i

  abbrev bv : List Float
  bv = b.v

  abbrev pub rows : ℕ → List ℕ
  rows j = chosen nrows (row_of a b j)

  abbrev pub vals : ℕ → List Float
  vals j = map (value_of a b j) (rows j)

  -- ---- a column of each, handed on
  module _ (v : Alike a b) {j : ℕ} (h : j < ncols) where
    pub b_has : j < b.pattern.ncols
    b_has = omega (arith, v.cols)

    module _ {l m : List ℕ} {x y : List Float} (p : IsColumn a j l x) (q : IsColumn b j m y) where
      b_below : (k : ℕ) → k < length m → get_or m k 0 < nrows
      b_below = rw v.rows (column-below v.second b_has q)

      fewer : chosen 65535 (either l m) ≡ chosen nrows (either l m)
      fewer = either-fewer l m v.first.pattern.rows (column-below v.first h p) b_below

      pub rows_is : chosen 65535 (either l m) ≡ rows j
      unfolding row_of
      rows_is = fewer ∙ (rw (p.rows_are, q.rows_are))

      pub vals_is : map (summed_at l x m y) (chosen 65535 (either l m)) ≡ vals j
      unfolding value_of row_of
      vals_is = rw (fewer, p.rows_are, p.vals_are, q.rows_are, q.vals_are)

      pub risen : Risen 65535 l m
      risen = record {
        small = omega arith;
        l_below = λ k g. omega (arith, v.first.pattern.rows, column-below v.first h p k g);
        m_below = λ k g. omega (arith, v.first.pattern.rows, b_below k g);
        l_up = column-up v.first h p;
        m_up = column-up v.second b_has q;
      }

      pub columned : {at : ℕ} {oi : List ℕ} {ov : List Float} → at + length (rows j) ≤ 4194304 → at + length (rows j) ≤ length oi →
          at + length (rows j) ≤ length ov → Column 65535 at l x m y oi ov
      columned f g k = record {
        risen = risen;
        a_alike = column-alike v.first h p;
        b_alike = column-alike v.second b_has q;
        few = rw rows_is f;
        in_i = rw rows_is g;
        in_v = rw rows_is k;
      }

  -- ---- `count`
  pub record Tallying (places j : ℕ) : Type 0 where
    pub ask : Alike a b
    pub within : j ≤ ncols
    pub is : places ≡ length (joined rows j)

  pub tallying_start : Alike a b → Tallying 0 0
  tallying_start v = record { ask = v; within = omega arith; is = sym (cong length (joined-none rows)) }

  module _ {places j : ℕ} (s : Tallying places j) where
    module _ (h : j < ncols) {l m : List ℕ} {x y : List Float} (p : IsColumn a j l x) (q : IsColumn b j m y) {r : ℕ}
        (f : r ≡ length (chosen 65535 (either l m))) where
      next : places + r ≡ length (joined rows (j + 1))
      next = omega (arith, s.is, f, cong length (rows_is s.ask h p q), length_more rows j)

      pub tallying_small : places + r ≤ 4294901760
      tallying_small = omega (
        arith,
        next,
        entries-within nrows ncols (row_of a b) (value_of a b) (j + 1) s.ask.first.pattern.rows,
        s.ask.first.pattern.cols,
      )

      pub tallying_turn : Tallying (places + r) (j + 1)
      tallying_turn = record { ask = s.ask; within = omega arith; is = next }

    pub tallying_done : ncols ≤ j → places ≡ length (joined rows ncols)
    tallying_done h = let e : j ≡ ncols = omega (arith, s.within) in s.is ∙ cong (λ (k : ℕ). length (joined rows k)) e

  -- ---- `check_room`
  module _ (v : Alike a b) where
    -- a column takes no more than the entries of both
    column-most : (j : ℕ) → j < ncols → length (rows j) + (get_or ap j 0 + get_or bp j 0) ≤ get_or ap (j + 1) 0 + get_or bp (j + 1) 0
    unfolding row_of
    column-most j h =
        let s = between v.first.pattern.ptrs v.first.pattern.p_long h refl refl in
        let k : j < b.pattern.ncols = omega (arith, v.cols) in
        let t = between v.second.pattern.ptrs v.second.pattern.p_long k refl refl in
        omega (
          arith,
          either-most nrows (column ap j ai) (column bp j bi),
          length-column ap j ai s.inside,
          length-column bp j bi t.inside,
          s.order,
          t.order,
        )

    places_most : length (joined rows ncols) ≤ length ai + length bi
    places_most =
        let s = v.first.pattern in
        let t = v.second.pattern in
        omega (
          arith,
          joined-steps rows (λ (j : ℕ). get_or ap j 0 + get_or bp j 0) ncols column-most,
          s.ptrs.first,
          t.ptrs.first,
          last-at s.ptrs ncols s.p_long,
          last-at t.ptrs ncols (omega (arith, t.p_long, v.cols)),
        )

    pub room_for_both : (p i w : ℕ) → false ≡ short_for ncols (length ai + length bi) p i w →
        0 ≡ lowest ((7, short_for ncols (length (joined rows ncols)) p i w) ∷ [])
    room_for_both p i w e = rw (short_fewer ncols (length ai + length bi) (length (joined rows ncols)) p i w (sym e) places_most)

  pub room-counted : (p i w : ℕ) {t : Bool} {places : ℕ} → places ≡ length (joined rows ncols) → t ≡ short_for ncols places p i w →
      cond t 7 0 ≡ lowest ((7, short_for ncols (length (joined rows ncols)) p i w) ∷ [])
  room-counted p i w f e = let g = rw f at e in rw g

  -- ---- `fill`
  pub record Writing (op₀ oi₀ : List ℕ) (ov₀ : List Float) (op oi : List ℕ) (ov : List Float) (at j : ℕ) : Type 0 where
    pub ask : Ready a b (stored op₀ oi₀ ov₀)
    pub filling : Filling nrows ncols rows vals op₀ oi₀ ov₀ op oi ov at j

  pub writing_start : {op oi : List ℕ} {ov : List Float} → Ready a b (stored op oi ov) → Writing op oi ov op oi ov 0 0
  writing_start q =
      record {
        ask = q;
        filling = filling_start nrows ncols rows vals (record {
          alike = λ j h. sym (length-map (rows j) (value_of a b j));
          in_p = q.in_p;
          in_i = q.in_i;
          in_v = q.in_v;
        });
      }

  module _ {op₀ oi₀ : List ℕ} {ov₀ : List Float} {op oi : List ℕ} {ov : List Float} {at j : ℕ} (s : Writing op₀ oi₀ ov₀ op oi ov at j) where
    pub writing_small : at ≤ 4194304
    writing_small = omega (arith, filling_at nrows ncols rows vals s.filling, s.ask.few)

    pub writing_p : j < length op
    writing_p = room_p nrows ncols rows vals s.filling

    pub writing_last : ncols ≤ j → ncols < length op
    writing_last h = omega (arith, writing_p, s.filling.within)

    pub writing_i : length oi ≡ length oi₀
    writing_i = filling_i nrows ncols rows vals s.filling

    pub writing_v : length ov ≡ length ov₀
    writing_v = filling_v nrows ncols rows vals s.filling

    module _ (h : j < ncols) {l m : List ℕ} {x y : List Float} (p : IsColumn a j l x) (q : IsColumn b j m y) where
      pub writing_asks : Column 65535 at l x m y oi ov
      writing_asks = columned s.ask.alike h p q (omega (arith, room-all nrows ncols rows vals s.filling h, s.ask.few))
          (room_i nrows ncols rows vals s.filling h) (room_v nrows ncols rows vals s.filling h)

      pub writing_turn : {r : ℕ} {oi' : List ℕ} {ov' : List Float} → r ≡ at + length (chosen 65535 (either l m))
          → oi' ≡ laid at oi (chosen 65535 (either l m))
          → ov' ≡ laid at ov (map (summed_at l x m y) (chosen 65535 (either l m)))
          → Writing op₀ oi₀ ov₀ (set op j at) oi' ov' r (j + 1)
      writing_turn f g k =
          record {
            ask = s.ask;
            filling =
                filling_turn nrows ncols rows vals s.filling h
                (f ∙ cong (λ (l : List ℕ). at + length l) (rows_is s.ask.alike h p q))
                (g ∙ cong (laid at oi) (rows_is s.ask.alike h p q))
                (k ∙ cong (laid at ov) (vals_is s.ask.alike h p q));
          }

    pub writing_done : ncols ≤ j → stored (set op ncols at) oi ov ≡ written (sum a b) (stored op₀ oi₀ ov₀)
    unfolding sum with_entries
    writing_done h = filling_end nrows ncols rows vals s.filling h

-- ---- the lengths of a sum
module _ (a b : Matrix) where
  abbrev rows_of : ℕ → List ℕ
  rows_of j = chosen a.pattern.nrows (row_of a b j)

  abbrev pub size : ℕ
  size = length (joined rows_of a.pattern.ncols)

  p_long : length (sum a b).pattern.p ≡ a.pattern.ncols + 1
  unfolding sum with_entries with_columns
  p_long = length-table (a.pattern.ncols + 1) (λ j. length (joined rows_of j))

  i_long : length (sum a b).pattern.i ≡ size
  unfolding sum with_entries with_columns
  i_long = refl

  v_long : length (sum a b).v ≡ size
  unfolding sum with_entries with_columns
  v_long = sym (joined_alike rows_of (λ j. map (value_of a b j) (rows_of j)) a.pattern.ncols (λ j h. sym (length-map (rows_of j) (value_of a b j))))

  sum_valid : a.pattern.nrows ≤ 65535 → a.pattern.ncols ≤ 65535 → size ≤ 4194304 → Valid (sum a b)
  unfolding sum
  sum_valid h k m = entries_valid a.pattern.nrows a.pattern.ncols (row_of a b) (value_of a b) h k m

-- ---- the ways out of `sum`
module _ (a b : Matrix) (old : Stored) where
  abbrev apart : Bool
  apart = differ a.pattern.nrows a.pattern.ncols b.pattern.nrows b.pattern.ncols

  abbrev pub Answer : ℕ → Stored → Type 0
  Answer r new = (r ≡ number a b old) × (new ≡ outputs r (written (sum a b) old) old) × (r ≡ 0 → Valid (sum a b))

  module _ {t : Bool} (d : t ≡ apart) {r : ℕ} (c : r ≡ lowest (judged_two a b t)) where
    judged-is : r ≡ lowest (judged_two a b apart)
    judged-is = rw d at c

    pub at_check : (r ≡ 0 → ⊥) → Answer r old
    unfolding number
    at_check h = (
      first (judged_two a b apart) _ judged-is h,
      left_alone r _ old h (λ z. omega (arith, below_7 (judged_two a b apart) (early_two a b _), judged-is, z)),
      λ z. absurd (h z),
    )

    module _ (z : r ≡ 0) where
      pass : Passed a b apart
      pass = passed a b apart judged-is z

      pub alike : Alike a b
      alike = let s = same_dimensions _ _ _ _ pass.agree in record { first = pass.first; second = pass.second; rows = s.0; cols = s.1 }

      after_5 : lowest ((7, short (sum a b) old) ∷ []) ≡ number a b old
      unfolding number
      after_5 = then (judged_two a b apart) _ (early_two a b _) judged-is z

      abbrev lacks : Bool
      lacks = short_for a.pattern.ncols (size a b) (length old.p) (length old.i) (length old.v)

      module _ {s : ℕ} (g : s ≡ lowest ((7, lacks) ∷ [])) where
        after_6 : s ≡ number a b old
        after_6 =
            let e = short_for_lem (sum a b) old _ _ (p_long a b) (i_long a b) (v_long a b) in
            g ∙ cong (λ (q : Bool). lowest ((7, q) ∷ [])) (sym e) ∙ after_5

        pub at_7 : (s ≡ 0 → ⊥) → Answer s old
        at_7 h = (after_6, left_alone s _ old h (λ q. omega (arith, g, q, alone_7 lacks)), λ q. absurd (h q))

        module _ (h : s ≡ 0) where
          room-is : Roomy a.pattern.ncols (size a b) (length old.p) (length old.i) (length old.v)
          room-is = roomy _ _ _ _ _ (passed_over lacks 6 0 (sym g ∙ h)).0

          pub ready : Ready a b old
          ready = record { alike = alike; few = room-is.few; in_p = room-is.in_p; in_i = room-is.in_i; in_v = room-is.in_v }

          pub at-end : {o : Stored} → o ≡ written (sum a b) old → Answer 0 o
          at-end e = (
            sym h ∙ after_6,
            left-written _ old e,
            λ q. sum_valid a b pass.first.pattern.rows pass.first.pattern.cols room-is.few,
          )

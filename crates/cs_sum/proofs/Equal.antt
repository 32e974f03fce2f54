-- Columns that have the same rows: how that is told, and their sum, which has those rows. Assumes nothing.
use mathlib.Core.Path.{◌≡◌, refl, sym, ap, ◌∙◌}
use mathlib.Core.Bool.{true}
use mathlib.Core.List.{List, map, append-nil}
use mathlib.Core.Logic.{inl}
use Prim.Native.Nat.{ℕ, zero, suc, ◌+◌, ◌-◌, ◌≤◌, ◌<◌}
use native.Mathlib.Numerals.{add-one}
use native.Mathlib.Omega.{arith}
use lib.Dec.{eqb}
use lib.Ieee.{Float, nan, binary64, add, mul}
use lib.ListN.{length, get_or, set, take, length-map, get_or-map}
use lib.Seq.{take-suc, take_all, length-take-le}
use borrow.Author.Tests.{eqb-true}
use Rattle.lists.specs.Calls.{onto}
use Rattle.lists.specs.Choices.{chosen}
use Rattle.lists.specs.Order.{starts_with}
use Rattle.lists.specs.Parts.{part, placed}
use Rattle.lists.specs.Tables.{table}
use Rattle.lists.proofs.Bools.{and-true}
use Rattle.lists.proofs.Matching.{begins}
use Rattle.lists.proofs.Laying.{onto-placed, onto-whole, Copying, copying_start, copying_long, copying_turn, copying_done}
use Rattle.lists.proofs.Members.{get_d_any}
use Rattle.lists.proofs.Parts.{length_part}
use Rattle.lists.proofs.Tables.{length-table, get_or-table, is-table}
use Rattle.cs_columns.specs.Columns.{either, laid}
use Rattle.cs_columns.proofs.Filling.{laid_none}
use Rattle.cs_columns.proofs.Merging.{end, Merging, merging_start, merging_both, merging_ends, both_list, both_list_too}
use Rattle.cs_sum.specs.Steps.{Column, same_rows, Places}
use Rattle.cs_sum.specs.Sum.{one, summed_at}
use Rattle.cs_sum.proofs.Merged.{given, of_both}

-- ---- `same_rows`
module _ (l m : List ℕ) where
  pub same_are : same_rows l m ≡ true → l ≡ m
  unfolding same_rows
  same_are h =
      let t = and-true (eqb (length l) (length m)) (starts_with l m) h in
      sym (begins l m t.1) ∙ take_all (length l) m (omega (arith, eqb-true (length l) (length m) t.0))

-- ---- `add_values`
-- the sum at place k
abbrev pub added_at : List Float → List Float → ℕ → Float
added_at av bv k = add binary64 (mul binary64 (get_or av k nan) one) (mul binary64 (get_or bv k nan) one)

pub record Adding (rows : List ℕ) (av bv : List Float) (oi₀ : List ℕ) (ov₀ : List Float) (oi : List ℕ) (ov : List Float) (k : ℕ) : Type 0 where
  pub ask : Places rows av bv oi₀ ov₀
  pub i_copy : Copying rows oi₀ oi k
  pub v_copy : Copying (table (length rows) (added_at av bv)) ov₀ ov k

abbrev sums : List ℕ → List Float → List Float → List Float
sums rows av bv = table (length rows) (added_at av bv)

sums_long : (rows : List ℕ) (av bv : List Float) → length (sums rows av bv) ≡ length rows
sums_long rows av bv = length-table (length rows) (added_at av bv)

pub adding_start : {rows : List ℕ} {av bv : List Float} {oi : List ℕ} {ov : List Float} → Places rows av bv oi ov → Adding rows av bv oi ov oi ov 0
adding_start {rows} {av} {bv} a = record {
  ask = a;
  i_copy = copying_start (omega (arith, a.i_alike));
  v_copy = copying_start (omega (arith, a.v_alike, sums_long rows av bv));
}

module _ {rows : List ℕ} {av bv : List Float} {oi₀ : List ℕ} {ov₀ : List Float} {oi : List ℕ} {ov : List Float} {k : ℕ}
    (w : Adding rows av bv oi₀ ov₀ oi ov k) where
  pub adding_i : length oi ≡ length oi₀
  adding_i = copying_long w.i_copy

  pub adding_v : length ov ≡ length ov₀
  adding_v = copying_long w.v_copy

  pub adding_turn : k < length rows → Adding rows av bv oi₀ ov₀ (set oi k (get_or rows k 0)) (set ov k (added_at av bv k)) (k + 1)
  adding_turn h =
      let t = copying_turn w.v_copy nan (omega (arith, sums_long rows av bv)) in
      record { ask = w.ask; i_copy = copying_turn w.i_copy 0 h; v_copy = rw (get_or-table (length rows) (added_at av bv) k nan h) at t }

  pub adding_done : length rows ≤ k → (oi ≡ rows) × (ov ≡ sums rows av bv)
  adding_done h = (
    copying_done w.i_copy h ∙ onto-whole oi₀ rows (sym w.ask.i_alike),
    copying_done w.v_copy (omega (arith, sums_long rows av bv)) ∙ onto-whole ov₀ (sums rows av bv) (sums_long rows av bv ∙ sym w.ask.v_alike),
  )

-- ---- `merge`: a column that is written as a part
placed-laid : {A : Type 0} (a b : ℕ) (l ys : List A) → a ≤ length l → a ≤ b → length ys ≡ b - a → placed a b l ys ≡ laid a l ys
unfolding laid
placed-laid {A} a b l ys h g e =
    let q : l ≡ onto l (take a l) = behind in
    ap (λ (t : List A). placed a b t ys) q ∙ onto-placed l (take a l) ys a b (length-take-le a l h) g e
  where
    behind : l ≡ onto l (take a l)
    behind = laid_none a l h ∙ ap (onto l) (append-nil (take a l))

module _ {n start : ℕ} {ai : List ℕ} {av : List Float} {bi : List ℕ} {bv : List Float} {oi : List ℕ} {ov : List Float}
    (c : Column n start ai av bi bv oi ov) (same : same_rows ai bi ≡ true) where
  are : ai ≡ bi
  are = same_are ai bi same

  -- the rows of both, walked side by side
  walked : (k : ℕ) → k ≤ length ai → Merging n ai bi k k (take k ai)
  walked zero h = merging_start n ai bi c.risen.small c.risen.l_below c.risen.m_below c.risen.l_up c.risen.m_up
  walked (suc k) h =
      let m = merging_both (walked k (omega arith)) {r = get_or ai k end} {s = get_or bi k end} refl refl (ap (λ (l : List ℕ). get_or l k end) are)
      (inl (omega arith)) in
      rw (take-suc ai k end (omega arith), ← add-one) m

  rows_are : chosen n (either ai bi) ≡ ai
  rows_are = sym (merging_ends (walked (length ai) (omega arith)) (omega arith) (omega (arith, ap length are))) ∙
      take_all (length ai) ai (omega arith)

  value-is : (k : ℕ) → k < length ai → summed_at ai av bi bv (get_or ai k end) ≡ added_at av bv k
  value-is k h =
      let v = walked k (omega arith) in
      let e = ap (λ (l : List ℕ). get_or l k end) are in
      let f = given ai av k (get_or ai k end) c.risen.l_up c.a_alike h refl in
      let g = given bi bv k (get_or ai k end) c.risen.m_up c.b_alike (omega (arith, ap length are)) e in
      sym ((rw (f, g)) ∙ of_both ai av bi bv (get_or ai k end) (both_list v refl refl e (inl h)) (both_list_too v refl refl e (inl h)))

  vals_are : map (summed_at ai av bi bv) ai ≡ table (length ai) (added_at av bv)
  vals_are =
      is-table nan (length ai) (added_at av bv) (map (summed_at ai av bi bv) ai) (length-map ai (summed_at ai av bi bv))
      (λ k h. get_d_any (map (summed_at ai av bi bv) ai) k nan (summed_at ai av bi bv end) (omega (arith, length-map ai (summed_at ai av bi bv))) ∙
      get_or-map (summed_at ai av bi bv) ai k end ∙ value-is k h)

  pub ends_i : start + length ai ≤ length oi
  ends_i = omega (arith, c.in_i, ap length rows_are)

  pub ends_v : start + length ai ≤ length ov
  ends_v = omega (arith, c.in_v, ap length rows_are)

  pub places : Places ai av bv (part start (start + length ai) oi) (part start (start + length ai) ov)
  places =
      record {
        a_alike = c.a_alike;
        b_alike = c.b_alike ∙ sym (ap length are);
        i_alike = length_part start (start + length ai) oi ends_i ∙ omega arith;
        v_alike = length_part start (start + length ai) ov ends_v ∙ omega arith;
      }

  pub merged : {yi : List ℕ} {yv : List Float} → yi ≡ ai → yv ≡ table (length ai) (added_at av bv)
      → (start + length ai ≡ start + length (chosen n (either ai bi))) ×
      (placed start (start + length ai) oi yi ≡ laid start oi (chosen n (either ai bi)))
      × (placed start (start + length ai) ov yv ≡ laid start ov (map (summed_at ai av bi bv) (chosen n (either ai bi))))
  merged e f = rw (rows_are, vals_are, e, f) (
    refl,
    placed-laid start (start + length ai) oi ai (omega (arith, ends_i)) (omega arith) (omega arith),
    placed-laid start (start + length ai) ov (table (length ai) (added_at av bv)) (omega (arith, ends_v)) (omega arith)
        (length-table (length ai) (added_at av bv) ∙ omega arith),
  )

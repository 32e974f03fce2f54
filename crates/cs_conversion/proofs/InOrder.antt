-- Triplets that come in order: the test that tells, and the matrix, which has the rows and values as they are given. Assumes nothing.
use mathlib.Core.Path.{◌≡◌, refl, sym, ◌∙◌}
use mathlib.Core.Bool.{Bool, true, false, cond}
use mathlib.Core.List.{List, [], ◌∷◌}
use mathlib.Core.Logic.{⊎_elim}
use Prim.Native.Nat.{ℕ, suc, ◌+◌, ◌-◌, ◌*◌, ◌≤◌, ◌<◌}
use native.Mathlib.Nat.{eq-or-lt_of_le}
use native.Mathlib.Omega.{arith}
use lib.Dec.{eqb}
use lib.Ieee.{Float}
use lib.ListN.{length, get_or}
use borrow.Author.Tests.{ne_eqb, eqb-true}
use Rattle.lists.specs.Calls.{onto}
use Rattle.lists.specs.Keys.{of_key, by_key}
use Rattle.lists.specs.Order.{lists}
use Rattle.lists.specs.Tables.{table}
use Rattle.lists.proofs.Keys.{keys_alike}
use Rattle.lists.proofs.Ordered.{sorted-both}
use Rattle.cs_matrix.specs.Matrix.{Stored, stored, written}
use Rattle.cs_conversion.specs.Assembly.{Triplets, in_order, assembled, twice}
use Rattle.cs_conversion.specs.Sorting.{Sound}
use Rattle.cs_conversion.specs.InOrder.{Coded, Ordered, Placed, as_given}
use Rattle.cs_conversion.proofs.Rowing.{table_same}

-- ---- the test: column and row of a triplet as one number
abbrev code : List ℕ → List ℕ → ℕ → ℕ
code rows cols k = get_or cols k 0 * 65536 + get_or rows k 0

-- where nothing is bad, each triplet before k comes behind all earlier ones
pub record Watching (rows cols : List ℕ) (bad k : ℕ) : Type 0 where
  pub ask : Coded rows cols
  pub first : 1 ≤ k
  pub up : bad ≡ 0 → (a b : ℕ) → a < b → b < k → code rows cols a < code rows cols b

module _ {rows cols : List ℕ} {bad k : ℕ} (v : Watching rows cols bad k) (h : k < length rows) where
  pub in_cols : k < length cols
  in_cols = omega (arith, v.ask.alike)

  small : (q : ℕ) → q ≤ k → (get_or rows q 0 < 65536) × (get_or cols q 0 < 65536)
  small q l = (v.ask.rows_below q (omega arith), v.ask.cols_below q (omega (arith, in_cols)))

  pub watching_falls : Watching rows cols 1 (k + 1)
  watching_falls = record { ask = v.ask; first = omega arith; up = λ z. absurd (omega arith) }

  pub watching_turn : code rows cols (k - 1) < code rows cols k → Watching rows cols bad (k + 1)
  watching_turn g =
      record {
        ask = v.ask;
        first = omega arith;
        up =
            λ z a b l m.
            ⊎_elim
            (λ (e : b ≡ k).
            ⊎_elim
            (λ (f : a ≡ k - 1). rw (e, f) g)
            (λ (f : a < k - 1). rw e (omega (arith, g, v.up z a (k - 1) f (omega (arith, v.first)))))
            (eq-or-lt_of_le (omega arith)))
            (λ (f : b < k). v.up z a b l f)
            (eq-or-lt_of_le (omega arith));
      }

pub watching_done : {rows cols : List ℕ} {bad k : ℕ} → Watching rows cols bad k → length rows ≤ k → eqb bad 0 ≡ true → Ordered rows cols
watching_done {rows = rows} {cols = cols} {bad = bad} v h e =
    let z = eqb-true bad 0 e in
    let s = v.ask in
    record {
      columns = record {
        climbs = λ a b l m. omega (
          arith,
          v.up z a b l (omega (arith, s.alike)),
          s.rows_below a (omega (arith, s.alike)),
          s.rows_below b (omega (arith, s.alike)),
        );
      };
      rise = λ a b l m n f. omega (arith, v.up z a b l (omega arith), f);
    }

-- ---- no place is given twice
not_listed : (r c : ℕ) (rs cs : List ℕ) → ((k : ℕ) → k < length rs → k < length cs → get_or rs k 0 ≡ r → get_or cs k 0 ≡ c → ⊥) →
    lists c (of_key r rs cs) ≡ false
unfolding lists of_key
not_listed r c [] cs h = refl
not_listed r c (y ∷ rs) [] h = refl
not_listed r c (y ∷ rs) (z ∷ cs) h = go (eqb y r) refl (not_listed r c rs cs (λ k l m e f. h (suc k) (omega arith) (omega arith) e f))
  where
    go : (b : Bool) → eqb y r ≡ b → lists c (of_key r rs cs) ≡ false → lists c (cond b (z ∷ of_key r rs cs) (of_key r rs cs)) ≡ false
    go true e i = rw (ne_eqb c z (λ f. h 0 (omega arith) (omega arith) (eqb-true y r e) (sym f))) i
    go false e i = i

pub once : (rs cs : List ℕ) → Ordered rs cs → twice rs cs ≡ false
unfolding twice
once [] cs o = refl
once (r ∷ rs) [] o = refl
once (r ∷ rs) (c ∷ cs) o =
    rw (not_listed r c rs cs (λ k l m f g. omega (arith, f, o.rise 0 (suc k) (omega arith) (omega arith) (omega arith) (sym g))))
    (once rs cs
    (record {
      columns = record { climbs = λ a b l m. o.columns.climbs (suc a) (suc b) (omega arith) (omega arith) };
      rise = λ a b l m n f. o.rise (suc a) (suc b) (omega arith) (omega arith) (omega arith) f;
    }))

-- ---- the matrix
module _ {t : Triplets} (s : Sound t) where
  pub placed : Placed (t.ncols + 1) t.j
  placed = record { few = omega (arith, s.count, s.j_long); named = λ k h. omega (arith, s.j_below k h) }

  module _ (o : Ordered t.i t.j) where
    stays : {A : Type 0} (xs : List A) → length xs ≡ length t.i → in_order t xs ≡ xs
    unfolding in_order
    stays xs e = sorted-both t.nrows t.ncols t.i t.j xs (sym s.j_long) e s.i_below s.j_below o.columns.climbs o.rise

    pub as-given-is : as_given t ≡ assembled t
    unfolding as_given assembled
    as-given-is =
        rw (
          stays t.i refl,
          stays t.v (sym s.v_long),
          table_same (t.ncols + 1) (λ c. length (by_key c t.j t.j)) (λ c. length (by_key c t.j t.v))
              (λ c l. keys_alike c t.j t.j t.v (sym s.j_long ∙ s.v_long)),
        )

    pub written-given : (old : Stored) {new : Stored} → new ≡ written (as_given t) old → new ≡ written (assembled t) old
    written-given old e = rw as-given-is at e

pub given-written : (t : Triplets) (old : Stored) {p i : List ℕ} {v : List Float} →
    p ≡ onto old.p (table (t.ncols + 1) (λ c. length (by_key c t.j t.j))) → i ≡ onto old.i t.i → v ≡ onto old.v t.v
    → stored p i v ≡ written (as_given t) old
unfolding as_given written
given-written t old a b c = λ k. stored (a k) (b k) (c k)

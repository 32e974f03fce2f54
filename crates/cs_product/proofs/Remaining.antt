-- What remains of the rows that were met is what remains of the column; and what a column leaves for the next. Assumes nothing.
use mathlib.Core.Path.{◌≡◌, refl, sym, ap, ◌∙◌}
use mathlib.Core.Bool.{Bool, true, false, not, ◌&&◌}
use mathlib.Core.List.{List, map}
use Prim.Native.Nat.{ℕ, ◌+◌, ◌≤◌, ◌<◌}
use native.Mathlib.Omega.{arith}
use lib.Ieee.{Float, nan, eq, of_bits}
use lib.ListN.{length, get_or, take, replicate}
use lib.Seq.{get_or-take, length-take-le}
use Rattle.lists.specs.Calls.{none}
use Rattle.lists.specs.Choices.{chosen, keep}
use Rattle.lists.specs.Folds.{over}
use Rattle.lists.specs.Order.{lists, Once}
use Rattle.lists.specs.Parts.{part, placed}
use Rattle.lists.proofs.Chosen.{chosen_alike, chosen_rising, keep-chosen}
use Rattle.lists.proofs.Laying.{part-front, part-onto, placed-front}
use Rattle.lists.proofs.Ordering.{rising_once}
use Rattle.lists.proofs.Parts.{length-placed}
use Rattle.lists.proofs.Skipping.{chosen-rest, lists_nowhere}
use Rattle.cs_matrix.specs.Matrix.{Matrix}
use Rattle.cs_columns.specs.Columns.{laid}
use Rattle.cs_product.specs.Product.{add_column, remains}
use Rattle.cs_product.specs.Steps.{column_of, in_order, Met, Fresh, Starting, Loose, Drain, Taking, Column}
use Rattle.cs_product.proofs.Draining.{values_of}
use Rattle.lists.proofs.Onces.{keep_card}
use Rattle.cs_product.proofs.Sorted.{order_lists, order_below, order_long}

-- a row whose x is +0.0 does not remain
zero_is : eq none none ≡ true
unfolding eq of_bits
zero_is = refl

pub dropped : (x : List Float) (r : ℕ) → get_or x r nan ≡ none → remains x r ≡ false
unfolding remains
dropped x r e = rw e (ap not zero_is)

module _ {n stamp : ℕ} {mark met : List ℕ} {x : List Float} {many : ℕ} (m : Met n stamp mark met x many) where
  abbrev rows : List ℕ
  rows = take many met

  rows_long : length rows ≡ many
  rows_long = length-take-le many met (omega (arith, m.within, m.met_long))

  rows_below : (k : ℕ) → k < length rows → get_or rows k 0 < n
  rows_below k g = rw (get_or-take many met k 0 (omega (arith, rows_long))) (m.below k (omega (arith, rows_long)))

  -- only a row that was met remains
  only_met : (r : ℕ) → r < n → (lists r rows && remains x r) ≡ remains x r
  only_met r h = go (lists r rows) refl
    where
      go : (b : Bool) → lists r rows ≡ b → (b && remains x r) ≡ remains x r
      go true e = refl
      go false e = sym (dropped x r (m.zero r h e))

  pub many_in : many ≤ length met
  many_in = omega (arith, m.within, m.met_long)

  pub drain : Drain n (part 0 many met) x
  drain = rw (part-front many met) (record { small = m.small; x_long = m.x_long; once = m.once; below = rows_below; zero = m.zero })

  pub count_is : length (keep (remains x) (part 0 many met)) ≡ length (chosen n (remains x))
  count_is =
      ap (λ (l : List ℕ). length (keep (remains x) l)) (part-front many met)
      ∙ keep_card n (remains x) m.once rows_below
      ∙ ap length (chosen_alike n (λ r. lists r rows && remains x r) (remains x) only_met)

  -- the next column may use another stamp
  pub next_fresh : {met' : List ℕ} {x' : List Float} → length met' ≡ n → x' ≡ replicate n none → Fresh n (stamp + 1) mark met' x'
  next_fresh e f = record { small = m.small; mark_long = m.mark_long; met_long = e; unmarked = λ r h. omega (arith, m.most r h); zeros = f }

  -- ---- sorted
  pub loose : {spare : List ℕ} → length spare ≡ n → Loose 65535 (part 0 many met) spare
  loose e = rw (part-front many met) (record {
    small = omega arith;
    once = m.once;
    below = λ k h. omega (arith, m.small, rows_below k h);
    room = omega (arith, rows_long, m.within);
  })

  fewer : in_order 65535 rows ≡ in_order n rows
  unfolding in_order
  fewer = chosen-rest (λ r. lists r rows) n 65535 m.small (λ r h k. lists_nowhere r rows (λ q l e. absurd (omega (arith, rows_below q l))))

  module _ {y met' : List ℕ} (e : y ≡ in_order 65535 (part 0 many met)) (f : met' ≡ placed 0 many met y) where
    y_is : y ≡ in_order n rows
    y_is = e ∙ ap (in_order 65535) (part-front many met) ∙ fewer

    y_long : length y ≡ many
    y_long = rw y_is (order_long n rows m.once rows_below ∙ rows_long)

    pub met_long : length met' ≡ n
    met_long = rw f (length-placed 0 many met y (omega arith) (omega (arith, many_in)) (omega (arith, y_long)) ∙ m.met_long)

    sorted_part : part 0 many met' ≡ in_order n rows
    sorted_part = rw (f, placed-front met y many y_long, part-onto many met y y_long) y_is

    kept-is : keep (remains x) (in_order n rows) ≡ chosen n (remains x)
    unfolding in_order
    kept-is = keep-chosen n (remains x) (λ r. lists r rows) ∙ chosen_alike n (λ r. lists r rows && remains x r) (remains x) only_met

    once_ordered : Once (in_order n rows)
    unfolding in_order
    once_ordered = rising_once (chosen_rising (λ r. lists r rows) n)

    pub taking : {start : ℕ} {oi : List ℕ} {ov : List Float} → start + length (chosen n (remains x)) ≤ 4194304 →
        start + length (chosen n (remains x)) ≤ length oi → start + length (chosen n (remains x)) ≤ length ov
        → Taking n start (part 0 many met') x oi ov
    taking g h k =
        rw sorted_part
        (record {
          drain = record {
            small = m.small;
            x_long = m.x_long;
            once = once_ordered;
            below = order_below n rows;
            zero = λ r l z. m.zero r l (sym (order_lists n rows r l) ∙ z);
          };
          few = rw kept-is g;
          in_i = rw kept-is h;
          in_v = rw kept-is k;
        })

    pub kept-rows : keep (remains x) (part 0 many met') ≡ chosen n (remains x)
    kept-rows = ap (keep (remains x)) sorted_part ∙ kept-is

-- ---- `count_column` and `write_column`
module _ {a : Matrix} {stamp : ℕ} {rows : List ℕ} {vals : List Float} {mark met : List ℕ} {x : List Float}
    (s : Starting a stamp rows vals mark met x) {mark' met' : List ℕ} {x' : List Float} {many : ℕ} (e : x' ≡ over (add_column a) rows vals x)
    (m : Met a.pattern.nrows stamp mark' met' x' many) where
  x_is : x' ≡ column_of a rows vals
  unfolding column_of
  x_is = e ∙ ap (over (add_column a) rows vals) s.fresh.zeros

  -- x is as long as a column
  zeros : replicate (length x') none ≡ replicate a.pattern.nrows none
  zeros = ap (λ (k : ℕ). replicate k none) m.x_long

  pub column-drain : Drain (length x') (part 0 many met') x'
  column-drain = rw m.x_long (drain m)

  pub column-counted : {r : ℕ} {x₂ : List Float} → r ≡ length (keep (remains x') (part 0 many met')) → x₂ ≡ replicate (length x') none
      → (r ≡ length (chosen a.pattern.nrows (remains (column_of a rows vals)))) × Fresh a.pattern.nrows (stamp + 1) mark' met' x₂
  column-counted f g = (
    f ∙ count_is m ∙ ap (λ (w : List Float). length (chosen a.pattern.nrows (remains w))) x_is,
    next_fresh m m.met_long
        (g ∙ zeros),
  )

  module _ {start : ℕ} {spare oi : List ℕ} {ov : List Float} (c : Column a stamp rows vals start mark met spare x oi ov) {y met₂ : List ℕ}
      (f : y ≡ in_order 65535 (part 0 many met')) (g : met₂ ≡ placed 0 many met' y) where
    pub column_taking : Taking (length x') start (part 0 many met₂) x' oi ov
    column_taking = rw m.x_long (taking m f g (rw x_is c.few) (rw x_is c.in_i) (rw x_is c.in_v))

    l_is : keep (remains x') (part 0 many met₂) ≡ chosen a.pattern.nrows (remains (column_of a rows vals))
    l_is = kept-rows m f g ∙ ap (λ (w : List Float). chosen a.pattern.nrows (remains w)) x_is

    pub column-written : {r : ℕ} {oi₂ : List ℕ} {ov₂ x₂ : List Float} → r ≡ start + length (keep (remains x') (part 0 many met₂)) →
        oi₂ ≡ laid start oi (keep (remains x') (part 0 many met₂))
        → ov₂ ≡ laid start ov (values_of (length x') start rows x' (keep (remains x') (part 0 many met₂))) → x₂ ≡ replicate (length x') none
        → (let w = column_of a rows vals in let l = chosen a.pattern.nrows (remains w) in
        (r ≡ start + length l) × (oi₂ ≡ laid start oi l) × (ov₂ ≡ laid start ov (map (λ (j : ℕ). get_or w j nan) l)) ×
        Fresh a.pattern.nrows (stamp + 1) mark' met₂ x₂)
    column-written p q t u = (
      p ∙ ap (λ (l : List ℕ). start + length l) l_is,
      q ∙ ap (laid start oi) l_is,
      t ∙ (rw (l_is, x_is)),
      next_fresh m (met_long m f g) (u ∙ zeros),
    )

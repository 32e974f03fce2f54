-- The loops of `add_column` and `accumulate`: rows met, marked and listed. Assumes nothing.
use mathlib.Core.Path.{◌≡◌, refl, sym, ◌∙◌}
use mathlib.Core.Bool.{Bool, true, false, ◌||◌}
use mathlib.Core.List.{List, [], ◌∷◌, ◌++◌}
use mathlib.Core.Logic.{⊎_elim}
use Prim.Native.Nat.{ℕ, ◌+◌, ◌≤◌, ◌<◌}
use native.Mathlib.Nat.{eq-or-lt_of_le}
use native.Mathlib.Numerals.{add-one}
use native.Mathlib.Omega.{arith}
use lib.Dec.{eqb}
use lib.Ieee.{Float, nan, binary64, add, mul}
use lib.ListN.{length, get_or, set, take, length-append, length-set, length-replicate, get_or-replicate}
use lib.Seq.{get_or-set_same, get_or-set_other, get_or-take, take-suc-set, length-take-le}
use borrow.Author.Tests.{eq-eqb, ne_eqb}
use Rattle.lists.specs.Calls.{none}
use Rattle.lists.specs.Entries.{plus_at}
use Rattle.lists.specs.Folds.{over}
use Rattle.lists.specs.Order.{lists, Once, no_more}
use Rattle.lists.proofs.Bools.{eq-or-ne, not-both, or-none, or-false}
use Rattle.lists.proofs.Chosen.{chosen-within}
use Rattle.lists.proofs.Folds.{Over, over-start, over-turn, over-end}
use Rattle.cs_matrix.specs.Matrix.{Matrix, Valid}
use Rattle.cs_matrix.specs.Columns.{IsColumn}
use Rattle.cs_matrix.proofs.Handing.{column-alike, column-below}
use Rattle.lists.proofs.Skipping.{lists_nowhere}
use Rattle.cs_product.specs.Product.{add_column}
use Rattle.cs_product.specs.Steps.{Met, Fresh, Adding, Starting}
use Rattle.lists.proofs.Onces.{lists_snoc, once_snoc, below_snoc, card_once}

module _ {n stamp : ℕ} {mark met : List ℕ} {x : List Float} {count : ℕ} (m : Met n stamp mark met x count) {r : ℕ} (h : r < n) where
  abbrev rows : List ℕ
  rows = take count met

  rows_long : length rows ≡ count
  rows_long = length-take-le count met (omega (arith, m.within, m.met_long))

  rows_below : (k : ℕ) → k < length rows → get_or rows k 0 < n
  rows_below k g = rw (get_or-take count met k 0 (omega (arith, rows_long))) (m.below k (omega (arith, rows_long)))

  pub r_in_x : r < length x
  r_in_x = omega (arith, m.x_long)

  pub r_in_mark : r < length mark
  r_in_mark = omega (arith, m.mark_long)

  -- a row that was met before
  pub met_again : get_or mark r 0 ≡ stamp → (y : Float) → Met n stamp mark met (set x r y) count
  met_again e y =
      record {
        small = m.small;
        mark_long = m.mark_long;
        met_long = m.met_long;
        x_long = length-set x r y ∙ m.x_long;
        within = m.within;
        once = m.once;
        below = m.below;
        marked = m.marked;
        listed = m.listed;
        most = m.most;
        zero = λ q g f. get_or-set_other x r q y nan (λ z. not-both (lists q rows) (rw z (m.marked r h e)) f) ∙ m.zero q g f;
      }

  -- a row that is met first
  module _ (e : get_or mark r 0 ≡ stamp → ⊥) where
    free : lists r rows ≡ false
    free = go (lists r rows) refl
      where
        go : (b : Bool) → lists r rows ≡ b → b ≡ false
        go true f = absurd (e (m.listed r h f))
        go false f = refl

    more : List ℕ
    more = rows ++ (r ∷ [])

    more-once : Once (rows ++ (r ∷ []))
    more-once = once_snoc r m.once free

    pub more_room : count < n
    more_room =
        omega (
          arith,
          rows_long,
          length-append rows (r ∷ []),
          card_once n more-once (below_snoc rows r n rows_below h),
          chosen-within (λ q. lists q (rows ++ (r ∷ []))) n,
        )

    pub count-in_met : count < length met
    count-in_met = omega (arith, more_room, m.met_long)

    taken : take (count + 1) (set met count r) ≡ rows ++ (r ∷ [])
    taken = rw (add-one, take-suc-set met count r count-in_met)

    was : (q : ℕ) → lists q (take (count + 1) (set met count r)) ≡ (lists q rows || eqb q r)
    was q = rw taken (lists_snoc q rows r)

    pub met_new : (y : Float) → Met n stamp (set mark r stamp) (set met count r) (set x r y) (count + 1)
    met_new y =
        record {
          small = m.small;
          mark_long = length-set mark r stamp ∙ m.mark_long;
          met_long = length-set met count r ∙ m.met_long;
          x_long = length-set x r y ∙ m.x_long;
          within = omega (arith, more_room);
          once = rw taken more-once;
          below = λ k g. ⊎_elim (λ (z : k ≡ count). rw (z, get_or-set_same met count r 0 count-in_met) h)
              (λ (z : k < count). rw (get_or-set_other met count k r 0 (λ w. omega arith)) (m.below k z)) (eq-or-lt_of_le (omega arith));
          marked = λ q g f. was q ∙ ⊎_elim (λ (z : q ≡ r). rw (eq-eqb q r z) (or-true (lists q rows)))
              (λ z. rw (ne_eqb q r z) (or-none (lists q rows) ∙ m.marked q g (sym (get_or-set_other mark r q stamp 0 z) ∙ f))) (eq-or-ne q r);
          listed = λ q g f. ⊎_elim (λ (z : q ≡ r). rw (z, get_or-set_same mark r stamp 0 r_in_mark)) (λ z. get_or-set_other mark r q stamp 0 z ∙
              m.listed q g (sym (still q z) ∙ f)) (eq-or-ne q r);
          most = λ q g. ⊎_elim (λ (z : q ≡ r). rw (z, get_or-set_same mark r stamp 0 r_in_mark) (omega arith))
              (λ z. rw (get_or-set_other mark r q stamp 0 z) (m.most q g)) (eq-or-ne q r);
          zero = λ q g f. let t = or-false (lists q rows) (eqb q r) (sym (was q) ∙ f) in
              ⊎_elim (λ (z : q ≡ r). absurd (not-both (eqb q r) (eq-eqb q r z) t.1)) (λ z. get_or-set_other x r q y nan z ∙ m.zero q g t.0)
              (eq-or-ne q r);
        }
      where
        or-true : (b : Bool) → (b || true) ≡ true
        or-true true = refl
        or-true false = refl

        still : (q : ℕ) → (q ≡ r → ⊥) → lists q (take (count + 1) (set met count r)) ≡ lists q rows
        still q z = was q ∙ (rw (ne_eqb q r z) (or-none (lists q rows)))

-- ---- the loop of `add_column`
module _ (n stamp : ℕ) (beta : Float) (rows : List ℕ) (vals : List Float) where
  pub record AddingUp (x₀ : List Float) (mark met : List ℕ) (x : List Float) (many k : ℕ) : Type 0 where
    pub alike : length vals ≡ length rows
    pub below : (q : ℕ) → q < length rows → get_or rows q 0 < n
    pub met_now : Met n stamp mark met x many
    pub is : Over (plus_at beta) rows vals x₀ x k

  pub adding_start : {mark met : List ℕ} {x : List Float} {count : ℕ} → Adding n stamp rows vals mark met x count → AddingUp x mark met x count 0
  adding_start {x = x} a = record { alike = a.alike; below = a.below; met_now = a.met_so_far; is = over-start (plus_at beta) rows vals x }

  module _ {x₀ : List Float} {mark met : List ℕ} {x : List Float} {many k : ℕ} (s : AddingUp x₀ mark met x many k) where
    pub adding_done : length rows ≤ k → (x ≡ over (plus_at beta) rows vals x₀) × Met n stamp mark met x many
    adding_done h = (over-end (plus_at beta) rows vals s.is h, s.met_now)

    pub many_small : many ≤ 65535
    many_small = omega (arith, s.met_now.within, s.met_now.small)

    module _ (h : k < length rows) {r : ℕ} (e : r ≡ get_or rows k 0) where
      pub row_below : r < n
      row_below = omega (arith, s.below k h)

      pub in_vals : k < length vals
      in_vals = omega (arith, s.alike)

      turn : {y : Float} → y ≡ add binary64 (get_or x r nan) (mul binary64 (get_or vals k nan) beta) →
          Over (plus_at beta) rows vals x₀ (set x r y) (k + 1)
      unfolding plus_at
      turn f = over-turn (plus_at beta) rows vals 0 nan s.alike s.is h (rw (f, e))

      pub adding_again : get_or mark r 0 ≡ stamp → {y : Float} → y ≡ add binary64 (get_or x r nan) (mul binary64 (get_or vals k nan) beta) →
          AddingUp x₀ mark met (set x r y) many (k + 1)
      adding_again f {y} g = record { alike = s.alike; below = s.below; met_now = met_again s.met_now row_below f y; is = turn g }

      pub adding_new : (get_or mark r 0 ≡ stamp → ⊥) → {y : Float} {q : ℕ} → q ≡ r →
          y ≡ add binary64 (get_or x r nan) (mul binary64 (get_or vals k nan) beta) → AddingUp x₀ (set mark r stamp) (set met many q) (set x r y)
          (many + 1) (k + 1)
      adding_new f {y} {q} z g = record { alike = s.alike; below = s.below; met_now = rw z (met_new s.met_now row_below f y); is = turn g }

-- ---- the loop of `accumulate`
none_met : {n stamp : ℕ} {mark met : List ℕ} {x : List Float} → Fresh n stamp mark met x → Met n stamp mark met x 0
none_met {n} {stamp} {mark} f =
    record {
      small = f.small;
      mark_long = f.mark_long;
      met_long = f.met_long;
      x_long = rw f.zeros (length-replicate n none);
      within = omega arith;
      once = no_more;
      below = λ k g. absurd (omega arith);
      marked = λ r g e. absurd (omega (arith, f.unmarked r g));
      listed = λ r g e. absurd (not-both (lists r []) e (lists_nowhere r [] (λ k l. absurd (omega arith))));
      most = λ r g. omega (arith, f.unmarked r g);
      zero = λ r g e. rw f.zeros (get_or-replicate n r none nan g);
    }

module _ (a : Matrix) (stamp : ℕ) (rows : List ℕ) (vals : List Float) where
  abbrev nrows : ℕ
  nrows = a.pattern.nrows

  abbrev ncols : ℕ
  ncols = a.pattern.ncols

  pub record Accumulating (x₀ : List Float) (mark met : List ℕ) (x : List Float) (many k : ℕ) : Type 0 where
    pub valid : Valid a
    pub alike : length vals ≡ length rows
    pub below : (q : ℕ) → q < length rows → get_or rows q 0 < ncols
    pub met_now : Met nrows stamp mark met x many
    pub is : Over (add_column a) rows vals x₀ x k

  pub accumulating_start : {mark met : List ℕ} {x : List Float} → Starting a stamp rows vals mark met x → Accumulating x mark met x 0 0
  accumulating_start {x = x} s = record {
    valid = s.valid;
    alike = s.alike;
    below = s.below;
    met_now = none_met s.fresh;
    is = over-start (add_column a) rows vals x;
  }

  module _ {x₀ : List Float} {mark met : List ℕ} {x : List Float} {many k : ℕ} (s : Accumulating x₀ mark met x many k) where
    pub accumulating_done : length rows ≤ k → (x ≡ over (add_column a) rows vals x₀) × Met nrows stamp mark met x many
    accumulating_done h = (over-end (add_column a) rows vals s.is h, s.met_now)

    module _ (h : k < length rows) {c : ℕ} (ec : c ≡ get_or rows k 0) where
      pub col_below : c < ncols
      col_below = omega (arith, s.below k h)

      module _ {us : List ℕ} {ys : List Float} (d : IsColumn a c us ys) where
        pub accumulating_asks : Adding (length x) stamp us ys mark met x many
        accumulating_asks = rw s.met_now.x_long (record {
          alike = column-alike s.valid col_below d;
          below = column-below s.valid col_below d;
          met_so_far = s.met_now;
        })

        pub accumulating_turn : {mark' met' : List ℕ} {x' : List Float} {next : ℕ} → x' ≡ over (plus_at (get_or vals k nan)) us ys x →
            Met (length x) stamp mark' met' x' next → Accumulating x₀ mark' met' x' next (k + 1)
        unfolding add_column
        accumulating_turn q m =
            record {
              valid = s.valid;
              alike = s.alike;
              below = s.below;
              met_now = rw s.met_now.x_long at m;
              is = over-turn (add_column a) rows vals 0 nan s.alike s.is h (q ∙ (rw (d.rows_are, d.vals_are, ec)));
            }

pub x_long : {n stamp : ℕ} {mark met : List ℕ} {x : List Float} → Fresh n stamp mark met x → length x ≡ n
x_long {n} f = rw f.zeros (length-replicate n none)

-- The loop of `sweep`, and a column that is written by its span. Assumes nothing.
use mathlib.Core.Path.{◌≡◌, refl, sym, ap, ◌∙◌}
use mathlib.Core.Bool.{true, false}
use mathlib.Core.List.{List, [], ◌∷◌, ◌++◌, map}
use mathlib.Core.Logic.{⊎_elim}
use Prim.Native.Nat.{ℕ, ◌+◌, ◌≤◌, ◌<◌}
use native.Mathlib.Nat.{eq-or-lt_of_le}
use native.Mathlib.Omega.{arith}
use lib.Ieee.{Float, nan, ne}
use lib.ListN.{length, get_or, set, replicate, length-append, length-set, length-map, length-replicate, get_or-replicate}
use lib.Seq.{get_or-set_same, get_or-set_other, ext_get_or}
use Rattle.lists.specs.Calls.{none}
use Rattle.lists.specs.Choices.{chosen}
use Rattle.lists.specs.Folds.{over}
use Rattle.lists.proofs.Bools.{le-or-lt}
use Rattle.lists.proofs.Choices.{chosen_more, chosen-same, chosen_none}
use Rattle.lists.proofs.Chosen.{chosen_grows, map_more}
use Rattle.lists.proofs.Skipping.{chosen-rest}
use Rattle.cs_matrix.specs.Matrix.{Matrix}
use Rattle.cs_columns.specs.Columns.{laid}
use Rattle.cs_columns.proofs.Filling.{laid_none, laid_more, length-laid}
use Rattle.cs_product.specs.Product.{add_column, remains}
use Rattle.cs_product.specs.Steps.{column_of, Fresh, Within, Spanned, Swept, Dense, Column}
use Rattle.cs_product.proofs.Remaining.{dropped}
use Rattle.cs_product.proofs.Spanning.{none_below, none_behind}

-- ---- `sweep`
module _ (n lo hi start : ℕ) where
  abbrev kept : List Float → ℕ → List ℕ
  kept x r = chosen r (remains x)

  abbrev values : List Float → List ℕ → List Float
  values x l = map (λ (j : ℕ). get_or x j nan) l

  -- the rows below r are taken out
  pub record Sweeping (x₀ : List Float) (oi₀ : List ℕ) (ov₀ : List Float) (x : List Float) (oi : List ℕ) (ov : List Float) (at r : ℕ) : Type 0 where
    pub ask : Swept n lo hi start x₀ oi₀ ov₀
    pub from : lo ≤ r
    pub upto : r ≤ hi
    pub long : length x ≡ length x₀
    pub done : (q : ℕ) → q < r → get_or x q nan ≡ none
    pub left : (q : ℕ) → r ≤ q → get_or x q nan ≡ get_or x₀ q nan
    pub at_is : at ≡ start + length (kept x₀ r)
    pub i_is : oi ≡ laid start oi₀ (kept x₀ r)
    pub v_is : ov ≡ laid start ov₀ (values x₀ (kept x₀ r))

  pub sweeping_start : {x : List Float} {oi : List ℕ} {ov : List Float} → Swept n lo hi start x oi ov → Sweeping x oi ov x oi ov start lo
  sweeping_start {x} {oi} {ov} a =
      record {
        ask = a;
        from = omega arith;
        upto = a.order;
        long = refl;
        done = a.below;
        left = λ q h. refl;
        at_is = rw nothing (omega arith);
        i_is = rw nothing (laid_none start oi (omega (arith, a.in_i)));
        v_is = rw nothing (laid_none start ov (omega (arith, a.in_v)));
      }
    where
      nothing : chosen lo (remains x) ≡ []
      nothing = chosen-rest (remains x) 0 lo (omega arith) (λ m g h. dropped x m (a.below m h)) ∙ chosen_none (remains x)

  module _ {x₀ : List Float} {oi₀ : List ℕ} {ov₀ : List Float} {x : List Float} {oi : List ℕ} {ov : List Float} {at r : ℕ}
      (s : Sweeping x₀ oi₀ ov₀ x oi ov at r) where
    room : length (kept x₀ r) ≤ length (chosen n (remains x₀))
    room = chosen_grows (remains x₀) r n (omega (arith, s.upto, s.ask.inside))

    vals_long : length (values x₀ (kept x₀ r)) ≡ length (kept x₀ r)
    vals_long = length-map (kept x₀ r) (λ (j : ℕ). get_or x₀ j nan)

    pub sweeping_i : length oi ≡ length oi₀
    sweeping_i = rw s.i_is (length-laid start oi₀ (kept x₀ r) (omega (arith, room, s.ask.in_i)))

    pub sweeping_v : length ov ≡ length ov₀
    sweeping_v = rw s.v_is (length-laid start ov₀ (values x₀ (kept x₀ r)) (omega (arith, room, vals_long, s.ask.in_v)))

    pub sweeping_small : at ≤ 4194304
    sweeping_small = omega (arith, s.at_is, room, s.ask.few)

    module _ (h : r < hi) where
      pub r_small : r < 65535
      r_small = omega (arith, s.ask.inside, s.ask.small)

      pub r_in : r < length x
      r_in = omega (arith, s.ask.inside, s.ask.x_long, s.long)

      test : remains x₀ r ≡ ne (get_or x r nan) none
      unfolding remains ne
      test = rw (s.left r (omega arith))

      out_done : (q : ℕ) → q < r + 1 → get_or (set x r none) q nan ≡ none
      out_done q g = ⊎_elim (λ (e : q ≡ r). rw e (get_or-set_same x r none nan r_in))
          (λ (l : q < r). get_or-set_other x r q none nan (λ e. omega arith) ∙ s.done q l) (eq-or-lt_of_le (omega arith))

      out_left : (q : ℕ) → r + 1 ≤ q → get_or (set x r none) q nan ≡ get_or x₀ q nan
      out_left q g = get_or-set_other x r q none nan (λ e. omega arith) ∙ s.left q (omega arith)

      module _ (t : ne (get_or x r nan) none ≡ true) where
        more : kept x₀ (r + 1) ≡ kept x₀ r ++ (r ∷ [])
        more = chosen_more r (remains x₀) (test ∙ t)

        fits : at + 1 ≤ start + length (chosen n (remains x₀))
        fits = omega (
          arith,
          s.at_is,
          ap length more,
          length-append (kept x₀ r) (r ∷ []),
          chosen_grows (remains x₀) (r + 1) n (omega (arith, s.ask.inside)),
        )

        pub at-in_i : at < length oi
        at-in_i = omega (arith, fits, s.ask.in_i, sweeping_i)

        pub at-in_v : at < length ov
        at-in_v = omega (arith, fits, s.ask.in_v, sweeping_v)

        pub sweeping_on : Sweeping x₀ oi₀ ov₀ (set x r none) (set oi at r) (set ov at (get_or x r nan)) (at + 1) (r + 1)
        sweeping_on =
            record {
              ask = s.ask;
              from = omega (arith, s.from);
              upto = omega arith;
              long = length-set x r none ∙ s.long;
              done = out_done;
              left = out_left;
              at_is = omega (arith, s.at_is, ap length more, length-append (kept x₀ r) (r ∷ []));
              i_is = rw (s.i_is, more) (laid_more start oi₀ (kept x₀ r) r at s.at_is (omega (arith, fits, s.ask.in_i)));
              v_is =
                  rw (s.v_is, more, s.left r (omega arith), map_more (λ (j : ℕ). get_or x₀ j nan) (kept x₀ r) r)
                  (laid_more start ov₀ (values x₀ (kept x₀ r)) (get_or x₀ r nan) at (omega (arith, s.at_is, vals_long))
                  (omega (arith, fits, s.ask.in_v)));
            }

      pub sweeping_off : ne (get_or x r nan) none ≡ false → Sweeping x₀ oi₀ ov₀ (set x r none) oi ov at (r + 1)
      sweeping_off t =
          let m : kept x₀ (r + 1) ≡ kept x₀ r = chosen-same r (remains x₀) (test ∙ t) in
          record {
            ask = s.ask;
            from = omega (arith, s.from);
            upto = omega arith;
            long = length-set x r none ∙ s.long;
            done = out_done;
            left = out_left;
            at_is = rw m s.at_is;
            i_is = rw m s.i_is;
            v_is = rw m s.v_is;
          }

    pub sweeping_done : hi ≤ r
        → (at ≡ start + length (chosen n (remains x₀))) × (oi ≡ laid start oi₀ (chosen n (remains x₀))) ×
        (ov ≡ laid start ov₀ (values x₀ (chosen n (remains x₀)))) × (x ≡ replicate n none)
    sweeping_done h =
        let e = all in (
          s.at_is ∙ ap (λ (l : List ℕ). start + length l) e,
          s.i_is ∙ ap (laid start oi₀) e,
          s.v_is ∙
              ap (λ (l : List ℕ). laid start ov₀ (values x₀ l)) e,
          zeros,
        )
      where
        all : kept x₀ r ≡ chosen n (remains x₀)
        all = sym (chosen-rest (remains x₀) r n (omega (arith, s.upto, s.ask.inside)) (λ m g l. dropped x₀ m (s.ask.behind m (omega arith) l)))

        zeros : x ≡ replicate n none
        zeros =
            ext_get_or nan x (replicate n none) (omega (arith, s.long, s.ask.x_long, length-replicate n none))
            (λ q g.
            let l : q < n = omega (arith, s.long, s.ask.x_long) in
            ⊎_elim (λ (o : r ≤ q). s.left q o ∙ s.ask.behind q (omega arith) l) (λ (o : q < r). s.done q o) (le-or-lt r q)
            ∙ sym (get_or-replicate n q none nan l))

-- ---- `write_dense`
module _ {a : Matrix} {rows : List ℕ} {vals : List Float} {lo hi start : ℕ} {x : List Float} {oi : List ℕ} {ov : List Float}
    (d : Dense a rows vals lo hi start x oi ov) {x' : List Float} (e : x' ≡ over (add_column a) rows vals x) (m : length x' ≡ length x) where
  x_is : x' ≡ column_of a rows vals
  unfolding column_of
  x_is = e ∙ ap (over (add_column a) rows vals) d.zeros

  long : length x' ≡ a.pattern.nrows
  long = m ∙ d.plain.x_long

  pub dense_asks : Swept (length x') lo hi start x' oi ov
  dense_asks =
      rw long (record {
        small = d.plain.valid.pattern.rows;
        order = d.spanned.order;
        inside = d.spanned.inside;
        x_long = long;
        below = λ r h. rw x_is (none_below a d.spanned vals r h);
        behind = λ r h g. rw x_is (none_behind a d.spanned vals r h g);
        few = rw x_is d.few;
        in_i = rw x_is d.in_i;
        in_v = rw x_is d.in_v;
      })

  pub dense_written : {r : ℕ} {oi₂ : List ℕ} {ov₂ x₂ : List Float}
      → (r ≡ start + length (chosen (length x') (remains x'))) × (oi₂ ≡ laid start oi (chosen (length x') (remains x')))
      × (ov₂ ≡ laid start ov (map (λ (j : ℕ). get_or x' j nan) (chosen (length x') (remains x')))) × (x₂ ≡ replicate (length x') none)
      → (let w = column_of a rows vals in let l = chosen a.pattern.nrows (remains w) in
      (r ≡ start + length l) × (oi₂ ≡ laid start oi l) × (ov₂ ≡ laid start ov (map (λ (j : ℕ). get_or w j nan) l)) ×
      (x₂ ≡ replicate a.pattern.nrows none))
  dense_written t = let u = rw long at t in rw x_is at u

-- ---- `write_column`
module _ {a : Matrix} {stamp : ℕ} {rows : List ℕ} {vals : List Float} {start : ℕ} {mark met spare : List ℕ} {x : List Float} {oi : List ℕ}
    {ov : List Float} (c : Column a stamp rows vals start mark met spare x oi ov) where
  pub column-within : Within a.pattern rows
  column-within = record { valid = c.starting.valid.pattern; few = c.starting.few; below = c.starting.below }

  pub column_dense : {lo hi work : ℕ} → Spanned a.pattern rows lo hi work → Dense a rows vals lo hi start x oi ov
  column_dense {work = work} s =
      record {
        plain = record {
          valid = c.starting.valid;
          alike = c.starting.alike;
          below = c.starting.below;
          x_long = rw c.starting.fresh.zeros (length-replicate a.pattern.nrows none);
        };
        work = work;
        spanned = s;
        zeros = c.starting.fresh.zeros;
        few = c.few;
        in_i = c.in_i;
        in_v = c.in_v;
      }

  pub dense_fresh : {x' : List Float} → x' ≡ replicate a.pattern.nrows none → Fresh a.pattern.nrows (stamp + 1) mark met x'
  dense_fresh e =
      let f = c.starting.fresh in
      record { small = f.small; mark_long = f.mark_long; met_long = f.met_long; unmarked = λ r h. omega (arith, f.unmarked r h); zeros = e }

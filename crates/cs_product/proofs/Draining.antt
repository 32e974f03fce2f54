-- The loops of `count_remaining` and `gather`: the rows that were met, taken out of x one by one. Assumes nothing.
use mathlib.Core.Path.{◌≡◌, refl, sym, ap, ◌∙◌}
use mathlib.Core.Bool.{Bool, true, false, cond, ◌||◌}
use mathlib.Core.List.{List, [], ◌∷◌, ◌++◌, map, append-nil}
use mathlib.Core.Logic.{⊎_elim}
use Prim.Native.Nat.{ℕ, ◌+◌, ◌≤◌, ◌<◌}
use native.Mathlib.Numerals.{add-one}
use native.Mathlib.Omega.{arith}
use lib.Dec.{eqb}
use lib.Ieee.{Float, nan, ne}
use lib.ListN.{length, get_or, set, take, replicate, length-append, length-set, length-map, length-replicate, get_or-replicate}
use lib.Seq.{get_or-set_same, get_or-set_other, take-suc, take_all, ext_get_or}
use borrow.Author.Tests.{eq-eqb, ne_eqb}
use Rattle.lists.specs.Calls.{none}
use Rattle.lists.specs.Choices.{keep}
use Rattle.lists.specs.Order.{lists}
use Rattle.lists.proofs.Bools.{eq-or-ne, or-none}
use Rattle.lists.proofs.Chosen.{chosen-within, map_more}
use Rattle.cs_columns.specs.Columns.{laid}
use Rattle.cs_columns.proofs.Filling.{laid_none, laid_more, length-laid}
use Rattle.lists.proofs.Kept.{keep-next, keep-front, keep-within}
use Rattle.lists.proofs.Skipping.{lists_nowhere}
use Rattle.cs_product.specs.Product.{remains}
use Rattle.cs_product.specs.Steps.{Drain, Taking}
use Rattle.lists.proofs.Onces.{lists_snoc, once_new, card_once}

-- ---- x, with k rows taken out
module _ (n : ℕ) (rows : List ℕ) where
  pub record Drained (x₀ x : List Float) (k : ℕ) : Type 0 where
    pub ask : Drain n rows x₀
    pub within : k ≤ length rows
    pub long : length x ≡ length x₀
    pub value : (r : ℕ) → r < n → get_or x r nan ≡ cond (lists r (take k rows)) none (get_or x₀ r nan)

  pub drained_start : {x : List Float} → Drain n rows x → Drained x x 0
  drained_start a = record { ask = a; within = omega arith; long = refl; value = λ r h. rw (lists_nowhere r [] (λ k l. absurd (omega arith))) }

  module _ {x₀ x : List Float} {k : ℕ} (s : Drained x₀ x k) where
    pub rows_few : length rows ≤ 65535
    rows_few = omega (arith, card_once n s.ask.once s.ask.below, chosen-within (λ r. lists r rows) n, s.ask.small)

    module _ (h : k < length rows) {r : ℕ} (e : r ≡ get_or rows k 0) where
      r_below : r < n
      r_below = omega (arith, s.ask.below k h)

      pub r_in_x : r < length x
      r_in_x = omega (arith, r_below, s.long, s.ask.x_long)

      -- the row has not been taken out before
      pub unspoilt : get_or x r nan ≡ get_or x₀ r nan
      unspoilt = s.value r r_below ∙ (rw (rw (← e) at (once_new s.ask.once k h)))

      taken : (q : ℕ) → lists q (take (k + 1) rows) ≡ (lists q (take k rows) || eqb q r)
      taken q = rw (add-one, take-suc rows k 0 h, ← e) (lists_snoc q (take k rows) r)

      pub drained_turn : Drained x₀ (set x r none) (k + 1)
      drained_turn =
          record {
            ask = s.ask;
            within = omega arith;
            long = length-set x r none ∙ s.long;
            value = λ q g. ⊎_elim
                (λ (z : q ≡ r). rw (taken q, eq-eqb q r z, or-true (lists q (take k rows)), z, get_or-set_same x r none nan r_in_x))
                (λ z. rw (taken q, ne_eqb q r z, or-none (lists q (take k rows))) (get_or-set_other x r q none nan z ∙ s.value q g))
                (eq-or-ne q r);
          }
        where
          or-true : (b : Bool) → (b || true) ≡ true
          or-true true = refl
          or-true false = refl

    pub drained_done : length rows ≤ k → x ≡ replicate n none
    drained_done h =
        ext_get_or nan x (replicate n none) (omega (arith, s.long, s.ask.x_long, length-replicate n none))
        (λ r g. let l : r < n = omega (arith, s.long, s.ask.x_long) in s.value r l ∙ (rw (take_all k rows h) (go r l (lists r rows) refl)) ∙
        sym (get_or-replicate n r none nan l))
      where
        go : (r : ℕ) → r < n → (b : Bool) → lists r rows ≡ b → cond b none (get_or x₀ r nan) ≡ none
        go r l true e = refl
        go r l false e = s.ask.zero r l e

-- ---- `count_remaining`
module _ (n : ℕ) (rows : List ℕ) where
  pub record Counting (x₀ x : List Float) (count k : ℕ) : Type 0 where
    pub drained : Drained n rows x₀ x k
    pub is : count ≡ length (keep (remains x₀) (take k rows))

  pub counting_start : {x : List Float} → Drain n rows x → Counting x x 0 0
  unfolding keep
  counting_start a = record { drained = drained_start n rows a; is = refl }

  module _ {x₀ x : List Float} {count k : ℕ} (s : Counting x₀ x count k) where
    pub counting_small : count ≤ 65535
    counting_small = omega (arith, s.is, keep-front (remains x₀) rows k, keep-within (remains x₀) rows, rows_few n rows s.drained)

    module _ (h : k < length rows) {r : ℕ} (e : r ≡ get_or rows k 0) where
      test_is : remains x₀ (get_or rows k 0) ≡ ne (get_or x r nan) none
      unfolding remains ne
      test_is = rw (unspoilt n rows s.drained h e, e)

      pub counting_on : ne (get_or x r nan) none ≡ true → Counting x₀ (set x r none) (count + 1) (k + 1)
      counting_on t =
          let m = keep-next (remains x₀) rows k h true (test_is ∙ t) in
          record {
            drained = drained_turn n rows s.drained h e;
            is = omega (arith, s.is, ap length m, length-append (keep (remains x₀) (take k rows)) (get_or rows k 0 ∷ []));
          }

      pub counting_off : ne (get_or x r nan) none ≡ false → Counting x₀ (set x r none) count (k + 1)
      counting_off t =
          let m = keep-next (remains x₀) rows k h false (test_is ∙ t) in
          record { drained = drained_turn n rows s.drained h e; is = s.is ∙ sym (ap length (m ∙ append-nil (keep (remains x₀) (take k rows)))) }

    pub counting_done : length rows ≤ k → (count ≡ length (keep (remains x₀) rows)) × (x ≡ replicate n none)
    counting_done h = (s.is ∙ ap (λ (l : List ℕ). length (keep (remains x₀) l)) (take_all k rows h), drained_done n rows s.drained h)

-- ---- `gather`
module _ (n start : ℕ) (rows : List ℕ) where
  abbrev kept : List Float → ℕ → List ℕ
  kept x k = keep (remains x) (take k rows)

  abbrev pub values_of : List Float → List ℕ → List Float
  values_of x l = map (λ (j : ℕ). get_or x j nan) l

  pub record Gathering (x₀ : List Float) (oi₀ : List ℕ) (ov₀ : List Float) (x : List Float) (oi : List ℕ) (ov : List Float) (at k : ℕ) : Type 0 where
    pub ask : Taking n start rows x₀ oi₀ ov₀
    pub drained : Drained n rows x₀ x k
    pub at_is : at ≡ start + length (kept x₀ k)
    pub i_is : oi ≡ laid start oi₀ (kept x₀ k)
    pub v_is : ov ≡ laid start ov₀ (values_of x₀ (kept x₀ k))

  pub gathering_start : {x : List Float} {oi : List ℕ} {ov : List Float} → Taking n start rows x oi ov → Gathering x oi ov x oi ov start 0
  unfolding keep
  gathering_start {oi = oi} {ov = ov} a =
      record {
        ask = a;
        drained = drained_start n rows a.drain;
        at_is = omega arith;
        i_is = laid_none start oi (omega (arith, a.in_i));
        v_is = laid_none start ov (omega (arith, a.in_v));
      }

  module _ {x₀ : List Float} {oi₀ : List ℕ} {ov₀ : List Float} {x : List Float} {oi : List ℕ} {ov : List Float} {at k : ℕ}
      (s : Gathering x₀ oi₀ ov₀ x oi ov at k) where
    room : length (kept x₀ k) ≤ length (keep (remains x₀) rows)
    room = keep-front (remains x₀) rows k

    vals_long : length (values_of x₀ (kept x₀ k)) ≡ length (kept x₀ k)
    vals_long = length-map (kept x₀ k) (λ (j : ℕ). get_or x₀ j nan)

    pub gathering_i : length oi ≡ length oi₀
    gathering_i = rw s.i_is (length-laid start oi₀ (kept x₀ k) (omega (arith, room, s.ask.in_i)))

    pub gathering_v : length ov ≡ length ov₀
    gathering_v = rw s.v_is (length-laid start ov₀ (values_of x₀ (kept x₀ k)) (omega (arith, room, vals_long, s.ask.in_v)))

    pub gathering_small : at ≤ 4194304
    gathering_small = omega (arith, s.at_is, room, s.ask.few)

    module _ (h : k < length rows) {r : ℕ} (e : r ≡ get_or rows k 0) where
      test : remains x₀ (get_or rows k 0) ≡ ne (get_or x r nan) none
      unfolding remains ne
      test = rw (unspoilt n rows s.drained h e, e)

      module _ (t : ne (get_or x r nan) none ≡ true) where
        more : kept x₀ (k + 1) ≡ kept x₀ k ++ (r ∷ [])
        more = rw (← e) at (keep-next (remains x₀) rows k h true (test ∙ t))

        fits : at + 1 ≤ start + length (keep (remains x₀) rows)
        fits = omega (arith, s.at_is, ap length more, length-append (kept x₀ k) (r ∷ []), keep-front (remains x₀) rows (k + 1))

        pub at-in_i : at < length oi
        at-in_i = omega (arith, fits, s.ask.in_i, gathering_i)

        pub at-in_v : at < length ov
        at-in_v = omega (arith, fits, s.ask.in_v, gathering_v)

        pub gathering_on : {q : ℕ} → q ≡ r → Gathering x₀ oi₀ ov₀ (set x r none) (set oi at q) (set ov at (get_or x r nan)) (at + 1) (k + 1)
        gathering_on z =
            record {
              ask = s.ask;
              drained = drained_turn n rows s.drained h e;
              at_is = omega (arith, s.at_is, ap length more, length-append (kept x₀ k) (r ∷ []));
              i_is = rw (z, s.i_is, more) (laid_more start oi₀ (kept x₀ k) r at s.at_is (omega (arith, fits, s.ask.in_i)));
              v_is =
                  rw (s.v_is, more, unspoilt n rows s.drained h e, map_more (λ (j : ℕ). get_or x₀ j nan) (kept x₀ k) r)
                  (laid_more start ov₀ (values_of x₀ (kept x₀ k)) (get_or x₀ r nan) at (omega (arith, s.at_is, vals_long))
                  (omega (arith, fits, s.ask.in_v)));
            }

      pub gathering_off : ne (get_or x r nan) none ≡ false → Gathering x₀ oi₀ ov₀ (set x r none) oi ov at (k + 1)
      gathering_off t =
          let m : kept x₀ (k + 1) ≡ kept x₀ k = keep-next (remains x₀) rows k h false (test ∙ t) ∙ append-nil (kept x₀ k) in
          record { ask = s.ask; drained = drained_turn n rows s.drained h e; at_is = rw m s.at_is; i_is = rw m s.i_is; v_is = rw m s.v_is }

    pub gathering_done : length rows ≤ k
        → (at ≡ start + length (keep (remains x₀) rows)) × (oi ≡ laid start oi₀ (keep (remains x₀) rows)) ×
        (ov ≡ laid start ov₀ (values_of x₀ (keep (remains x₀) rows))) × (x ≡ replicate n none)
    gathering_done h =
        let e : take k rows ≡ rows = take_all k rows h in
        let a = s.at_is in
        let b = s.i_is in
        let c = s.v_is in
        (rw e at a, rw e at b, rw e at c, drained_done n rows s.drained h)

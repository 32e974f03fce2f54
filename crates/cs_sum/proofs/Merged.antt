-- The loops of `count_rows` and `walk`, on plain lists. Assumes nothing.
use mathlib.Core.Path.{◌≡◌, refl, sym, ap, ◌∙◌}
use mathlib.Core.Bool.{true, false}
use mathlib.Core.List.{List, [], ◌∷◌, ◌++◌, map}
use mathlib.Core.Logic.{◌⊎◌}
use Prim.Native.Nat.{ℕ, ◌+◌, ◌≤◌, ◌<◌}
use native.Mathlib.Omega.{arith}
use lib.Ieee.{Float, nan, binary64, add, mul}
use lib.ListN.{length, get_or, set, length-append, length-map}
use Rattle.lists.specs.Choices.{chosen}
use Rattle.lists.specs.Order.{rises, lists}
use Rattle.lists.proofs.Chosen.{map_more}
use Rattle.lists.proofs.Ordering.{rises-apart}
use Rattle.cs_columns.specs.Columns.{either, laid}
use Rattle.cs_columns.proofs.Filling.{laid_none, laid_more, length-laid}
use Rattle.cs_columns.proofs.Merging.{end, row_there, Merging, merging_start, merging_ends, merging_count, merging_room, first-in, first_only}
use Rattle.cs_columns.proofs.Merging.{merging_first, second_in, second_only, second_lists, merging_second, both_first, both_second, both_list}
use Rattle.cs_columns.proofs.Merging.{both_list_too, merging_both}
use Rattle.cs_matrix.specs.Matrix.{value_at}
use Rattle.cs_matrix.proofs.Values.{value_there}
use Rattle.cs_sum.specs.Steps.{Risen, Column}
use Rattle.cs_sum.specs.Sum.{one, gives, summed_at}

start : {n : ℕ} {l m : List ℕ} → Risen n l m → Merging n l m 0 0 []
start {n} {l} {m} a = merging_start n l m a.small a.l_below a.m_below a.l_up a.m_up

one_longer : (l : List ℕ) (x : ℕ) → length (l ++ (x ∷ [])) ≡ length l + 1
one_longer l x = length-append l (x ∷ [])

-- ---- `count_rows`
pub record Counting (n : ℕ) (l m : List ℕ) (count ka kb : ℕ) : Type 0 where
  pub found : List ℕ
  pub merging : Merging n l m ka kb found
  pub count_is : count ≡ length found

pub counting_start : {n : ℕ} {l m : List ℕ} → Risen n l m → Counting n l m 0 0 0
counting_start a = record { found = []; merging = start a; count_is = refl }

module _ {n : ℕ} {l m : List ℕ} {count ka kb : ℕ} (v : Counting n l m count ka kb) where
  pub counting_small : count ≤ 65535
  counting_small = omega (arith, v.count_is, merging_count v.merging, v.merging.small)

  pub counting_done : length l ≤ ka → length m ≤ kb → count ≡ length (chosen n (either l m))
  counting_done g h = v.count_is ∙ ap length (merging_ends v.merging g h)

  module _ {r s : ℕ} (er : r ≡ get_or l ka end) (es : s ≡ get_or m kb end) where
    pub counting_first : r < s → Counting n l m (count + 1) (ka + 1) kb
    counting_first h = record {
      found = v.found ++ (r ∷ []);
      merging = merging_first v.merging er es h;
      count_is = omega (arith, one_longer v.found r, v.count_is);
    }

    pub counting_second : s < r → Counting n l m (count + 1) ka (kb + 1)
    counting_second h = record {
      found = v.found ++ (s ∷ []);
      merging = merging_second v.merging er es h;
      count_is = omega (arith, one_longer v.found s, v.count_is);
    }

    pub counting_both : r ≡ s → (ka < length l) ⊎ (kb < length m) → Counting n l m (count + 1) (ka + 1) (kb + 1)
    counting_both h o = record {
      found = v.found ++ (r ∷ []);
      merging = merging_both v.merging er es h o;
      count_is = omega (arith, one_longer v.found r, v.count_is);
    }

-- ---- the values
pub given : (rows : List ℕ) (vals : List Float) (k r : ℕ) → rises rows ≡ true → length vals ≡ length rows → k < length rows → r ≡ get_or rows k end
    → mul binary64 (get_or vals k nan) one ≡ gives r rows vals
unfolding gives
given rows vals k r u e h g =
    ap (λ (x : Float). mul binary64 x one)
    (sym (value_there (get_or rows k 0) k rows vals e h (λ q l. rises-apart rows u q k l h) refl) ∙
    ap (λ (x : ℕ). value_at x rows vals) (sym (g ∙ sym (row_there rows k h))))

module _ (ai : List ℕ) (av : List Float) (bi : List ℕ) (bv : List Float) (r : ℕ) where
  of_first : lists r bi ≡ false → gives r ai av ≡ summed_at ai av bi bv r
  unfolding summed_at
  of_first h = rw h

  of_second : lists r ai ≡ false → lists r bi ≡ true → gives r bi bv ≡ summed_at ai av bi bv r
  unfolding summed_at
  of_second g h = rw (h, g)

  pub of_both : lists r ai ≡ true → lists r bi ≡ true → add binary64 (gives r ai av) (gives r bi bv) ≡ summed_at ai av bi bv r
  unfolding summed_at
  of_both g h = rw (h, g)

-- ---- `merge`
module _ (n start : ℕ) (ai : List ℕ) (av : List Float) (bi : List ℕ) (bv : List Float) where
  abbrev vals : List ℕ → List Float
  vals l = map (summed_at ai av bi bv) l

  pub record Writing (oi₀ : List ℕ) (ov₀ : List Float) (oi : List ℕ) (ov : List Float) (at ka kb : ℕ) : Type 0 where
    pub ask : Column n start ai av bi bv oi₀ ov₀
    pub found : List ℕ
    pub merging : Merging n ai bi ka kb found
    pub at_is : at ≡ start + length found
    pub i_is : oi ≡ laid start oi₀ found
    pub v_is : ov ≡ laid start ov₀ (vals found)

  pub writing_start : {oi : List ℕ} {ov : List Float} → Column n start ai av bi bv oi ov → Writing oi ov oi ov start 0 0
  writing_start {oi} {ov} a =
      record {
        ask = a;
        found = [];
        merging = start_of a.risen;
        at_is = omega arith;
        i_is = laid_none start oi (omega (arith, a.in_i));
        v_is = laid_none start ov (omega (arith, a.in_v));
      }
    where
      start_of : Risen n ai bi → Merging n ai bi 0 0 []
      start_of a = merging_start n ai bi a.small a.l_below a.m_below a.l_up a.m_up

  module _ {oi₀ : List ℕ} {ov₀ : List Float} {oi : List ℕ} {ov : List Float} {at ka kb : ℕ} (v : Writing oi₀ ov₀ oi ov at ka kb) where
    pub writing_i : length oi ≡ length oi₀
    writing_i = rw v.i_is (length-laid start oi₀ v.found (omega (arith, v.ask.in_i, merging_room v.merging)))

    pub writing_v : length ov ≡ length ov₀
    writing_v = rw v.v_is (length-laid start ov₀ (vals v.found)
        (omega (arith, v.ask.in_v, merging_room v.merging, length-map v.found (summed_at ai av bi bv))))

    pub writing_small : at ≤ 4194304
    writing_small = omega (arith, v.at_is, v.ask.few, merging_room v.merging)

    pub writing_done : length ai ≤ ka → length bi ≤ kb
        → (at ≡ start + length (chosen n (either ai bi))) × (oi ≡ laid start oi₀ (chosen n (either ai bi))) ×
        (ov ≡ laid start ov₀ (vals (chosen n (either ai bi))))
    writing_done g h = let e = merging_ends v.merging g h in (
      v.at_is ∙ ap (λ (l : List ℕ). start + length l) e,
      v.i_is ∙ ap (laid start oi₀) e,
      v.v_is ∙ ap (λ (l : List ℕ). laid start ov₀ (vals l)) e,
    )

    -- one row more has room, and is written
    module _ {ka' kb' : ℕ} (x : ℕ) (more : Merging n ai bi ka' kb' (v.found ++ (x ∷ []))) where
      fits : at + 1 ≤ start + length (chosen n (either ai bi))
      fits = omega (arith, v.at_is, merging_room more, one_longer v.found x)

      at-in_i : at < length oi
      at-in_i = omega (arith, fits, v.ask.in_i, writing_i)

      at-in_v : at < length ov
      at-in_v = omega (arith, fits, v.ask.in_v, writing_v)

      writing_more : {y : Float} → y ≡ summed_at ai av bi bv x → Writing oi₀ ov₀ (set oi at x) (set ov at y) (at + 1) ka' kb'
      writing_more {y} e =
          let m = length-map v.found (summed_at ai av bi bv) in
          record {
            ask = v.ask;
            found = v.found ++ (x ∷ []);
            merging = more;
            at_is = omega (arith, v.at_is, one_longer v.found x);
            i_is = rw v.i_is (laid_more start oi₀ v.found x at v.at_is (omega (arith, fits, v.ask.in_i)));
            v_is = rw (v.v_is, e, map_more (summed_at ai av bi bv) v.found x) (laid_more start ov₀ (vals v.found) (summed_at ai av bi bv x) at
                (omega (arith, v.at_is, m)) (omega (arith, fits, v.ask.in_v)));
          }

    module _ {r s : ℕ} (er : r ≡ get_or ai ka end) (es : s ≡ get_or bi kb end) where
      a_given : ka < length ai → mul binary64 (get_or av ka nan) one ≡ gives r ai av
      a_given h = given ai av ka r v.ask.risen.l_up v.ask.a_alike h er

      b_given : kb < length bi → {x : ℕ} → x ≡ s → mul binary64 (get_or bv kb nan) one ≡ gives x bi bv
      b_given h {x} e = given bi bv kb x v.ask.risen.m_up v.ask.b_alike h (e ∙ es)

      module _ (h : r < s) where
        first_found : Merging n ai bi (ka + 1) kb (v.found ++ (r ∷ []))
        first_found = merging_first v.merging er es h

        pub first_i : at < length oi
        first_i = at-in_i r first_found

        pub first_v : at < length ov
        first_v = at-in_v r first_found

        pub first-value : ka < length av
        first-value = omega (arith, first-in v.merging er es h, v.ask.a_alike)

        pub writing_first : Writing oi₀ ov₀ (set oi at r) (set ov at (mul binary64 (get_or av ka nan) one)) (at + 1) (ka + 1) kb
        writing_first = writing_more r first_found (a_given (first-in v.merging er es h) ∙ of_first ai av bi bv r (first_only v.merging er es h))

      module _ (h : s < r) where
        second_found : Merging n ai bi ka (kb + 1) (v.found ++ (s ∷ []))
        second_found = merging_second v.merging er es h

        pub second_i : at < length oi
        second_i = at-in_i s second_found

        pub second_v : at < length ov
        second_v = at-in_v s second_found

        pub second_value : kb < length bv
        second_value = omega (arith, second_in v.merging er es h, v.ask.b_alike)

        pub writing_second : Writing oi₀ ov₀ (set oi at s) (set ov at (mul binary64 (get_or bv kb nan) one)) (at + 1) ka (kb + 1)
        writing_second = writing_more s second_found (b_given (second_in v.merging er es h) refl ∙
            of_second ai av bi bv s (second_only v.merging er es h) (second_lists v.merging er es h))

      module _ (same : r ≡ s) (o : (ka < length ai) ⊎ (kb < length bi)) where
        both_found : Merging n ai bi (ka + 1) (kb + 1) (v.found ++ (r ∷ []))
        both_found = merging_both v.merging er es same o

        pub both_i : at < length oi
        both_i = at-in_i r both_found

        pub both_v : at < length ov
        both_v = at-in_v r both_found

        pub both-value : ka < length av
        both-value = omega (arith, both_first v.merging er es same o, v.ask.a_alike)

        pub both-value_too : kb < length bv
        both-value_too = omega (arith, both_second v.merging er es same o, v.ask.b_alike)

        pub writing_both : Writing oi₀ ov₀ (set oi at r)
            (set ov at (add binary64 (mul binary64 (get_or av ka nan) one) (mul binary64 (get_or bv kb nan) one))) (at + 1) (ka + 1) (kb + 1)
        writing_both =
            writing_more r both_found
            (rw (a_given (both_first v.merging er es same o), b_given (both_second v.merging er es same o) same)
            (of_both ai av bi bv r (both_list v.merging er es same o) (both_list_too v.merging er es same o)))

  -- ---- with the next rows of both at hand
  pub record Walking (oi₀ : List ℕ) (ov₀ : List Float) (oi : List ℕ) (ov : List Float) (at ka kb r s : ℕ) : Type 0 where
    pub writing : Writing oi₀ ov₀ oi ov at ka kb
    pub r_is : r ≡ get_or ai ka end
    pub s_is : s ≡ get_or bi kb end

  pub walking_start : {oi : List ℕ} {ov : List Float} {r s : ℕ} → Column n start ai av bi bv oi ov → r ≡ get_or ai 0 end → s ≡ get_or bi 0 end →
      Walking oi ov oi ov start 0 0 r s
  walking_start a er es = record { writing = writing_start a; r_is = er; s_is = es }

  module _ {oi₀ : List ℕ} {ov₀ : List Float} {oi : List ℕ} {ov : List Float} {at ka kb r s : ℕ} (w : Walking oi₀ ov₀ oi ov at ka kb r s) where
    pub walking_first : r < s → {r' : ℕ} → r' ≡ get_or ai (ka + 1) end →
        Walking oi₀ ov₀ (set oi at r) (set ov at (mul binary64 (get_or av ka nan) one)) (at + 1) (ka + 1) kb r' s
    walking_first h e = record { writing = writing_first w.writing w.r_is w.s_is h; r_is = e; s_is = w.s_is }

    pub walking_second : s < r → {s' : ℕ} → s' ≡ get_or bi (kb + 1) end →
        Walking oi₀ ov₀ (set oi at s) (set ov at (mul binary64 (get_or bv kb nan) one)) (at + 1) ka (kb + 1) r s'
    walking_second h e = record { writing = writing_second w.writing w.r_is w.s_is h; r_is = w.r_is; s_is = e }

    pub walking_both : r ≡ s → (ka < length ai) ⊎ (kb < length bi) → {r' s' : ℕ} → r' ≡ get_or ai (ka + 1) end → s' ≡ get_or bi (kb + 1) end
        → Walking oi₀ ov₀ (set oi at r) (set ov at (add binary64 (mul binary64 (get_or av ka nan) one) (mul binary64 (get_or bv kb nan) one)))
        (at + 1) (ka + 1) (kb + 1) r' s'
    walking_both h o e f = record { writing = writing_both w.writing w.r_is w.s_is h o; r_is = e; s_is = f }

-- The loop that writes a matrix column by column, and what a slice holds while one column is written to it. Assumes nothing.
use mathlib.Core.Path.{◌≡◌, refl, sym, ap, ◌∙◌}
use mathlib.Core.List.{List, [], ◌∷◌, ◌++◌, append_assoc, append-nil}
use mathlib.Core.Logic.{⊎_elim}
use Prim.Native.Nat.{ℕ, ◌+◌, ◌-◌, ◌≤◌, ◌<◌}
use native.Mathlib.Nat.{eq-or-lt_of_le}
use native.Mathlib.Omega.{arith}
use lib.Ieee.{Float}
use lib.ListN.{length, get_or, set, take, drop, length-append, length-set, take-append-drop}
use lib.Seq.{length-take-le, get_or-set_same, get_or-set_other, drop-drop}
use Rattle.lists.specs.Calls.{onto}
use Rattle.lists.specs.Parts.{placed}
use Rattle.lists.specs.Tables.{table}
use Rattle.lists.proofs.Laying.{onto-placed}
use Rattle.lists.proofs.Parts.{onto-more, length-onto, onto-none, front}
use Rattle.lists.proofs.Tables.{length-table, get_or-table}
use Rattle.cs_matrix.specs.Matrix.{stored, written}
use Rattle.cs_columns.specs.Columns.{joined, with_columns, laid}
use Rattle.cs_columns.proofs.Joining.{joined-none, joined-more, length_more, joined_grows, joined_alike}

-- ---- one column behind what is written
module _ {A : Type 0} where
  pub laid_none : (a : ℕ) (l : List A) → a ≤ length l → l ≡ laid a l []
  unfolding laid onto
  laid_none a l h = rw (append-nil (take a l), length-take-le a l h) (sym (take-append-drop a l))

  laid-front : (a : ℕ) (l ys : List A) → a ≤ length l → length (take a l ++ ys) ≡ a + length ys
  laid-front a l ys h = omega (arith, length-append (take a l) ys, length-take-le a l h)

  pub length-laid : (a : ℕ) (l ys : List A) → a + length ys ≤ length l → length (laid a l ys) ≡ length l
  unfolding laid
  length-laid a l ys h = length-onto l (take a l ++ ys) (omega (arith, laid-front a l ys (omega arith)))

  pub laid_more : (a : ℕ) (l ys : List A) (x : A) (q : ℕ) → q ≡ a + length ys → q < length l → set (laid a l ys) q x ≡ laid a l (ys ++ (x ∷ []))
  unfolding laid
  laid_more a l ys x q e h =
      let n = laid-front a l ys (omega arith) in
      let f : q ≡ length (take a l ++ ys) = omega (arith, n) in
      let t = onto-more l (take a l ++ ys) x (omega (arith, n)) in
      rw f (t ∙ ap (onto l) (append_assoc (take a l) ys (x ∷ [])))

  as-placed : (a : ℕ) (l ys : List A) → a ≤ length l → laid a l ys ≡ placed a (a + length ys) l ys
  unfolding laid onto
  as-placed a l ys h =
      let n = laid-front a l ys h in
      let m : a + length ys - a ≡ length ys = omega arith in
      rw (n, m, drop-drop (length ys) a l) (append_assoc (take a l) ys (drop (a + length ys) l))

  pub laid-onto : (d g ys : List A) (a : ℕ) → a ≡ length g → length g ≤ length d → laid a (onto d g) ys ≡ onto d (g ++ ys)
  laid-onto d g ys a e h =
      let b = a + length ys in
      as-placed a (onto d g) ys (omega (arith, length-onto d g h)) ∙ onto-placed d g ys a b (sym e) (omega arith) (omega arith)

-- ---- the loop over the columns
module _ (nrows ncols : ℕ) (rows : ℕ → List ℕ) (vals : ℕ → List Float) where
  -- what it asks: room
  pub record Ask (p i : List ℕ) (v : List Float) : Type 0 where
    pub alike : (j : ℕ) → j < ncols → length (rows j) ≡ length (vals j)
    pub in_p : ncols + 1 ≤ length p
    pub in_i : length (joined rows ncols) ≤ length i
    pub in_v : length (joined rows ncols) ≤ length v

  -- j columns are written
  pub record Filling (p₀ i₀ : List ℕ) (v₀ : List Float) (p i : List ℕ) (v : List Float) (at j : ℕ) : Type 0 where
    pub ask : Ask p₀ i₀ v₀
    pub within : j ≤ ncols
    pub at_is : at ≡ length (joined rows j)
    pub p_long : length p ≡ length p₀
    pub p_front : (k : ℕ) → k < j → get_or p k 0 ≡ length (joined rows k)
    pub p_rest : (k : ℕ) → j ≤ k → get_or p k 0 ≡ get_or p₀ k 0
    pub i_is : i ≡ onto i₀ (joined rows j)
    pub v_is : v ≡ onto v₀ (joined vals j)

  pub filling_start : {p i : List ℕ} {v : List Float} → Ask p i v → Filling p i v p i v 0 0
  filling_start {p} {i} {v} a =
      record {
        ask = a;
        within = omega arith;
        at_is = sym (ap length (joined-none rows));
        p_long = refl;
        p_front = λ k h. absurd (omega arith);
        p_rest = λ k h. refl;
        i_is = rw (joined-none rows) (onto-none i);
        v_is = rw (joined-none vals) (onto-none v);
      }

  module _ {p₀ i₀ : List ℕ} {v₀ : List Float} {p i : List ℕ} {v : List Float} {at j : ℕ} (s : Filling p₀ i₀ v₀ p i v at j) where
    vals_long : (k : ℕ) → k ≤ ncols → length (joined rows k) ≡ length (joined vals k)
    vals_long k h = joined_alike rows vals k (λ m l. s.ask.alike m (omega arith))

    pub filling_at : at ≤ length (joined rows ncols)
    filling_at = omega (arith, s.at_is, joined_grows rows j ncols s.within)

    pub filling_i : length i ≡ length i₀
    filling_i = rw s.i_is (length-onto i₀ (joined rows j) (omega (arith, s.ask.in_i, joined_grows rows j ncols s.within)))

    pub filling_v : length v ≡ length v₀
    filling_v = rw s.v_is (length-onto v₀ (joined vals j) (omega (arith, s.ask.in_v, joined_grows rows j ncols s.within, vals_long j s.within)))

    pub room_p : j < length p
    room_p = omega (arith, s.ask.in_p, s.p_long, s.within)

    -- the pointer of column j, and behind the last column
    pointers-more : (k : ℕ) → k < j + 1 → get_or (set p j at) k 0 ≡ length (joined rows k)
    pointers-more k l = ⊎_elim (λ (q : k ≡ j). rw (q, get_or-set_same p j at 0 room_p) s.at_is)
        (λ (q : k < j). get_or-set_other p j k at 0 (λ e. omega arith) ∙ s.p_front k q) (eq-or-lt_of_le (omega arith))

    pointers-rest : (k : ℕ) → j + 1 ≤ k → get_or (set p j at) k 0 ≡ get_or p₀ k 0
    pointers-rest k l = get_or-set_other p j k at 0 (λ e. omega arith) ∙ s.p_rest k (omega arith)

    module _ (h : j < ncols) where
      -- the column has room behind what is written
      pub room_i : at + length (rows j) ≤ length i
      room_i = omega (arith, s.at_is, length_more rows j, joined_grows rows (j + 1) ncols (omega arith), s.ask.in_i, filling_i)

      pub room_v : at + length (rows j) ≤ length v
      room_v = omega (arith, s.at_is, length_more rows j, joined_grows rows (j + 1) ncols (omega arith), s.ask.in_v, filling_v)

      pub room-all : at + length (rows j) ≤ length (joined rows ncols)
      room-all = omega (arith, s.at_is, length_more rows j, joined_grows rows (j + 1) ncols (omega arith))

      pub filling_turn : {next : ℕ} {i' : List ℕ} {v' : List Float} → next ≡ at + length (rows j) → i' ≡ laid at i (rows j) →
          v' ≡ laid at v (vals j) → Filling p₀ i₀ v₀ (set p j at) i' v' next (j + 1)
      filling_turn {next} e f g =
          record {
            ask = s.ask;
            within = omega arith;
            at_is = omega (arith, s.at_is, length_more rows j);
            p_long = length-set p j at ∙ s.p_long;
            p_front = pointers-more;
            p_rest = pointers-rest;
            i_is = f ∙ (rw (s.i_is, joined-more rows j)
                (laid-onto i₀ (joined rows j) (rows j) at s.at_is (omega (arith, s.ask.in_i, joined_grows rows j ncols s.within))));
            v_is = g ∙ (rw (s.v_is, joined-more vals j) (laid-onto v₀ (joined vals j) (vals j) at (s.at_is ∙ vals_long j s.within)
                (omega (arith, s.ask.in_v, joined_grows rows j ncols s.within, vals_long j s.within))));
          }

    pub filling_end : ncols ≤ j → stored (set p ncols at) i v ≡ written (with_columns nrows ncols rows vals) (stored p₀ i₀ v₀)
    unfolding written with_columns
    filling_end h =
        let x = s.i_is in
        let y = s.v_is in
        all_are
        (front 0 (table (ncols + 1) start) (set p ncols at) p₀ (omega (arith, long, s.ask.in_p)) (length-set p ncols at ∙ s.p_long)
        (λ k l. (rw e at (pointers-more k (omega (arith, long, e)))) ∙ sym (get_or-table (ncols + 1) start k 0 (omega (arith, long))))
        (λ k l. rw e at (pointers-rest k (omega (arith, long, e)))))
        (rw e at x)
        (rw e at y)
      where
        e : j ≡ ncols
        e = omega (arith, s.within)

        start : ℕ → ℕ
        start k = length (joined rows k)

        long : length (table (ncols + 1) start) ≡ ncols + 1
        long = length-table (ncols + 1) start

        all_are : {p q i k : List ℕ} {v w : List Float} → p ≡ q → i ≡ k → v ≡ w → stored p i v ≡ stored q k w
        all_are a b c = λ z. stored (a z) (b z) (c z)

-- The loop of `span_of`; and what a span says of a column of the product: outside it nothing is added, and no more rows remain than it
-- is long or than there are entries. Assumes nothing.
use mathlib.Core.Path.{◌≡◌, refl, sym, ap, ◌∙◌}
use mathlib.Core.Bool.{true, not}
use mathlib.Core.List.{List, [], ◌∷◌}
use mathlib.Core.Logic.{⊎_elim}
use Prim.Native.Nat.{ℕ, suc, ◌+◌, ◌-◌, ◌*◌, ◌≤◌, ◌<◌, min, max}
use native.Mathlib.Nat.{eq-or-lt_of_le}
use native.Mathlib.Omega.{arith}
use lib.Ieee.{Float, nan, eq, binary64, add, mul}
use lib.ListN.{length, get_or, set, replicate, get_or-replicate}
use lib.Seq.{get_or-set_other}
use Rattle.lists.specs.Calls.{none}
use Rattle.lists.specs.Choices.{chosen}
use Rattle.lists.specs.Entries.{plus_at}
use Rattle.lists.specs.Folds.{along, over}
use Rattle.lists.specs.Order.{rises}
use Rattle.lists.proofs.Entries.{over_other}
use Rattle.lists.proofs.Folds.{Along, along-start, along-turn, along-end}
use Rattle.lists.proofs.HowMany.{chosen_but, chosen-between}
use Rattle.lists.proofs.Ordering.{rises-apart}
use Rattle.cs_matrix.specs.Matrix.{Pattern, Matrix, column}
use Rattle.cs_matrix.proofs.Pointers.{Between, between, length-column, get_or-column}
use Rattle.cs_product.specs.Product.{add_column, remains}
use Rattle.cs_product.specs.Steps.{column_of, Within, work_of, Spanned}
use Rattle.cs_product.proofs.Remaining.{dropped}

-- ---- the loop of `span_of`
module _ (a : Pattern) (cols : List ℕ) where
  abbrev nrows : ℕ
  nrows = a.nrows

  abbrev p : List ℕ
  p = a.p

  abbrev i : List ℕ
  i = a.i

  -- the rows of the k-th of the columns
  abbrev rows_at : ℕ → List ℕ
  rows_at k = column p (get_or cols k 0) i

  pub record Spanning (lo hi work k : ℕ) : Type 0 where
    pub ask : Within a cols
    pub inside : hi ≤ nrows
    pub low : (m : ℕ) → m < k → (q : ℕ) → q < length (rows_at m) → lo ≤ get_or (rows_at m) q 0
    pub high : (m : ℕ) → m < k → (q : ℕ) → q < length (rows_at m) → get_or (rows_at m) q 0 < hi
    pub small : work ≤ 4194304 * k
    pub work_is : Along (λ (c n : ℕ). n + length (column p c i)) cols 0 work k

  pub spanning_start : (lo : ℕ) → Within a cols → Spanning lo 0 0 0
  spanning_start lo v =
      record {
        ask = v;
        inside = omega arith;
        low = λ m h. absurd (omega arith);
        high = λ m h. absurd (omega arith);
        small = omega arith;
        work_is = along-start (λ (c n : ℕ). n + length (column p c i)) cols 0;
      }

  module _ {lo hi work k : ℕ} (s : Spanning lo hi work k) where
    pub spanning_done : length cols ≤ k → {x : ℕ} → x ≡ min lo hi → Spanned a cols x hi work
    unfolding work_of
    spanning_done h e =
        let g = s.work_is.within in
        record {
          order = omega arith;
          inside = s.inside;
          low = λ m l q o. omega (arith, s.low m (omega arith) q o);
          high = λ m l q o. s.high m (omega arith) q o;
          work_is = along-end (λ (c n : ℕ). n + length (column p c i)) cols s.work_is h;
          work_small = omega (arith, s.small, s.ask.few);
        }

    module _ (h : k < length cols) {c : ℕ} (ec : c ≡ get_or cols k 0) where
      pub col_below : c < a.ncols
      col_below = omega (arith, s.ask.below k h)

      pub col_in_p : c + 1 < length p
      col_in_p = omega (arith, col_below, s.ask.valid.p_long)

      module _ {b e : ℕ} (f : b ≡ get_or p c 0) (g : e ≡ get_or p (c + 1) 0) where
        pub handed : Between p (length i) c b e
        handed = between s.ask.valid.ptrs s.ask.valid.p_long col_below f g

        long : length (column p c i) ≡ e - b
        long = rw (f, g) (length-column p c i (rw (← g) handed.inside))

        place : (q : ℕ) → q < e - b → get_or (column p c i) q 0 ≡ get_or i (b + q) 0
        place q l = rw f (get_or-column p c i q 0 (omega (arith, f, g)))

        up : rises (column p c i) ≡ true
        up = s.ask.valid.rise c col_below

        -- the first row is the least, the last the largest
        least : (q : ℕ) → q < length (column p c i) → get_or i b 0 ≤ get_or (column p c i) q 0
        least q l =
            let z : b + 0 ≡ b = omega arith in
            let o = rw z at (place 0 (omega (arith, long))) in
            let n : 0 ≤ q = omega arith in
            ⊎_elim (λ (t : 0 ≡ q). rw (← t) (omega (arith, o))) (λ (t : 0 < q). omega (arith, o, rises-apart (column p c i) up 0 q t l))
            (eq-or-lt_of_le n)

        largest : (q : ℕ) → q < length (column p c i) → get_or (column p c i) q 0 ≤ get_or i (e - 1) 0
        largest q l =
            let z : b + (e - b - 1) ≡ e - 1 = omega (arith, long) in
            let o = rw z at (place (e - b - 1) (omega (arith, long))) in
            ⊎_elim (λ (t : q ≡ e - b - 1). rw t (omega (arith, o)))
            (λ (t : q < e - b - 1). omega (arith, o, rises-apart (column p c i) up q (e - b - 1) t (omega (arith, long))))
            (eq-or-lt_of_le (omega (arith, long)))

        same : (m : ℕ) → m ≡ k → rows_at m ≡ column p c i
        same m t = rw (t, ec)

        next : {lo' hi' work' : ℕ} → lo' ≤ lo → hi ≤ hi' → hi' ≤ nrows → ((q : ℕ) → q < length (column p c i) → lo' ≤ get_or (column p c i) q 0) →
            ((q : ℕ) → q < length (column p c i) → get_or (column p c i) q 0 < hi')
            → work' ≡ work + (e - b) → Spanning lo' hi' work' (k + 1)
        next {work' = work'} u v w x y z =
            record {
              ask = s.ask;
              inside = w;
              low = λ m l q o. ⊎_elim (λ (t : m ≡ k). rw (same m t) (x q (rw (same m t) at o))) (λ (t : m < k). omega (arith, s.low m t q o))
                  (eq-or-lt_of_le (omega arith));
              high = λ m l q o. ⊎_elim (λ (t : m ≡ k). rw (same m t) (y q (rw (same m t) at o))) (λ (t : m < k). omega (arith, s.high m t q o))
                  (eq-or-lt_of_le (omega arith));
              small = omega (arith, s.small, handed.inside, s.ask.valid.entries);
              work_is = along-turn (λ (c n : ℕ). n + length (column p c i)) cols 0 s.work_is h (z ∙ (rw (← ec) (omega (arith, long))));
            }

        pub spanning_off : e ≤ b → Spanning lo hi work (k + 1)
        spanning_off o = next (omega arith) (omega arith) s.inside (λ q l. absurd (omega (arith, long))) (λ q l. absurd (omega (arith, long)))
            (omega arith)

        module _ (o : b < e) where
          pub first-in : b < length i
          first-in = omega (arith, handed.inside)

          pub last-in : e - 1 < length i
          last-in = omega (arith, handed.inside)

          pub last-below : get_or i (e - 1) 0 < nrows
          last-below = s.ask.valid.below (e - 1) last-in

          pub spanning_on : {y z lo' hi' : ℕ} → y ≡ get_or i b 0 → z ≡ get_or i (e - 1) 0 → lo' ≡ min lo y → hi' ≡ max hi (z + 1) →
              Spanning lo' hi' (work + (e - b)) (k + 1)
          spanning_on ey ez u v = next (omega arith) (omega arith) (omega (arith, s.inside, last-below, ez)) (λ q l. omega (arith, ey, least q l))
              (λ q l. omega (arith, ez, largest q l)) refl

-- ---- how many rows remain
module _ (n : ℕ) where
  abbrev many : List Float → ℕ
  many w = length (chosen n (remains w))

  at_more : (beta : Float) (r : ℕ) (v : Float) (w : List Float) → many (plus_at beta r v w) ≤ many w + 1
  unfolding plus_at remains
  at_more beta r v w =
      let y = add binary64 (get_or w r nan) (mul binary64 v beta) in
      chosen_but n (remains (set w r y)) (remains w) r (λ q h d e. sym (ap (λ (t : Float). not (eq t none)) (get_or-set_other w r q y nan d)) ∙ e)

  over-more : (beta : Float) (rows : List ℕ) (vals w : List Float) → many (over (plus_at beta) rows vals w) ≤ many w + length rows
  unfolding over
  over-more beta [] vals w = omega arith
  over-more beta (r ∷ rows) [] w = omega arith
  over-more beta (r ∷ rows) (v ∷ vals) w = omega (arith, at_more beta r v w, over-more beta rows vals (plus_at beta r v w))

-- ---- what is not added to
over-keeps : (beta : Float) (rows : List ℕ) (vals w : List Float) (r : ℕ) → ((q : ℕ) → q < length rows → get_or rows q 0 ≡ r → ⊥) →
    get_or (over (plus_at beta) rows vals w) r nan ≡ get_or w r nan
unfolding plus_at
over-keeps beta rows vals w r f = over_other nan (plus_at beta) r (λ z v x n. get_or-set_other x z r _ nan n) rows vals f w

module _ (a : Matrix) where
  abbrev rows_of : ℕ → List ℕ
  rows_of c = column a.pattern.p c a.pattern.i

  column-more : (c : ℕ) (beta : Float) (w : List Float) → many a.pattern.nrows (add_column a c beta w) ≤ many a.pattern.nrows w + length (rows_of c)
  unfolding add_column
  column-more c beta w = over-more a.pattern.nrows beta (rows_of c) (column a.pattern.p c a.v) w

  work-most : (cols : List ℕ) (vals w : List Float) (m : ℕ) → length vals ≡ length cols → many a.pattern.nrows w ≤ m
      → many a.pattern.nrows (over (add_column a) cols vals w) ≤ along (λ (c n : ℕ). n + length (rows_of c)) cols m
  unfolding over along
  work-most [] vals w m e h = h
  work-most (c ∷ cols) [] w m e h = absurd (omega arith)
  work-most (c ∷ cols) (v ∷ vals) w m e h = work-most cols vals (add_column a c v w) (m + length (rows_of c)) (omega arith)
      (omega (arith, column-more c v w))

  column-keeps : (c : ℕ) (beta : Float) (w : List Float) (r : ℕ) → ((q : ℕ) → q < length (rows_of c) → get_or (rows_of c) q 0 ≡ r → ⊥) →
      get_or (add_column a c beta w) r nan ≡ get_or w r nan
  unfolding add_column
  column-keeps c beta w r f = over-keeps beta (rows_of c) (column a.pattern.p c a.v) w r f

  columns-keep : (cols : List ℕ) (vals w : List Float) (r : ℕ) → ((k : ℕ) → k < length cols → (q : ℕ) → q < length (rows_of (get_or cols k 0)) →
      get_or (rows_of (get_or cols k 0)) q 0 ≡ r → ⊥)
      → get_or (over (add_column a) cols vals w) r nan ≡ get_or w r nan
  unfolding over
  columns-keep [] vals w r f = refl
  columns-keep (c ∷ cols) [] w r f = refl
  columns-keep (c ∷ cols) (v ∷ vals) w r f = columns-keep cols vals (add_column a c v w) r (λ k l. f (suc k) (omega arith)) ∙
      column-keeps c v w r (f 0 (omega arith))

  -- ---- of a column whose span is known
  module _ {cols : List ℕ} {lo hi work : ℕ} (s : Spanned a.pattern cols lo hi work) (vals : List Float) where
    pub none_below : (r : ℕ) → r < lo → get_or (column_of a cols vals) r nan ≡ none
    unfolding column_of
    none_below r h =
        columns-keep cols vals (replicate a.pattern.nrows none) r (λ k l q o e. omega (arith, s.low k l q o))
        ∙ get_or-replicate a.pattern.nrows r none nan (omega (arith, s.order, s.inside))

    pub none_behind : (r : ℕ) → hi ≤ r → r < a.pattern.nrows → get_or (column_of a cols vals) r nan ≡ none
    unfolding column_of
    none_behind r h g =
        columns-keep cols vals (replicate a.pattern.nrows none) r (λ k l q o e. omega (arith, s.high k l q o))
        ∙ get_or-replicate a.pattern.nrows r none nan g

    few_rows : many a.pattern.nrows (column_of a cols vals) ≤ hi - lo
    few_rows =
        chosen-between a.pattern.nrows (remains (column_of a cols vals)) lo hi s.order s.inside
        (λ r h. dropped (column_of a cols vals) r (none_below r h))
        (λ r h g. dropped (column_of a cols vals) r (none_behind r h g))

    little-work : length vals ≡ length cols → many a.pattern.nrows (column_of a cols vals) ≤ work
    unfolding column_of work_of
    little-work e = rw s.work_is (work-most cols vals (replicate a.pattern.nrows none) 0 e (omega (arith, zeros)))
      where
        zeros : many a.pattern.nrows (replicate a.pattern.nrows none) ≤ 0
        zeros =
            let w = replicate a.pattern.nrows none in
            chosen-between a.pattern.nrows (remains w) 0 0 (omega arith) (omega arith) (λ r h. absurd (omega arith))
            (λ r h g. dropped w r (get_or-replicate a.pattern.nrows r none nan g))

    pub column_few : length vals ≡ length cols → many a.pattern.nrows (column_of a cols vals) ≤ min (hi - lo) work
    column_few e = omega (arith, few_rows, little-work e)

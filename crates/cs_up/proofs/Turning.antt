-- A column of the factoring, by what its steps leave: its pivot and L's columns are the definition's, x is zeros again, and a column
-- that passes has its diagonal first. Assumes nothing.
use mathlib.Core.Bool.{Bool, true, false, cond}
use mathlib.Core.List.Memᴰ
use mathlib.Core.List.{List, [], ◌∷◌, ◌++◌}
use mathlib.Core.Logic.{⊎_elim}
use mathlib.Core.Path.{◌≡◌, refl, sym, ap, ◌∙◌}
use Prim.Native.Nat.{ℕ, ◌+◌, ◌≤◌, ◌<◌}
use native.Mathlib.Nat.{eq-or-lt_of_le}
use native.Mathlib.Omega.{arith}
use lib.Dec.{ltb}
use lib.Ieee.{Float, nan, of_bits, lt}
use lib.ListN.{length, get_or, set, length-set, get_or-replicate}
use lib.Seq.{get_or-set_same, get_or-set_other}
use borrow.Author.Tests.{ltb-true}
use Rattle.lists.specs.Calls.{none}
use Rattle.lists.specs.Folds.{along, over}
use Rattle.lists.specs.Parts.{part}
use Rattle.lists.proofs.Bools.{eq-or-ne, le-or-lt, not-both}
use Rattle.lists.proofs.Spots.{member_at, along-same}
use Rattle.root.specs.Root.{root_of}
use Rattle.cs_matrix.specs.Matrix.{pattern, matrix, column}
use Rattle.cs_matrix.proofs.Pointers.{Between, between, length-column}
use Rattle.cs_tree.specs.Least.{In}
use Rattle.cs_tree.specs.Pattern.{analysis, upper, lower, entries}
use Rattle.cs_pattern.specs.Columns.{columns}
use Rattle.cs_pattern.proofs.Columns.{column-at}
use Rattle.cs_cholesky.specs.Factor.{Step}
use Rattle.cs_cholesky.specs.Served.{Served}
use Rattle.cs_cholesky.proofs.Serving.{laid_inside, laid_order}
use Rattle.cs_up.specs.Steps.{way, held, goes, start_on, Loads, Cut, Stands, Rows, Rowed, Closes, Ready, Gone}
use Rattle.cs_up.specs.Up.{Way, put_at, row_at, rows_at, start_at, up_step}
use Rattle.cs_up.proofs.Holding.{held_more}
use Rattle.cs_up.proofs.Loading.{length-put, put_other}
use Rattle.cs_up.proofs.Lying.{lies, upward}
use Rattle.cs_up.proofs.Rowing.{climbs}

column_of : {A : Type 0} (p : List ℕ) (j : ℕ) (l : List A) → column p j l ≡ part (get_or p j 0) (get_or p (j + 1) 0) l
unfolding column
column_of p j l = refl

pub part-column : {A : Type 0} (p : List ℕ) (k : ℕ) {a e : ℕ} → a ≡ get_or p k 0 → e ≡ get_or p (k + 1) 0 → (l : List A) → part a e l ≡ column p k l
part-column p k x y l = rw (x, y) (sym (column_of p k l))

-- nothing to go through
rows_none : (k : ℕ) (ls : List (List ℕ)) (s : Way) → rows_at k ls [] s ≡ s
unfolding rows_at along
rows_none k ls s = refl

-- +0.0 is not above zero
none-stops : lt none none ≡ false
unfolding lt of_bits
none-stops = refl

module _ {n k : ℕ} {p i : List ℕ} {v : List Float} {tr up ui lp li : List ℕ} {lx : List Float} {next : List ℕ} {x : List Float}
    (R : Ready (matrix n n p i v) (analysis tr up ui lp li) lx next x) (here : k < n) where
  abbrev S : Served n p i v up ui lp li R.room
  S = R.served

  abbrev C : List (List ℕ)
  C = columns (pattern n n p i)

  abbrev us : List (List ℕ)
  us = upper C

  abbrev ls : List (List ℕ)
  ls = lower C

  -- ---- the stored column
  pub stored : Between p (length i) k (get_or p k 0) (get_or p (k + 1) 0)
  stored = between S.valid.pattern.ptrs S.valid.pattern.p_long here refl refl

  in_v : get_or p (k + 1) 0 ≤ length v
  in_v = omega (arith, stored.inside, S.valid.v_long)

  pub stored_i : (k + 1 < length p) × (get_or p k 0 ≤ get_or p (k + 1) 0) × (get_or p (k + 1) 0 ≤ length i)
  stored_i = (omega (arith, S.valid.pattern.p_long), stored.order, stored.inside)

  pub stored_v : (k + 1 < length p) × (get_or p k 0 ≤ get_or p (k + 1) 0) × (get_or p (k + 1) 0 ≤ length v)
  stored_v = (omega (arith, S.valid.pattern.p_long), stored.order, in_v)

  pub column_loads : {r : List ℕ} {y : List Float} → r ≡ column p k i → y ≡ column p k v → Loads k r y x
  column_loads f g = record {
    here = omega (arith, R.x_long);
    alike = rw (f, g) (length-column p k v in_v ∙ sym (length-column p k i stored.inside));
    rise = rw f (S.valid.pattern.rise k here);
  }

  in_us : k < length us
  in_us = omega (arith, S.u_long)

  -- U's column
  pub upper_u : (k + 1 < length up) × (get_or up k 0 ≤ get_or up (k + 1) 0) × (get_or up (k + 1) 0 ≤ length ui)
  upper_u = (omega (arith, S.u_laid.pointed.long, S.u_long), laid_order S.u_laid in_us refl refl, laid_inside S.u_laid in_us refl refl)

  upper_is : column up k ui ≡ get_or us k []
  upper_is = column_of up k ui ∙ S.u_laid.column k in_us

  abbrev rows : List ℕ
  rows = column p k i

  abbrev vals : List Float
  vals = column p k v

  -- what is stored above k is in U
  stored-in : (z : ℕ) → z < length rows → get_or rows z 0 ≤ k → In us (get_or rows z 0) k
  stored-in z l o = S.promised.closed.stores (get_or rows z 0) k o (rw (column-at (pattern n n p i) k here) (member_at rows z l))

  -- a place of x that no row of U's column has holds +0.0
  unput : (j : ℕ) → j < n → ¬ In us j k → get_or (over (put_at k) rows vals x) j nan ≡ none
  unput j h o =
      put_other k rows vals x j (λ z l e m. o (rw e at (stored-in z l (rw e m))))
      ∙ (rw R.zeros (get_or-replicate n j none nan h))

  rows_asked : {u : List ℕ} {x1 : List Float} → Stands k k lp li next → u ≡ column up k ui →
      x1 ≡ set (over (put_at k) rows vals x) k none → Rows k u lp li lx next x1
  rows_asked {x1 = x1} st y e =
      record {
        n = n;
        t = entries us;
        us = us;
        lies = lies S;
        here = here;
        is = y ∙ upper_is;
        lx_long = R.lx_long;
        next_long = R.next_long;
        x_long = ap length e ∙ length-set (over (put_at k) rows vals x) k none ∙ long ∙ R.x_long;
        stands = st;
        zero = λ j h o. rw e (⊎_elim
            (λ (q : j ≡ k). rw q (get_or-set_same (over (put_at k) rows vals x) k none nan (omega (arith, long, R.x_long))))
            (λ (q : j ≡ k → ⊥).
            get_or-set_other (over (put_at k) rows vals x) k j none nan q
            ∙ unput j h (λ m. let u = upward S m in o (omega (arith, q)) (rw (y ∙ upper_is) m)))
            (eq-or-ne j k));
      }
    where
      long : length (over (put_at k) rows vals x) ≡ length x
      long = length-put k rows vals x

  -- what `start` answers and leaves
  module _ {r : List ℕ} {y : List Float} (f : r ≡ rows) (g : y ≡ vals) {x1 : List Float} {first : Float}
      (u : (first ≡ get_or (over (put_at k) r y x) k nan) × (x1 ≡ set (over (put_at k) r y x) k none)) where
    put_is : over (put_at k) r y x ≡ over (put_at k) rows vals x
    put_is = rw (f, g) refl

    x1_is : x1 ≡ set (over (put_at k) rows vals x) k none
    x1_is = u.1 ∙ ap (λ (y : List Float). set y k none) put_is

    module _ {us1 : List ℕ} (z : us1 ≡ column up k ui) where
      pub column-rows : Stands k k lp li next → Rows k us1 lp li lx next x1
      column-rows st = rows_asked st z x1_is

      started_on : way x1 first (held k lp next lx) ≡ start_on k rows vals x (held k lp next lx)
      unfolding start_on
      started_on = λ t. record { x = x1_is t; pivot = (u.0 ∙ ap (λ (y : List Float). get_or y k nan) put_is) t; columns = held k lp next lx }

      pub column-gone : {lx1 : List Float} {next1 : List ℕ} {x2 : List Float} {pivot : Float}
          → (way x2 pivot (held k lp next1 lx1) ≡ goes k lp li us1 (way x1 first (held k lp next lx))) × Rowed k lp li next1 x2 →
          Gone k (matrix n n p i v) (analysis tr up ui lp li) lx next x lx1 next1 x2 pivot
      column-gone w =
          record {
            is = w.0 ∙ ap (λ (l : List ℕ). goes k lp li l (way x1 first (held k lp next lx))) z ∙ ap (goes k lp li (column up k ui)) started_on;
            rowed = w.1;
          }

  -- ---- the definition's column
  abbrev step : ℕ → List (List Float) → Step
  step = up_step (matrix n n p i v) us ls

  abbrev done : List (List Float)
  done = held k lp next lx

  begins : start_on k rows vals x done ≡ start_at (matrix n n p i v) k done
  unfolding start_on start_at
  begins = rw R.zeros

  goes-is : (s : Way) → goes k lp li (column up k ui) s ≡ rows_at k ls (get_or us k []) s
  unfolding goes rows_at
  goes-is s =
      ap (λ (u : List ℕ). along (λ j s. cond (ltb j k) (row_at k (column lp j li) j s) s) u s) upper_is
      ∙ along-same _ _ (get_or us k []) (λ j s m. one j s (ltb j k) refl) s
    where
      one : (j : ℕ) (s : Way) (t : Bool) → ltb j k ≡ t → cond t (row_at k (column lp j li) j s) s ≡ cond t (row_at k (get_or ls j []) j s) s
      one j s true e = ap (λ (l : List ℕ). row_at k l j s) (column_of lp j li ∙ S.l_laid.column j (omega (arith, ltb-true j k e, S.l_long)))
      one j s false e = refl

  -- column k has been gone through
  module _ {lx1 : List Float} {next1 : List ℕ} {x1 : List Float} {pivot : Float}
      (w : Gone k (matrix n n p i v) (analysis tr up ui lp li) lx next x lx1 next1 x1 pivot) where
    way-is : way x1 pivot (held k lp next1 lx1) ≡ rows_at k ls (get_or us k []) (start_at (matrix n n p i v) k done)
    way-is = w.is ∙ goes-is (start_on k rows vals x done) ∙ ap (rows_at k ls (get_or us k [])) begins

    pub pivot_is : pivot ≡ (step k done).pivot
    unfolding up_step
    pivot_is = ap (λ (s : Way). s.pivot) way-is

    grown : held k lp next1 lx1 ++ ((root_of pivot ∷ []) ∷ []) ≡ (step k done).columns
    unfolding up_step
    grown = ap (λ (s : Way). s.columns ++ ((root_of s.pivot ∷ []) ∷ [])) way-is

    -- a pivot above zero has its diagonal in the pattern
    start_none : get_or us k [] ≡ [] → pivot ≡ none
    unfolding start_at
    start_none e =
        ap (λ (s : Way). s.pivot) way-is
        ∙ ap (λ (u : List ℕ). (rows_at k ls u (start_at (matrix n n p i v) k done)).pivot) e
        ∙ ap (λ (s : Way). s.pivot) (rows_none k ls (start_at (matrix n n p i v) k done))
        ∙ (rw R.zeros at (unput k here (λ m. Memᴰ.not-nil (rw e at m))))

    module _ (t : lt none pivot ≡ true) where
      diagonal : In us k k
      diagonal = go (get_or us k []) refl
        where
          go : (u : List ℕ) → get_or us k [] ≡ u → In us k k
          go [] e = absurd (not-both (lt none none) (rw (start_none e) at t) none-stops)
          go (j ∷ u) e =
              let m : In us j k = rw e (Memᴰ.head refl) in
              ⊎_elim (λ (z : j ≡ k). rw z at m) (λ (z : j < k). S.promised.closed.diagonal j k z m) (eq-or-lt_of_le (upward S m).0)

      abbrev lo : ℕ
      lo = get_or lp k 0

      abbrev hi : ℕ
      hi = get_or lp (k + 1) 0

      -- and it is the first of L's column
      starts : (lo < hi) × (get_or li lo 0 ≡ k)
      starts =
          let q = (lies S).place k k diagonal in
          let h : lo < hi = omega (arith, q.from, q.to) in
          let m = upward S ((lies S).entry k lo here (omega arith) h) in
          ⊎_elim
          (λ (z : lo ≡ q.at). (h, rw z q.is))
          (λ (z : lo < q.at). absurd (omega (arith, (lies S).rise k lo q.at here (omega arith) z q.to, q.is, m.0)))
          (eq-or-lt_of_le q.from)

      hi_in : hi ≤ entries us
      hi_in = omega (arith, climbs (lies S) (k + 1) n (omega arith) (omega arith), (lies S).end)

      module _ (l : length lx1 ≡ length lx) (m : length next1 ≡ length next) where
        pub column_closes : Closes k lp lx1 next1
        column_closes = record {
          in_lp = omega (arith, (lies S).lp_long);
          in_next = omega (arith, R.next_long);
          room = omega (arith, starts.0, hi_in, R.lx_long);
          few = omega (arith, R.lx_long, S.few);
        }

        pub columns_are : held (k + 1) lp (set next1 k (lo + 1)) (set lx1 lo (root_of pivot)) ≡ (step k done).columns
        columns_are =
            held_more k lo lp next1 lx1 (root_of pivot) column_closes.in_next refl column_closes.room
            (λ j h. omega (arith, (w.rowed.stands.cut j h).high, climbs (lies S) (j + 1) k (omega arith) (omega arith)))
            ∙ grown

        own_cut : Cut li lo (lo + 1) hi (k + 1)
        own_cut = record {
          low = omega arith;
          high = omega (arith, starts.0);
          before = λ z a b. let e : z ≡ lo = omega arith in rw e (omega (arith, starts.1));
          after = λ z a b. omega (arith, (lies S).rise k lo z here (omega arith) (omega arith) b, starts.1);
        }

        pub stands_more : Stands (k + 1) (k + 1) lp li (set next1 k (lo + 1))
        stands_more = record {
          cut = λ j h. or j h (λ b. rw (get_or-set_other next1 k j (lo + 1) 0 (λ e. omega arith)) (w.rowed.stands.cut j b))
              (λ e. rw (e, get_or-set_same next1 k (lo + 1) 0 column_closes.in_next) own_cut);
          some = λ j h. or j h (w.rowed.stands.some j) (λ e. rw e starts.0);
          first = λ j h. or j h (w.rowed.stands.first j) (λ e. rw e starts.1);
        }
          where
            or : {P : Type 0} (j : ℕ) → j < k + 1 → (j < k → P) → (j ≡ k → P) → P
            or j h f g = ⊎_elim (λ (z : k ≤ j). g (omega arith)) (λ (z : j < k). f z) (le-or-lt k j)

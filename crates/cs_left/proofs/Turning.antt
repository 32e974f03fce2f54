-- The loop of `factor`: before column k the columns done stand in the front of lx, x is zeros, and `next` has for each column done
-- the place of its first row at or past k. Assumes nothing.
use mathlib.Core.Path.{◌≡◌, refl, sym, ap, ◌∙◌}
use mathlib.Core.Bool.{Bool, true, false, cond}
use mathlib.Core.List.Memᴰ
use mathlib.Core.List.{List, [], ◌∷◌, ◌++◌, append_assoc, flatten, Memᴰ}
use mathlib.Core.Logic.{◌⊎◌, ⊎_elim}
use Prim.Native.Nat.{ℕ, ◌+◌, ◌-◌, ◌≤◌, ◌<◌}
use native.Mathlib.Omega.{arith}
use lib.Dec.{ltb}
use lib.Ieee.{Float, nan, lt}
use lib.ListN.{length, get_or, set, take, drop, replicate, length-set, length-replicate, length-append, take-append-drop, get_or-replicate}
use lib.Seq.{take_all, take-append-le, take-append_seam, get_or-set_same, get_or-set_other, ext_get_or}
use borrow.Author.Tests.{ltb-true}
use Rattle.lists.specs.Calls.{none}
use Rattle.lists.specs.Entries.{Entries}
use Rattle.lists.specs.Folds.{along, over}
use Rattle.lists.specs.Order.{lists}
use Rattle.lists.specs.Parts.{part, placed}
use Rattle.lists.proofs.Bools.{le-or-lt}
use Rattle.lists.proofs.Members.{listed-or-not}
use Rattle.lists.proofs.Ordering.{rising_once, rising_rises}
use Rattle.lists.proofs.Parts.{length-placed}
use Rattle.lists.proofs.Places.{placed-after}
use Rattle.cs_matrix.specs.Matrix.{pattern, Matrix, matrix, column}
use Rattle.cs_matrix.proofs.Pointers.{at_most, length-column, get_or-column}
use Rattle.cs_tree.specs.Pattern.{analysis, upper, lower, entries}
use Rattle.cs_pattern.specs.Columns.{columns}
use Rattle.cs_cholesky.specs.Factor.{Outcome, factored}
use Rattle.cs_cholesky.specs.Served.{Served}
use Rattle.cs_cholesky.proofs.Factoring.{Reached, reached-start, reached-turn, reached_stop, reached-end}
use Rattle.cs_cholesky.proofs.Serving.{laid-size, laid_end, laid_inside, laid_order}
use Rattle.root.specs.Root.{root_of}
use Rattle.lists.proofs.Spots.{member_at, along-same}
use Rattle.lists.proofs.Positions.{once-apart, drop-same, flatten_last, part-flat, along-keeps}
use Rattle.cs_left.specs.Left.{put_at, add_column, add_columns, left_x, left_step, quotients, left, strays}
use Rattle.cs_left.specs.Steps.{zero_at, add_held, advance, Next, Crossing, Within, Gathers, Finishes, Asked}
use Rattle.cs_left.proofs.Columns.{length-quotients}
use Rattle.cs_left.proofs.Cutting.{cut_here, cut_first, next_on, next_stays, length_advances, advance_missing, advance_hit}
use Rattle.cs_left.proofs.Placed.{in-lower, x_off, diagonal-in}

among : {x : ℕ} {l m : List ℕ} → l ≡ m → Memᴰ x l → Memᴰ x m
among e t = rw e at t

-- ---- zeros put back
zero_off : (rows : List ℕ) (x : List Float) (z : ℕ) → (Memᴰ z rows → ⊥) → get_or (along zero_at rows x) z nan ≡ get_or x z nan
unfolding zero_at
zero_off rows x z n = along-keeps (λ (s : List Float). get_or s z nan) zero_at rows (λ r s m. get_or-set_other s r z none nan (λ e. n (rw e m))) x

zero_on : (rows : List ℕ) (x : List Float) (z : ℕ) → z < length x → Memᴰ z rows → get_or (along zero_at rows x) z nan ≡ none
unfolding along zero_at
zero_on [] x z h m = absurd (Memᴰ.not-nil m)
zero_on (r ∷ rows) x z h m = ⊎_elim (λ y. zero_on rows (set x r none) z (rw (length-set x r none) h) y.1) (λ y. last y (Memᴰ.cases_cons m))
    (listed-or-not z rows)
  where
    last : (lists z rows ≡ false) × ¬ Memᴰ z rows → (z ≡ r) ⊎ Memᴰ z rows → get_or (along zero_at rows (set x r none)) z nan ≡ none
    last y t = ⊎_elim (λ (e : z ≡ r). zero_off rows (set x r none) z y.1 ∙ ap (λ (q : ℕ). get_or (set x q none) z nan) (sym e) ∙
        get_or-set_same x z none nan h) (λ (u : Memᴰ z rows). absurd (y.1 u)) t

length-zeros : (rows : List ℕ) (x : List Float) → length (along zero_at rows x) ≡ length x
unfolding zero_at
length-zeros rows x = along-keeps length zero_at rows (λ r s m. length-set s r none) x

-- ---- the columns of U and of L, as the lent slices hold them
module _ {n : ℕ} {p i : List ℕ} {v : List Float} {up ui lp li : List ℕ} {room : ℕ} (S : Served n p i v up ui lp li room) where
  abbrev C : List (List ℕ)
  C = columns (pattern n n p i)

  abbrev us : List (List ℕ)
  us = upper (columns (pattern n n p i))

  abbrev ls : List (List ℕ)
  ls = lower (columns (pattern n n p i))

  module _ {k : ℕ} (h : k < n) where
    u_in : k < length us
    u_in = omega (arith, S.u_long)

    l_in : k < length ls
    l_in = omega (arith, S.l_long)

    pub u_column : column up k ui ≡ get_or us k []
    unfolding column
    u_column = S.u_laid.column k u_in

    pub l_column : column lp k li ≡ get_or ls k []
    unfolding column
    l_column = S.l_laid.column k l_in

    pub l_size : get_or lp (k + 1) 0 ≡ get_or lp k 0 + length (get_or ls k [])
    l_size = laid-size S.l_laid l_in refl refl

    pub l_end : get_or lp (k + 1) 0 ≤ entries us
    l_end = omega (arith, laid_end S.l_laid l_in refl refl, S.promised.counts)

    pub p_within : Within k p i
    p_within = let w = S.valid.pattern in record {
      pointer = omega (arith, w.p_long);
      order = w.ptrs.climbs k (omega (arith, w.p_long));
      inside = at_most w.ptrs (k + 1) (omega (arith, w.p_long));
    }

    pub u_within : Within k up ui
    u_within = record {
      pointer = omega (arith, S.u_laid.pointed.long, S.u_long);
      order = laid_order S.u_laid u_in refl refl;
      inside = laid_inside S.u_laid u_in refl refl;
    }

    pub l_within : Within k lp li
    l_within = record {
      pointer = omega (arith, S.l_laid.pointed.long, S.l_long);
      order = laid_order S.l_laid l_in refl refl;
      inside = laid_inside S.l_laid l_in refl refl;
    }

    pub l_row : (q : ℕ) → q < length (get_or ls k []) → (k ≤ get_or (get_or ls k []) q 0) × (get_or (get_or ls k []) q 0 < n)
    l_row q g = in-lower S (member_at (get_or ls k []) q g)

    pub p_entries : Entries n (column p k i) (column p k v)
    p_entries =
        let w = S.valid.pattern in
        let a = length-column p k i p_within.inside in
        record {
          alike = length-column p k v (omega (arith, p_within.inside, S.valid.v_long)) ∙ sym a;
          below = λ q g. (let d : q < get_or p (k + 1) 0 - get_or p k 0 = omega (arith, a) in
              rw (get_or-column p k i q 0 d) (w.below (get_or p k 0 + q) (omega (arith, p_within.inside))));
        }

  pub l_last : get_or lp n 0 ≡ entries us
  l_last = S.l_laid.pointed.at n (omega (arith, S.l_long)) ∙ ap entries (take_all n ls (omega (arith, S.l_long))) ∙ S.promised.counts

-- ---- the state before column k
pub record State (a : Matrix) (lp : List ℕ) (lx₀ : List Float) (next : List ℕ) (lx x : List Float) (k : ℕ) : Type 0 where
  pub done : List (List Float)
  pub count : length done ≡ k
  pub starts : (j : ℕ) → j ≤ k → length (flatten (take j done)) ≡ get_or lp j 0
  pub held : take (length (flatten done)) lx ≡ flatten done
  pub reached : Reached (left_step a (upper (columns a.pattern)) (lower (columns a.pattern))) a.pattern.ncols k done
  pub lx_long : length lx ≡ length lx₀
  pub rest : drop (entries (upper (columns a.pattern))) lx ≡ drop (entries (upper (columns a.pattern))) lx₀
  pub next_long : length next ≡ a.pattern.ncols
  pub next_at : (j : ℕ) → j < k → Next k (get_or (lower (columns a.pattern)) j []) (get_or lp j 0) (get_or next j 0)
  pub zeros : x ≡ replicate a.pattern.ncols none

pub state_start : {n : ℕ} {p i : List ℕ} {v : List Float} {tr up ui lp li : List ℕ} {room : ℕ} {next : List ℕ} (lx : List Float) {x : List Float} →
    Asked (matrix n n p i v) (analysis tr up ui lp li) room next x → State (matrix n n p i v) lp lx next lx x 0
unfolding flatten entries
state_start {n} {p} {i} {v} {lp = lp} lx a =
    record {
      done = [];
      count = refl;
      starts = λ j h. (let e : j ≡ 0 = omega arith in rw e (sym (a.served.l_laid.pointed.at 0 (omega arith))));
      held = refl;
      reached = reached-start (left_step (matrix n n p i v) (upper (columns (pattern n n p i))) (lower (columns (pattern n n p i)))) n;
      lx_long = refl;
      rest = refl;
      next_long = a.next_long;
      next_at = λ j h. absurd (omega arith);
      zeros = a.zeros;
    }

-- ---- one column
module _ {n : ℕ} {p i : List ℕ} {v : List Float} {up ui lp li : List ℕ} {room : ℕ} (S : Served n p i v up ui lp li room)
    (Q : strays (matrix n n p i v) ≡ false)
    {lx₀ : List Float} (R : room ≡ length lx₀) {next : List ℕ} {lx x : List Float} {k : ℕ} (w : State (matrix n n p i v) lp lx₀ next lx x k) where
  abbrev U : List (List ℕ)
  U = upper (columns (pattern n n p i))

  abbrev L : List (List ℕ)
  L = lower (columns (pattern n n p i))

  x_long : length x ≡ n
  x_long = ap length w.zeros ∙ length-replicate n none

  -- as many values are done as the pointer says
  done_long : length (flatten w.done) ≡ get_or lp k 0
  done_long = ap (λ (t : List (List Float)). length (flatten t)) (sym (take_all k w.done (omega (arith, w.count)))) ∙ w.starts k (omega arith)

  lx_is : lx ≡ flatten w.done ++ drop (length (flatten w.done)) lx
  lx_is = sym (take-append-drop (length (flatten w.done)) lx) ∙ ap (λ (t : List Float). t ++ drop (length (flatten w.done)) lx) w.held

  held-column : {j : ℕ} → j < k → column lp j lx ≡ get_or w.done j []
  unfolding column
  held-column {j} h =
      ap (part (get_or lp j 0) (get_or lp (j + 1) 0)) lx_is
      ∙ part-flat w.done (drop (length (flatten w.done)) lx) j (get_or lp j 0) (get_or lp (j + 1) 0) (omega (arith, w.count))
      (w.starts j (omega arith)) (w.starts (j + 1) (omega arith))

  -- at the end of all columns
  pub state_end : n ≤ k → (((left (matrix n n p i v)).answer ≡ factored 0 0 none) ×
      (take (entries U) lx ≡ flatten (left (matrix n n p i v)).columns)) ×
      (drop (entries U) lx ≡ drop (entries U) lx₀)
  unfolding left
  state_end h =
      let z : n ≡ k = omega (arith, w.reached.within) in
      let f = reached-end (left_step (matrix n n p i v) U L) w.reached h in
      let t : entries U ≡ length (flatten w.done) = sym (l_last S) ∙ ap (λ (m : ℕ). get_or lp m 0) z ∙ sym done_long in (
        (ap (λ (o : Outcome). o.answer) f, ap (λ (m : ℕ). take m lx) t ∙ w.held ∙ ap (λ (o : Outcome). flatten o.columns) (sym f)),
        w.rest,
      )

  module _ (h : k < n) where
    crossing : {j : ℕ} → j < k → Memᴰ j (get_or U k []) → Crossing k lp li lx next (length x) j
    crossing {j} g m =
        let b : j < n = omega arith in
        let t = (S.promised.across j k).1 m in
        let N = w.next_at j g in
        let c = cut_here N.cut (S.promised.rise j) t in
        let d : N.m < get_or lp (j + 1) 0 - get_or lp j 0 = omega (arith, l_size S b, c.0) in
        record {
          pointer = (l_within S b).pointer;
          place = omega (arith, w.next_long);
          few = omega (arith, l_end S b, S.few);
          in_li = (l_within S b).inside;
          in_lx = omega (arith, l_end S b, S.roomy, w.lx_long);
          at = rw (l_column S b) N;
          inside = omega (arith, N.is, l_size S b, c.0);
          here = ap (λ (q : ℕ). get_or li q 0) N.is ∙ sym (get_or-column lp j li N.m 0 d) ∙ ap (λ (l : List ℕ). get_or l N.m 0) (l_column S b) ∙ c.1;
          rise = rw (l_column S b) (rising_rises (S.promised.rise j));
          below = λ q f o.
              let y : q - get_or lp j 0 < get_or lp (j + 1) 0 - get_or lp j 0 = omega arith in
              let u : q ≡ get_or lp j 0 + (q - get_or lp j 0) = omega arith in
              let r : get_or li q 0 ≡ get_or (get_or L j []) (q - get_or lp j 0) 0 = ap (λ (s : ℕ). get_or li s 0) u ∙
              sym (get_or-column lp j li (q - get_or lp j 0) 0 y) ∙ ap (λ (l : List ℕ). get_or l (q - get_or lp j 0) 0) (l_column S b) in
              omega (arith, r, x_long, (l_row S b (q - get_or lp j 0) (omega (arith, l_size S b))).1);
        }

    pub state_gathers : {tr : List ℕ} → Gathers k (matrix n n p i v) (analysis tr up ui lp li) lx next (length x)
    state_gathers =
        record {
          small = omega (arith, S.valid.pattern.cols);
          here = omega (arith, x_long);
          stored = p_within S h;
          v_inside = omega (arith, (p_within S h).inside, S.valid.v_long);
          entries = rw x_long (p_entries S h);
          listed = u_within S h;
          crossings =
              record {
                once = rw (u_column S h) (once-apart (S.promised.once k));
                each = λ q g f. crossing f (among (u_column S h) (member_at (column up k ui) q g));
              };
        }

    -- once x has gathered all
    module _ {pivot : Float} {y : List Float} {next1 : List ℕ} (l : length y ≡ length x)
        (g : (pivot ≡ get_or y k nan) × (y ≡ add_held k lp li lx (column up k ui) (over (put_at k) (column p k i) (column p k v) x)) ×
        (next1 ≡ along (advance k) (column up k ui) next)) where
      x_is : y ≡ left_x (matrix n n p i v) U L k w.done
      unfolding left_x add_held add_columns
      x_is =
          let X = over (put_at k) (column p k i) (column p k v) in
          g.1
          ∙ ap (λ (u : List ℕ). add_held k lp li lx u (X x)) (u_column S h)
          ∙ ap (λ (s : List Float). add_held k lp li lx (get_or U k []) (X s)) w.zeros
          ∙ along-same (λ j x. cond (ltb j k) (add_column k (column lp j li) (column lp j lx) x) x)
          (λ j x. cond (ltb j k) (add_column k (get_or L j []) (get_or w.done j []) x) x) (get_or U k []) (λ j s m. go (ltb j k) j refl s)
          (X (replicate n none))
        where
          go : (b : Bool) (j : ℕ) → ltb j k ≡ b → (s : List Float) → cond b (add_column k (column lp j li) (column lp j lx) s) s
              ≡ cond b (add_column k (get_or L j []) (get_or w.done j []) s) s
          go true j e s = (let f : j < k = ltb-true j k e in let b : j < n = omega arith in
              ap (λ (t : List ℕ). add_column k t (column lp j lx) s) (l_column S b) ∙ ap (λ (t : List Float). add_column k (get_or L j []) t s)
              (held-column f))
          go false j e s = refl

      next1_long : length next1 ≡ n
      next1_long = ap length g.2 ∙ length_advances k (column up k ui) next ∙ w.next_long

      next1_at : (j : ℕ) → j < k → Next (k + 1) (get_or L j []) (get_or lp j 0) (get_or next1 j 0)
      next1_at j f =
          let e : next1 ≡ along (advance k) (get_or U k []) next = g.2 ∙ ap (λ (s : List ℕ). along (advance k) s next) (u_column S h) in
          ⊎_elim
          (λ z. next_on (S.promised.rise j) (w.next_at j f) ((S.promised.across j k).1 z.1) (ap (λ (s : List ℕ). get_or s j 0) e ∙
          advance_hit k (S.promised.once k) next j z.1 f (omega (arith, w.next_long))))
          (λ z. next_stays (S.promised.rise j) (w.next_at j f) (λ m. z.1 ((S.promised.across j k).0 m)) (ap (λ (s : List ℕ). get_or s j 0) e ∙
          advance_missing k (get_or U k []) next j z.1))
          (listed-or-not j (get_or U k []))

      pivot_is : pivot ≡ (left_step (matrix n n p i v) U L k w.done).pivot
      unfolding left_step
      pivot_is = g.0 ∙ ap (λ (s : List Float). get_or s k nan) x_is

      pub state_stop : lt none pivot ≡ false → ((factored 11 k pivot ≡ (left (matrix n n p i v)).answer) × ((factored 11 k pivot).number ≡ 11)) ×
          (drop (entries U) lx ≡ drop (entries U) lx₀)
      unfolding left
      state_stop t =
          let f = reached_stop (left_step (matrix n n p i v) U L) w.reached h pivot_is t in
          ((ap (λ (o : Outcome). o.answer) (sym f), refl), w.rest)

      pub state_finishes : Finishes k lp li lx next1 (length y)
      state_finishes =
          record {
            small = omega (arith, S.valid.pattern.cols);
            place = omega (arith, next1_long);
            few = omega (arith, l_end S h, S.few);
            laid = l_within S h;
            in_lx = omega (arith, l_end S h, S.roomy, w.lx_long);
            places =
                rw (l_column S h)
                (record {
                  alike = omega (arith, l_size S h);
                  below = λ q f. omega (arith, (l_row S h q f).1, x_long);
                  once = once-apart (rising_once (S.promised.rise k));
                });
          }

      -- and the column of L is finished
      module _ (t : lt none pivot ≡ true) {d : Float} (o : d ≡ root_of pivot) {lx1 y1 : List Float} {next2 : List ℕ}
          (f : (lx1 ≡ placed (get_or lp k 0) (get_or lp (k + 1) 0) lx (quotients d (column lp k li) y)) × (y1 ≡ along zero_at (column lp k li) y) ×
          (next2 ≡ set next1 k (get_or lp k 0 + 1))) where
        ys : List Float
        ys = quotients d (column lp k li) y

        more : List (List Float)
        unfolding ys
        more = w.done ++ (ys ∷ [])

        ys_long : length ys ≡ get_or lp (k + 1) 0 - get_or lp k 0
        unfolding ys
        ys_long = length-quotients d (column lp k li) y ∙ ap length (l_column S h) ∙ omega (arith, l_size S h)

        more-is : more ≡ (left_step (matrix n n p i v) U L k w.done).columns
        unfolding ys more left_step
        more-is =
            ap (λ (a : List ℕ). w.done ++ (quotients d a y ∷ [])) (l_column S h)
            ∙ ap (λ (a : List Float). w.done ++ (quotients d (get_or L k []) a ∷ [])) x_is
            ∙ ap (λ (a : Float). w.done ++ (quotients a (get_or L k []) (left_x (matrix n n p i v) U L k w.done) ∷ []))
            (o ∙ ap root_of (g.0 ∙ ap (λ (s : List Float). get_or s k nan) x_is))

        flat-more : flatten more ≡ flatten w.done ++ ys
        unfolding more
        flat-more = flatten_last w.done ys

        more-count : length more ≡ k + 1
        unfolding more
        more-count = length-append w.done (ys ∷ []) ∙ omega (arith, w.count)

        more_long : length (flatten more) ≡ get_or lp (k + 1) 0
        more_long = ap length flat-more ∙ length-append (flatten w.done) ys ∙ omega (arith, ys_long, done_long, l_size S h)

        more-starts : (j : ℕ) → j ≤ k + 1 → length (flatten (take j more)) ≡ get_or lp j 0
        unfolding more
        more-starts j b =
            ⊎_elim (λ (z : j ≤ k). ap (λ (a : List (List Float)). length (flatten a)) (take-append-le j w.done (ys ∷ []) (omega (arith, w.count))) ∙
            w.starts j z)
            (λ (z : k < j). (let e : j ≡ k + 1 = omega arith in
            rw e (ap (λ (a : List (List Float)). length (flatten a)) (take_all (k + 1) more (omega (arith, more-count))) ∙ more_long)))
            (le-or-lt j k)

        abbrev rest_of : List Float
        rest_of = drop (get_or lp (k + 1) 0 - get_or lp k 0) (drop (get_or lp k 0) lx)

        more-held : take (length (flatten more)) lx1 ≡ flatten more
        unfolding ys
        more-held =
            let a : take (get_or lp k 0) lx ≡ flatten w.done = ap (λ (m : ℕ). take m lx) (sym done_long) ∙ w.held in
            let b : lx1 ≡ flatten more ++ rest_of = f.0 ∙ ap (λ (z : List Float). z ++ (ys ++ rest_of)) a ∙
            sym (append_assoc (flatten w.done) ys rest_of) ∙ ap (λ (z : List Float). z ++ rest_of) (sym flat-more) in
            ap (take (length (flatten more))) b ∙ take-append_seam (flatten more) rest_of

        lx_in : get_or lp (k + 1) 0 ≤ length lx
        lx_in = omega (arith, l_end S h, S.roomy, w.lx_long)

        lp_order : get_or lp k 0 ≤ get_or lp (k + 1) 0
        lp_order = omega (arith, l_size S h)

        lx1_long : length lx1 ≡ length lx
        unfolding ys
        lx1_long = ap length f.0 ∙ length-placed (get_or lp k 0) (get_or lp (k + 1) 0) lx ys lp_order lx_in ys_long

        lx1_rest : drop (entries U) lx1 ≡ drop (entries U) lx
        unfolding ys
        lx1_rest = drop-same nan (entries U) lx1 lx lx1_long (λ q b. ap (λ (z : List Float). get_or z q nan) f.0 ∙
            placed-after nan (get_or lp k 0) (get_or lp (k + 1) 0) lx ys lp_order lx_in ys_long q (omega (arith, l_end S h)))

        next2_at : (j : ℕ) → j < k + 1 → Next (k + 1) (get_or L j []) (get_or lp j 0) (get_or next2 j 0)
        next2_at j b =
            ⊎_elim
            (λ (z : k ≤ j).
            (let e : j ≡ k = omega arith in
            let m : get_or next2 k 0 ≡ get_or lp k 0 + 1 = ap (λ (s : List ℕ). get_or s k 0) f.2 ∙
            get_or-set_same next1 k _ 0 (omega (arith, next1_long)) in
            rw e (record {
              m = 1;
              is = m;
              cut = cut_first (get_or L k []) (S.promised.rise k) (λ q r. (l_row S h q r).0)
                  (diagonal-in S Q h w.done (g.0 ∙ ap (λ (s : List Float). get_or s k nan) x_is) t);
            })))
            (λ (z : j < k). (let m : get_or next2 j 0 ≡ get_or next1 j 0 = ap (λ (s : List ℕ). get_or s j 0) f.2 ∙
            get_or-set_other next1 k j _ 0 (λ (e : j ≡ k). omega arith) in rw m (next1_at j z))) (le-or-lt k j)

        y1_zeros : y1 ≡ replicate n none
        y1_zeros = ext_get_or nan y1 (replicate n none) (y1_long ∙ sym (length-replicate n none)) (λ z b. at z (omega (arith, y1_long)) ∙
            sym (get_or-replicate n z none nan (omega (arith, y1_long))))
          where
            e : y1 ≡ along zero_at (get_or L k []) y
            e = f.1 ∙ ap (λ (r : List ℕ). along zero_at r y) (l_column S h)

            y1_long : length y1 ≡ n
            y1_long = ap length e ∙ length-zeros (get_or L k []) y ∙ l ∙ x_long

            at : (z : ℕ) → z < n → get_or y1 z nan ≡ none
            at z b =
                ap (λ (s : List Float). get_or s z nan) e
                ∙ ⊎_elim (λ m. zero_on (get_or L k []) y z (omega (arith, l, x_long)) m.1) (λ m. zero_off (get_or L k []) y z m.1 ∙
                ap (λ (s : List Float). get_or s z nan) x_is ∙ x_off S Q h w.done m.1 b) (listed-or-not z (get_or L k []))

        pub state_turn : State (matrix n n p i v) lp lx₀ next2 lx1 y1 (k + 1)
        state_turn =
            record {
              done = more;
              count = more-count;
              starts = more-starts;
              held = more-held;
              reached = reached-turn (left_step (matrix n n p i v) U L) w.reached h pivot_is t more-is;
              lx_long = lx1_long ∙ w.lx_long;
              rest = lx1_rest ∙ w.rest;
              next_long = ap length f.2 ∙ length-set next1 k _ ∙ next1_long;
              next_at = next2_at;
              zeros = y1_zeros;
            }

-- `rows_at`: row k of L, column by column. The value of column j goes to the place that has row k, the rows before it are taken
-- from x, and each of them is still to come in U's column k. Assumes nothing.
use mathlib.Core.Bool.{true, cond}
use mathlib.Core.List.Memᴰ
use mathlib.Core.List.{List, [], ◌∷◌, ◌++◌, Memᴰ}
use mathlib.Core.Logic.{◌⊎◌, ⊎_elim, inl, inr, ◌≢◌}
use mathlib.Core.Path.{◌≡◌, refl, sym, ap, ◌∙◌}
use Prim.Native.Nat.{ℕ, ◌+◌, ◌≤◌, ◌<◌}
use native.Mathlib.Omega.{arith}
use lib.Dec.{ltb}
use lib.Ieee.{Float, nan, binary64, sub, mul, div}
use lib.ListN.{length, get_or, set, drop, replicate, length-set, length-replicate, get_or-replicate}
use lib.Seq.{ext_get_or, get_or-set_same, get_or-set_other}
use borrow.Author.Tests.{lt-ltb, le-ltb}
use Rattle.lists.specs.Calls.{none}
use Rattle.lists.specs.Entries.{Entries}
use Rattle.lists.specs.Folds.{over}
use Rattle.lists.specs.Order.{rises}
use Rattle.lists.specs.Parts.{part}
use Rattle.lists.proofs.Bools.{eq-or-ne, le-or-lt}
use Rattle.lists.proofs.Folds.{Along, along-start, along-turn, along-end}
use Rattle.lists.proofs.Members.{listed-or-not}
use Rattle.lists.proofs.Ordering.{steps-climb}
use Rattle.lists.proofs.Parts.{left_at, left-none, length_part, get_d_part}
use Rattle.lists.proofs.Spots.{member_at, once_behind}
use Rattle.lists.proofs.Runs.{rises-part}
use Rattle.cs_matrix.specs.Matrix.{column, value_at}
use Rattle.cs_tree.specs.Least.{In}
use Rattle.cs_up.specs.Steps.{way, take_at, held, goes, Reads, Cut, Lies, Rows, Rowed}
use Rattle.cs_up.specs.Up.{Way, sub_at, row_at}
use Rattle.cs_up.proofs.Holding.{held_at, held-push}
use Rattle.cs_up.proofs.Taking.{length_taken, taken_other, first-value, column-takes}

-- ---- one column
module _ {j s e : ℕ} {li : List ℕ} {lx x : List Float} (r : Reads j s e li lx x) where
  pub reads-takes : (y : Float) → Entries (length (set x j y)) (part (s + 1) e li) (part (s + 1) e lx) × (rises (part (s + 1) e li) ≡ true)
  reads-takes y =
      let a = length_part (s + 1) e li r.rows in
      let b : e ≤ length lx = omega (arith, r.room) in (
        record {
          alike = length_part (s + 1) e lx b ∙ sym a;
          below = λ z h. rw (get_d_part (s + 1) e li z 0 (omega arith), length-set x j y) (r.below (s + 1 + z) (omega arith) (omega arith));
        },
        rises-part (s + 1) e li r.rows (λ z q l m o. r.rise z q (omega arith) m o),
      )

-- the pointers climb
pub climbs : {n t : ℕ} {us : List (List ℕ)} {lp li : List ℕ} → Lies n t us lp li → (a b : ℕ) → a ≤ b → b ≤ n → get_or lp a 0 ≤ get_or lp b 0
climbs {n = n} {lp = lp} l a b h g = steps-climb n lp l.climb a b h g

-- ---- the definition's step of one column, by its parts
row_parts : (k j : ℕ) (rows : List ℕ) (vals x : List Float) (pivot t : Float) (done : List (List Float)) → get_or done j [] ≡ vals →
    t ≡ div binary64 (get_or x j nan) (value_at j rows vals)
    → way (over (sub_at j k t) rows vals (set x j none)) (sub binary64 pivot (mul binary64 t t)) (set done j (vals ++ (t ∷ [])))
    ≡ row_at k rows j (way x pivot done)
unfolding row_at
row_parts k j rows vals x pivot t done e f = rw (e, ← f)

same_way : {x y : List Float} {p : Float} {c d : List (List Float)} → x ≡ y → c ≡ d → way x p c ≡ way y p d
same_way {p = p} e f = λ i. record { x = e i; pivot = p; columns = f i }

column-part : (lp li : List ℕ) (j : ℕ) {s : ℕ} → s ≡ get_or lp j 0 → column lp j li ≡ part s (get_or lp (j + 1) 0) li
unfolding column
column-part lp li j e = rw e

-- rows of column j that are not past k are behind j in U's column k
behind_in : {n t k j q r : ℕ} {us : List (List ℕ)} {u lp li : List ℕ} → Lies n t us lp li → u ≡ get_or us k [] → q < length u → j ≡ get_or u q 0 →
    In us j r → j < r → r ≤ k → Memᴰ r (drop (q + 1) u)
behind_in {k = k} {j = j} {q = q} {r = r} {us = us} l e h f m g o =
    let z : j ≡ get_or (get_or us k []) q 0 = f ∙ ap (λ (v : List ℕ). get_or v q 0) e in
    rw e (l.behind k q r (rw e at h) (rw z at m) (omega arith) o)

-- ---- the loop
abbrev step : ℕ → List ℕ → List ℕ → ℕ → Way → Way
step k lp li j s = cond (ltb j k) (row_at k (column lp j li) j s) s

pub record Rowing (k : ℕ) (u lp li : List ℕ) (lx₀ : List Float) (next₀ : List ℕ) (x₀ : List Float) (first : Float) (lx : List Float) (next : List ℕ)
    (x : List Float) (pivot : Float) (q : ℕ) : Type 0 where
  pub ask : Rows k u lp li lx₀ next₀ x₀
  pub lx_long : length lx ≡ length lx₀
  pub next_long : length next ≡ length next₀
  pub x_long : length x ≡ length x₀
  pub rest : Along (step k lp li) u (way x₀ first (held k lp next₀ lx₀)) (way x pivot (held k lp next lx)) q
  pub todo : (j : ℕ) → j < k → Memᴰ j (drop q u) → Cut li (get_or lp j 0) (get_or next j 0) (get_or lp (j + 1) 0) k
  pub done : (j : ℕ) → j < k → ¬ Memᴰ j (drop q u) → Cut li (get_or lp j 0) (get_or next j 0) (get_or lp (j + 1) 0) (k + 1)
  pub zero : (i : ℕ) → i < ask.n → (i < k → ¬ Memᴰ i (drop q u)) → get_or x i nan ≡ none

-- a column that row k is not in
cut_more : {k j : ℕ} {u lp li next : List ℕ} {lx x : List Float} → Rows k u lp li lx next x → j < k → ¬ Memᴰ j u →
    Cut li (get_or lp j 0) (get_or next j 0) (get_or lp (j + 1) 0) (k + 1)
cut_more {k} {j} {u} {lp} {li} {next} a h n =
    let c = a.stands.cut j h in
    record {
      low = c.low;
      high = c.high;
      before = λ z l m. omega (arith, c.before z l m);
      after = λ z l m.
          let o : k ≤ get_or li z 0 = c.after z l m in
          let d : get_or li z 0 ≡ k → ⊥ = λ e. n (rw a.is (rw e at (a.lies.entry j z (omega (arith, a.here)) (omega (arith, c.low)) m))) in
          omega (arith, o, d);
    }

pub rowing_start : {k : ℕ} {u lp li : List ℕ} {lx : List Float} {next : List ℕ} {x : List Float} (first : Float) → Rows k u lp li lx next x →
    Rowing k u lp li lx next x first lx next x first 0
rowing_start {k} {u} {lp} {li} {lx} {next} {x} first a =
    record {
      ask = a;
      lx_long = refl;
      next_long = refl;
      x_long = refl;
      rest = along-start (step k lp li) u (way x first (held k lp next lx));
      todo = λ j h m. a.stands.cut j h;
      done = λ j h n. cut_more a h n;
      zero = a.zero;
    }

module _ {k : ℕ} {u lp li : List ℕ} {lx₀ : List Float} {next₀ : List ℕ} {x₀ : List Float} {first : Float} {lx : List Float} {next : List ℕ}
    {x : List Float} {pivot : Float} {q : ℕ}
    (w : Rowing k u lp li lx₀ next₀ x₀ first lx next x pivot q) where
  abbrev a : Rows k u lp li lx₀ next₀ x₀
  a = w.ask

  abbrev n : ℕ
  n = a.n

  lens : (length lx ≡ a.t) × (length next ≡ n) × (length x ≡ n)
  lens = (w.lx_long ∙ a.lx_long, w.next_long ∙ a.next_long, w.x_long ∙ a.x_long)

  module _ (h : q < length u) {j : ℕ} (f : j ≡ get_or u q 0) where
    now_at : drop q u ≡ j ∷ drop (q + 1) u
    now_at = left_at u q 0 h ∙ (rw f)

    later : {i : ℕ} → Memᴰ i (drop (q + 1) u) → Memᴰ i (drop q u)
    later m = rw now_at (Memᴰ.tail m)

    not_now : {i : ℕ} → i ≢ j → ¬ Memᴰ i (drop (q + 1) u) → ¬ Memᴰ i (drop q u)
    not_now d o m = ⊎_elim d o (Memᴰ.cases_cons (rw now_at at m))

    here : Memᴰ j (drop q u)
    here = rw now_at (Memᴰ.head refl)

    -- j is not above k
    pub rowing_pass : k ≤ j → Rowing k u lp li lx₀ next₀ x₀ first lx next x pivot (q + 1)
    rowing_pass g = record {
      ask = a;
      lx_long = w.lx_long;
      next_long = w.next_long;
      x_long = w.x_long;
      rest = along-turn (step k lp li) u 0 w.rest h (rw (← f, le-ltb j k g));
      todo = λ i l m. w.todo i l (later m);
      done = λ i l o. w.done i l (not_now (λ e. omega arith) o);
      zero = λ i l o. w.zero i l (λ b. not_now (λ e. omega arith) (o b));
    }

    module _ (g : j < k) {s e : ℕ} (b : s ≡ get_or lp j 0) (c : e ≡ get_or next j 0) where
      abbrev hi : ℕ
      hi = get_or lp (j + 1) 0

      cut : Cut li s e hi k
      cut = rw (b, c) (w.todo j g here)

      j_in : In a.us j k
      j_in = rw (← a.is, f) (member_at u q h)

      -- e is where row k stands
      at_e : (e < hi) × (get_or li e 0 ≡ k)
      at_e =
          let p = a.lies.place j k j_in in
          let l : s ≤ p.at = omega (arith, p.from) in
          let z : p.at ≡ e =
          ⊎_elim
          (λ (o : e ≤ p.at). ⊎_elim
          (λ (m : p.at ≤ e). omega arith)
          (λ (m : e < p.at). absurd (omega (
            arith,
            a.lies.rise j e p.at (omega (arith, a.here)) (omega (arith, cut.low)) m p.to,
            p.is,
            cut.after e (omega arith) (omega (arith, p.to)),
          )))
          (le-or-lt p.at e))
          (λ (o : p.at < e). absurd (omega (arith, cut.before p.at l o, p.is)))
          (le-or-lt e p.at) in
          ((rw z at p.to), (rw z at p.is))

      first-row : get_or li s 0 ≡ j
      first-row = rw b (a.stands.first j g)

      begun : s < e
      begun = ⊎_elim (λ (o : e ≤ s). absurd (omega (arith, cut.after s o (omega (arith, a.stands.some j g)), first-row))) (λ (o : s < e). o)
          (le-or-lt e s)

      hi_in : hi ≤ a.t
      hi_in = omega (arith, climbs a.lies (j + 1) a.n (omega (arith, a.here)) (omega arith), a.lies.end)

      between : (z : ℕ) → s < z → z < e → (j < get_or li z 0) × (get_or li z 0 < k)
      between z l m = (
        omega (arith, a.lies.rise j s z (omega (arith, a.here)) (omega arith) l (omega (arith, at_e.0)), first-row),
        cut.before z (omega arith) m,
      )

      -- what is asked on the way
      pub row-in-next : j < length next
      row-in-next = omega (arith, lens.1, a.here)

      pub place_few : e < 4194304
      place_few = omega (arith, at_e.0, hi_in, a.lies.few)

      pub row_reads : Reads j s e li lx x
      row_reads = record {
        begun = begun;
        rows = omega (arith, at_e.0, hi_in, a.lies.in_li);
        room = omega (arith, at_e.0, hi_in, lens.0);
        here = omega (arith, lens.2, a.here);
        below = λ z l m. omega (arith, (between z l m).1, a.here, lens.2);
        rise = λ y z l m o. a.lies.rise j y z (omega (arith, a.here)) (omega arith) m (omega (arith, at_e.0));
      }

      -- another column lies elsewhere
      apart : (i : ℕ) → i < k → i ≢ j → (get_or next i 0 ≤ e) ⊎ (e < get_or lp i 0)
      apart i l d =
          ⊎_elim
          (λ (o : i ≤ j). inl (omega (arith, high, climbs a.lies (i + 1) j (omega arith) (omega (arith, a.here)), cut.low)))
          (λ (o : j < i). inr (omega (arith, at_e.0, climbs a.lies (j + 1) i (omega arith) (omega (arith, a.here)))))
          (le-or-lt i j)
        where
          high : get_or next i 0 ≤ get_or lp (i + 1) 0
          high = elim (listed-or-not i (drop q u)) [ inl m ↦ (w.todo i l m.1).high | inr m ↦ (w.done i l m.1).high ]

      module _ {t : Float} (d : t ≡ div binary64 (get_or x j nan) (get_or lx s nan)) where
        abbrev x1 : List Float
        x1 = over (take_at t) (part (s + 1) e li) (part (s + 1) e lx) (set x j none)

        abbrev next1 : List ℕ
        next1 = set next j (e + 1)

        abbrev lx1 : List Float
        lx1 = set lx e t

        -- the definition's step
        row_is : way x1 (sub binary64 pivot (mul binary64 t t)) (held k lp next1 lx1) ≡ row_at k (column lp j li) j (way x pivot (held k lp next lx))
        row_is =
            same_way (sym (ap (λ (z : List ℕ). over (sub_at j k t) z (part s e lx) (set x j none)) (column-part lp li j b) ∙ takes t (set x j none)))
            (held-push k j e lp next lx t g row-in-next (sym c) (omega (arith, cut.low)) row_reads.room apart ∙ (rw (← b)))
            ∙ row_parts k j (column lp j li) (part s e lx) x pivot t (held k lp next lx) (held_at k lp next lx j g ∙ (rw (b, c)))
            (d ∙ (rw (column-part lp li j b, first-value j k s e hi li lx begun (omega (arith, at_e.0)) in_li in_lx first-row)))
          where
            in_li : hi ≤ length li
            in_li = omega (arith, hi_in, a.lies.in_li)

            in_lx : e ≤ length lx
            in_lx = omega (arith, row_reads.room)

            takes : (t : Float) (x : List Float) → over (sub_at j k t) (part s hi li) (part s e lx) x
                ≡ over (take_at t) (part (s + 1) e li) (part (s + 1) e lx) x
            takes = column-takes j k s e hi li lx begun (omega (arith, at_e.0)) in_li in_lx first-row between

        -- column j with row k
        cut_now : Cut li (get_or lp j 0) (get_or next1 j 0) hi (k + 1)
        cut_now = rw (get_or-set_same next j (e + 1) 0 row-in-next, ← b) (record {
          low = omega (arith, cut.low);
          high = omega (arith, at_e.0);
          before = λ z l m. ⊎_elim (λ (o : e ≤ z). let y : z ≡ e = omega arith in rw y (omega (arith, at_e.1)))
              (λ (o : z < e). omega (arith, cut.before z l o)) (le-or-lt e z);
          after = λ z l m. omega (arith, a.lies.rise j e z (omega (arith, a.here)) (omega (arith, cut.low, b)) (omega arith) m, at_e.1);
        })

        not_taken : (i : ℕ) → (i < k → ¬ Memᴰ i (drop (q + 1) u)) → (z : ℕ) → z < length (part (s + 1) e li) → get_or (part (s + 1) e li) z 0 ≡ i → ⊥
        not_taken i o z m v =
            let l = length_part (s + 1) e li row_reads.rows in
            let y : get_or li (s + 1 + z) 0 ≡ i = sym (get_d_part (s + 1) e li z 0 (omega arith)) ∙ v in
            let r = between (s + 1 + z) (omega arith) (omega arith) in
            let p : In a.us j i = rw y at (a.lies.entry j (s + 1 + z) (omega (arith, a.here)) (omega (arith, b)) (omega (arith, at_e.0))) in
            o (omega (arith, r.1)) (behind_in a.lies a.is h f p (omega (arith, r.0)) (omega (arith, r.1)))

        rowing_turn : Rowing k u lp li lx₀ next₀ x₀ first lx1 next1 x1 (sub binary64 pivot (mul binary64 t t)) (q + 1)
        rowing_turn = record {
          ask = a;
          lx_long = length-set lx e t ∙ w.lx_long;
          next_long = length-set next j (e + 1) ∙ w.next_long;
          x_long = length_taken t (part (s + 1) e li) (part (s + 1) e lx) (set x j none) ∙ length-set x j none ∙ w.x_long;
          rest = along-turn (step k lp li) u 0 w.rest h (row_is ∙ (rw (← f, lt-ltb j k g)));
          todo = λ i l m. rw (get_or-set_other next j i (e + 1) 0 (other m)) (w.todo i l (later m));
          done = λ i l o. ⊎_elim (λ (z : i ≡ j). rw z cut_now) (λ (z : i ≡ j → ⊥). rw (get_or-set_other next j i (e + 1) 0 z)
              (w.done i l (not_now z o))) (eq-or-ne i j);
          zero = λ i l o.
              taken_other t (part (s + 1) e li) (part (s + 1) e lx) (set x j none) i (not_taken i o)
              ∙ ⊎_elim
              (λ (z : i ≡ j). rw z (get_or-set_same x j none nan row_reads.here))
              (λ (z : i ≡ j → ⊥). get_or-set_other x j i none nan z ∙ w.zero i l (λ p. not_now z (o p)))
              (eq-or-ne i j);
        }
          where
            other : {i : ℕ} → Memᴰ i (drop (q + 1) u) → i ≢ j
            other {i} m z = once_behind (rw a.is (a.lies.once k)) q h (rw (z ∙ f) at m)

        -- the same, as the code leaves it
        pub rowing_next : {lx' : List Float} {next' : List ℕ} {x' : List Float} {pivot' : Float} → lx' ≡ lx1 →
            next' ≡ set next j (get_or next j 0 + 1) → x' ≡ x1 → pivot' ≡ sub binary64 pivot (mul binary64 t t)
            → Rowing k u lp li lx₀ next₀ x₀ first lx' next' x' pivot' (q + 1)
        rowing_next l m y p = let z : set next j (get_or next j 0 + 1) ≡ next1 = (rw c refl) in rw (l, m, z, y, p) rowing_turn

  pub rowing_end : length u ≤ q → (way x pivot (held k lp next lx) ≡ goes k lp li u (way x₀ first (held k lp next₀ lx₀))) × Rowed k lp li next x
  unfolding goes
  rowing_end g =
      let none_left : (i : ℕ) → ¬ Memᴰ i (drop q u) = λ i m. Memᴰ.not-nil (rw (left-none u q g) at m) in (
        along-end (step k lp li) u w.rest g,
        record {
          stands = record { cut = λ j h. w.done j h (none_left j); some = a.stands.some; first = a.stands.first };
          zeros =
              ext_get_or nan x (replicate (length x) none) (sym (length-replicate (length x) none))
              (λ i m. w.zero i (omega (arith, lens.2)) (λ b. none_left i) ∙ sym (get_or-replicate (length x) i none nan m));
        },
      )

-- The columns before k that U's column k names: from `next` on they are read, which is where row k and those behind it stand.
-- Assumes nothing.
use mathlib.Core.Path.{◌≡◌, refl, sym, ap, ◌∙◌}
use mathlib.Core.Bool.{true, cond}
use mathlib.Core.List.{List, [], ◌∷◌}
use Prim.Native.Nat.{ℕ, zero, suc, ◌+◌, ◌-◌, ◌≤◌, ◌<◌}
use native.Mathlib.Omega.{arith}
use lib.Dec.{ltb}
use lib.Ieee.{Float, nan, neg}
use lib.ListN.{length, get_or, set, drop, length-set}
use lib.Seq.{get_or-set_other}
use borrow.Author.Tests.{le-leb, lt-leb, lt-ltb, le-ltb}
use Rattle.lists.specs.Entries.{Entries, plus_at}
use Rattle.lists.specs.Folds.{along, over}
use Rattle.lists.specs.Order.{rises}
use Rattle.lists.specs.Parts.{part}
use Rattle.lists.proofs.Folds.{Along, along-turn, along-end}
use Rattle.lists.proofs.Parts.{length_part, get_d_part}
use Rattle.lists.proofs.Runs.{rises-drop}
use Rattle.lists.proofs.Positions.{part-drop}
use Rattle.cs_matrix.specs.Matrix.{column, value_at}
use Rattle.cs_matrix.proofs.Values.{value_there}
use Rattle.cs_left.specs.Left.{add_at, add_column}
use Rattle.cs_left.specs.Steps.{add_held, advance, Crossing, Crossings}

-- ---- a column that is cut at row k
-- the rows before it are passed over
over_cut : (k : ℕ) (f : Float) (m : ℕ) (rows : List ℕ) (vals : List Float) → length vals ≡ length rows → ((q : ℕ) → q < m → get_or rows q 0 < k) →
    ((q : ℕ) → m ≤ q → q < length rows → k ≤ get_or rows q 0)
    → (x : List Float) → over (add_at k f) rows vals x ≡ over (plus_at f) (drop m rows) (drop m vals) x
unfolding over add_at plus_at
over_cut k f zero [] vals l b h x = refl
over_cut k f (suc m) [] vals l b h x = refl
over_cut k f m (z ∷ rows) [] l b h x = absurd (omega arith)
over_cut k f zero (z ∷ rows) (v ∷ vals) l b h x =
    rw (le-leb k z (h 0 (omega arith) (omega arith))) (over_cut k f zero rows vals (omega arith) (λ q g. absurd (omega arith))
    (λ q g i. h (suc q) (omega arith) (omega arith)) _)
over_cut k f (suc m) (z ∷ rows) (v ∷ vals) l b h x =
    rw (lt-leb k z (b 0 (omega arith))) (over_cut k f m rows vals (omega arith) (λ q g. b (suc q) (omega arith))
    (λ q g i. h (suc q) (omega arith) (omega arith)) x)

module _ {k : ℕ} {lp li : List ℕ} {lx : List Float} {next : List ℕ} {n j : ℕ} (w : Crossing k lp li lx next n j) where
  abbrev rows : List ℕ
  rows = column lp j li

  abbrev vals : List Float
  vals = column lp j lx

  rows_long : length rows ≡ get_or lp (j + 1) 0 - get_or lp j 0
  unfolding column
  rows_long = length_part (get_or lp j 0) (get_or lp (j + 1) 0) li w.in_li

  vals_long : length vals ≡ get_or lp (j + 1) 0 - get_or lp j 0
  unfolding column
  vals_long = length_part (get_or lp j 0) (get_or lp (j + 1) 0) lx w.in_lx

  module _ {s e : ℕ} (a : s ≡ get_or next j 0) (b : e ≡ get_or lp (j + 1) 0) where
    pub crossing_li : e ≤ length li
    crossing_li = omega (arith, w.in_li)

    pub crossing_lx : e ≤ length lx
    crossing_lx = omega (arith, w.in_lx)

    crossing_entries : Entries n (part s e li) (part s e lx)
    crossing_entries =
        let l = length_part s e li crossing_li in
        record {
          alike = length_part s e lx crossing_lx ∙ sym l;
          below = λ q g.
              let d : q < e - s = omega (arith, l) in
              rw (get_d_part s e li q 0 d) (w.below (s + q) (omega arith) (omega (arith, w.at.is)));
        }

    place_is : s ≡ get_or lp j 0 + w.at.m
    place_is = a ∙ w.at.is

    rows-from : part s e li ≡ drop w.at.m rows
    unfolding column
    rows-from = rw (place_is, b) (part-drop (get_or lp j 0) w.at.m (get_or lp (j + 1) 0) li)

    pub crossing_asks : Entries n (part s e li) (part s e lx) × (rises (part s e li) ≡ true)
    crossing_asks = (crossing_entries, rw rows-from (rises-drop w.at.m rows w.rise))

    vals_from : part s e lx ≡ drop w.at.m vals
    unfolding column
    vals_from = rw (place_is, b) (part-drop (get_or lp j 0) w.at.m (get_or lp (j + 1) 0) lx)

    m_in : w.at.m < get_or lp (j + 1) 0 - get_or lp j 0
    m_in = omega (arith, w.at.is, w.inside)

    value-is : value_at k rows vals ≡ get_or lx s nan
    unfolding column
    value-is =
        value_there k w.at.m rows vals (vals_long ∙ sym rows_long) (omega (arith, rows_long, m_in)) w.at.cut.before
        (get_d_part (get_or lp j 0) (get_or lp (j + 1) 0) li w.at.m 0 m_in ∙ ap (λ (q : ℕ). get_or li q 0) (sym w.at.is) ∙ w.here)
        ∙ get_d_part (get_or lp j 0) (get_or lp (j + 1) 0) lx w.at.m nan m_in ∙ ap (λ (q : ℕ). get_or lx q nan) (sym place_is)

    -- from the place on
    pub crossing_adds : (x : List Float) → over (plus_at (neg (get_or lx s nan))) (part s e li) (part s e lx) x ≡ add_column k rows vals x
    unfolding add_column
    crossing_adds x =
        ap (λ (r : List ℕ). over (plus_at (neg (get_or lx s nan))) r (part s e lx) x) rows-from
        ∙ ap (λ (v : List Float). over (plus_at (neg (get_or lx s nan))) (drop w.at.m rows) v x) vals_from
        ∙ sym (over_cut k (neg (get_or lx s nan)) w.at.m rows vals (vals_long ∙ sym rows_long) w.at.cut.before w.at.cut.behind x)
        ∙ ap (λ (f : Float). over (add_at k (neg f)) rows vals x) (sym value-is)

-- ---- `add_columns`
unfoldable pub add_step : ℕ → List ℕ → List ℕ → List Float → ℕ → List Float → List Float
add_step k lp li lx j x = cond (ltb j k) (add_column k (column lp j li) (column lp j lx) x) x

pub record Adding (k : ℕ) (us lp li : List ℕ) (lx : List Float) (next₀ : List ℕ) (x₀ : List Float) (next : List ℕ) (x : List Float) (q : ℕ) : Type 0
  where
    pub asks : Crossings k us lp li lx next₀ (length x₀)
    pub x_long : length x ≡ length x₀
    pub next_long : length next ≡ length next₀
    pub x_is : Along (add_step k lp li lx) us x₀ x q
    pub next_is : Along (advance k) us next₀ next q
    pub ahead : (r : ℕ) → q ≤ r → r < length us → get_or next (get_or us r 0) 0 ≡ get_or next₀ (get_or us r 0) 0

module _ {k : ℕ} {us lp li : List ℕ} {lx : List Float} {next₀ : List ℕ} {x₀ : List Float} {next : List ℕ} {x : List Float} {q : ℕ}
    (w : Adding k us lp li lx next₀ x₀ next x q) where
  module _ (h : q < length us) {j : ℕ} (e : j ≡ get_or us q 0) where
    module _ (g : j < k) where
      -- the crossing, as it stands here
      pub adding_here : Crossing k lp li lx next (length x) j
      adding_here =
          let c : Crossing k lp li lx next₀ (length x₀) j = rw e (w.asks.each q h (omega arith)) in
          let n : get_or next j 0 ≡ get_or next₀ j 0 = rw e (w.ahead q (omega arith) h) in
          record {
            pointer = c.pointer;
            place = omega (arith, c.place, w.next_long);
            few = c.few;
            in_li = c.in_li;
            in_lx = c.in_lx;
            at = rw n c.at;
            inside = rw n c.inside;
            here = rw n c.here;
            rise = c.rise;
            below = rw w.x_long c.below;
          }

      pub adding_turn : {s t : ℕ} {y : List Float} → s ≡ get_or next j 0 → t ≡ get_or lp (j + 1) 0 → length y ≡ length x →
          y ≡ over (plus_at (neg (get_or lx s nan))) (part s t li) (part s t lx) x
          → Adding k us lp li lx next₀ x₀ (set next j (get_or next j 0 + 1)) y (q + 1)
      unfolding advance add_step
      adding_turn {s} {t} a b l y =
          record {
            asks = w.asks;
            x_long = l ∙ w.x_long;
            next_long = length-set next j _ ∙ w.next_long;
            x_is = along-turn (add_step k lp li lx) us 0 w.x_is h (y ∙ crossing_adds adding_here a b x ∙ (rw (← e, lt-ltb j k g)));
            next_is = along-turn (advance k) us 0 w.next_is h (rw (← e, lt-ltb j k g));
            ahead = λ r i m. get_or-set_other next j (get_or us r 0) (get_or next j 0 + 1) 0 (λ z. w.asks.once q r (omega arith) m (sym e ∙ sym z)) ∙
                w.ahead r (omega arith) m;
          }

    pub adding_pass : k ≤ j → Adding k us lp li lx next₀ x₀ next x (q + 1)
    unfolding advance add_step
    adding_pass g =
        record {
          asks = w.asks;
          x_long = w.x_long;
          next_long = w.next_long;
          x_is = along-turn (add_step k lp li lx) us 0 w.x_is h (rw (← e, le-ltb j k g));
          next_is = along-turn (advance k) us 0 w.next_is h (rw (← e, le-ltb j k g));
          ahead = λ r i m. w.ahead r (omega arith) m;
        }

  pub adding_end : length us ≤ q → (x ≡ add_held k lp li lx us x₀) × (next ≡ along (advance k) us next₀)
  unfolding add_held add_step
  adding_end h = (along-end (add_step k lp li lx) us w.x_is h, along-end (advance k) us w.next_is h)

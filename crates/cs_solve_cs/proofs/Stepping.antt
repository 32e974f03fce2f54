-- The loops over the marked columns. Assumes nothing.
use mathlib.Core.Path.{◌≡◌, refl, sym, ap, ◌∙◌}
use mathlib.Core.Bool.{Bool, true, false}
use mathlib.Core.List.{List, [], ◌∷◌, ◌++◌, map, Memᴰ}
use mathlib.Core.Logic.{⊎_elim}
use Prim.Native.Nat.{ℕ, ◌+◌, ◌≤◌, ◌<◌}
use native.Mathlib.Omega.{arith}
use lib.Ieee.{Float, nan, binary64, sub, mul, div}
use lib.ListN.{length, get_or, set, length-append, length-map}
use lib.Seq.{get_or-set_other}
use borrow.Author.Tests.{eq-eqb, ne_eqb}
use Rattle.lists.specs.Calls.{onto}
use Rattle.lists.specs.Choices.{chosen}
use Rattle.lists.specs.Folds.{along}
use Rattle.lists.proofs.Bools.{le-or-lt}
use Rattle.lists.proofs.Choices.{chosen_more, chosen-same}
use Rattle.lists.proofs.Parts.{onto-more, onto-none, length-onto}
use Rattle.lists.proofs.Positions.{over-keeps}
use Rattle.cs_matrix.specs.Matrix.{Matrix, value_at, Valid}
use Rattle.cs_matrix.specs.Columns.{IsColumn}
use Rattle.cs_solve.specs.Solve.{lower_at, forward_at, forward_column}
use Rattle.cs_solve.proofs.Steps.{lower-set, lower-above, length-forward_column}
use Rattle.cs_solve.proofs.Turns.{forward-step}
use Rattle.cs_solve_cs.specs.Steps.{marked, marks, Room}
use Rattle.lists.proofs.Chosen.{along-more, map_more, chosen_grows, chosen_member}

-- ---- a mark read
module _ (w : List ℕ) (j : ℕ) where
  pub is-marked : (get_or w j 0 ≡ 0 → ⊥) → marked w j ≡ true
  is-marked t = rw (ne_eqb (get_or w j 0) 0 t)

  pub not-marked : get_or w j 0 ≡ 0 → marked w j ≡ false
  not-marked t = rw (eq-eqb (get_or w j 0) 0 t)

-- ---- the forward steps: a column changes no value above its own
module _ (j k : ℕ) (h : k < j) where
  abbrev at_k : List Float → Float
  at_k b = get_or b k nan

  lower-keeps : (x : Float) (i : ℕ) (v : Float) (b : List Float) → at_k (lower_at j x i v b) ≡ at_k b
  lower-keeps x i v b =
      ⊎_elim
      (λ (g : i ≤ j). sym (ap at_k (lower-above j x i v b g)))
      (λ (g : j < i). sym (ap at_k (lower-set j x i v b g)) ∙ get_or-set_other b i k (sub binary64 (get_or b i nan) (mul binary64 x v)) nan
      (λ (e : k ≡ i). omega arith))
      (le-or-lt i j)

  forward-keeps : (d : Float) (rows : List ℕ) (vals b : List Float) → at_k (forward_at j d rows vals b) ≡ at_k b
  unfolding forward_at
  forward-keeps d rows vals b =
      let x = div binary64 (get_or b j nan) d in
      over-keeps at_k (lower_at j x) rows vals (λ i v c m. lower-keeps x i v c) (set b j x) ∙
      get_or-set_other b j k x nan (λ (e : k ≡ j). omega arith)

  pub column-keeps : (a : Matrix) (b : List Float) → at_k (forward_column a j b) ≡ at_k b
  unfolding forward_column
  column-keeps a b = forward-keeps _ _ _ b

pub record Forwarding (a : Matrix) (w : List ℕ) (x₀ x : List Float) (j : ℕ) : Type 0 where
  pub within : j ≤ a.pattern.ncols
  pub long : length x ≡ length x₀
  pub is : x ≡ along (forward_column a) (chosen j (marked w)) x₀

pub forwarding_start : (a : Matrix) (w : List ℕ) (x : List Float) → Forwarding a w x x 0
unfolding chosen along
forwarding_start a w x = record { within = omega arith; long = refl; is = refl }

module _ {a : Matrix} {w : List ℕ} {x₀ x : List Float} {j : ℕ} (f : Forwarding a w x₀ x j) (h : j < a.pattern.ncols) where
  pub forwarding_on : {rows : List ℕ} {vals : List Float} {d : Float} {x' : List Float} → (get_or w j 0 ≡ 0 → ⊥) → IsColumn a j rows vals →
      d ≡ value_at j rows vals → x' ≡ forward_at j d rows vals x → Forwarding a w x₀ x' (j + 1)
  forwarding_on t b q u =
      let c = forward-step x b q u in
      record {
        within = omega arith;
        long = ap length c ∙ length-forward_column a j x ∙ f.long;
        is = rw (chosen_more j (marked w) (is-marked w j t), along-more (forward_column a) (chosen j (marked w)) j x₀, ← f.is) c;
      }

  pub forwarding_off : get_or w j 0 ≡ 0 → Forwarding a w x₀ x (j + 1)
  forwarding_off t = record { within = omega arith; long = f.long; is = rw (chosen-same j (marked w) (not-marked w j t)) f.is }

pub forwarding_end : {a : Matrix} {w : List ℕ} {x₀ x : List Float} {j : ℕ} → Forwarding a w x₀ x j → a.pattern.ncols ≤ j →
    x ≡ along (forward_column a) (marks a.pattern.ncols w) x₀
unfolding marks
forwarding_end {a} {j = j} f h = let e : j ≡ a.pattern.ncols = omega (arith, f.within) in let q = f.is in rw e at q

-- ---- the result
abbrev pub values_of : List Float → List ℕ → List Float
values_of x l = map (λ (j : ℕ). get_or x j nan) l

-- what was gathered of the numbers below j stays where no value below j changes
values-kept : (j : ℕ) (f : ℕ → Bool) (x y : List Float) → ((k : ℕ) → k < j → get_or y k nan ≡ get_or x k nan) → values_of y (chosen j f)
    ≡ values_of x (chosen j f)
values-kept j f x y h = go (chosen j f) (λ k m. h k (chosen_member f j k m).below)
  where
    go : (l : List ℕ) → ((k : ℕ) → Memᴰ k l → get_or y k nan ≡ get_or x k nan) → values_of y l ≡ values_of x l
    go [] h = refl
    go (k ∷ l) h = rw (h k (Memᴰ.head refl), go l (λ q m. h q (Memᴰ.tail m)))

pub record Gathering (n : ℕ) (w : List ℕ) (x : List Float) (xi₀ : List ℕ) (xv₀ : List Float) (xi : List ℕ) (xv : List Float) (at j : ℕ) : Type 0 where
  pub ask : Room n w x xi₀ xv₀
  pub within : j ≤ n
  pub count : at ≡ length (chosen j (marked w))
  pub rows : xi ≡ onto xi₀ (chosen j (marked w))
  pub vals : xv ≡ onto xv₀ (values_of x (chosen j (marked w)))

pub gathering_start : {n : ℕ} {w : List ℕ} {x : List Float} {xi : List ℕ} {xv : List Float} → Room n w x xi xv → Gathering n w x xi xv xi xv 0 0
unfolding chosen
gathering_start {xi = xi} {xv = xv} ask = record { ask = ask; within = omega arith; count = refl; rows = onto-none xi; vals = onto-none xv }

module _ {n : ℕ} {w : List ℕ} {x : List Float} {xi₀ : List ℕ} {xv₀ : List Float} {xi : List ℕ} {xv : List Float} {at j : ℕ}
    (g : Gathering n w x xi₀ xv₀ xi xv at j) where
  abbrev l : List ℕ
  l = chosen j (marked w)

  abbrev l' : List Float
  l' = values_of x (chosen j (marked w))

  at_least : length l ≤ length (marks n w)
  unfolding marks
  at_least = chosen_grows (marked w) j n g.within

  pub i_long : length xi ≡ length xi₀
  i_long = ap length g.rows ∙ length-onto xi₀ l (omega (arith, at_least, g.ask.in_i))

  pub v_long : length xv ≡ length xv₀
  v_long = ap length g.vals ∙ length-onto xv₀ l' (omega (arith, at_least, g.ask.in_v, length-map l (λ (k : ℕ). get_or x k nan)))

  module _ (h : j < n) (t : get_or w j 0 ≡ 0 → ⊥) where
    more : chosen (j + 1) (marked w) ≡ l ++ (j ∷ [])
    more = chosen_more j (marked w) (is-marked w j t)

    room : length l + 1 ≤ length (marks n w)
    unfolding marks
    room = omega (arith, chosen_grows (marked w) (j + 1) n (omega arith), ap length more, length-append l (j ∷ []))

    pub at-in_i : at < length xi
    at-in_i = omega (arith, room, g.count, g.ask.in_i, i_long)

    pub at-in_v : at < length xv
    at-in_v = omega (arith, room, g.count, g.ask.in_v, v_long)

    pub gathering_on : Gathering n w x xi₀ xv₀ (set xi at j) (set xv at (get_or x j nan)) (at + 1) (j + 1)
    gathering_on =
        let len = length-map l (λ (k : ℕ). get_or x k nan) in
        record {
          ask = g.ask;
          within = omega arith;
          count = rw (more, length-append l (j ∷ []), ← g.count);
          rows = rw (more, g.rows, g.count) (onto-more xi₀ l j (omega (arith, room, g.ask.in_i)));
          vals = rw (more, map_more (λ (k : ℕ). get_or x k nan) l j, g.vals, g.count, ← len)
              (onto-more xv₀ l' (get_or x j nan) (omega (arith, room, g.ask.in_v)));
        }

  pub gathering_off : j < n → get_or w j 0 ≡ 0 → Gathering n w x xi₀ xv₀ xi xv at (j + 1)
  gathering_off h t =
      let e = chosen-same j (marked w) (not-marked w j t) in
      record { ask = g.ask; within = omega arith; count = rw e g.count; rows = rw e g.rows; vals = rw e g.vals }

  pub gathering_end : n ≤ j → (xi ≡ onto xi₀ (marks n w)) × (xv ≡ onto xv₀ (values_of x (marks n w)))
  unfolding marks
  gathering_end h = let e : j ≡ n = omega (arith, g.within) in let a = g.rows in let b = g.vals in (rw e at a, rw e at b)

-- ---- both in one loop
pub record Serving (a : Matrix) (w : List ℕ) (x₀ : List Float) (xi₀ : List ℕ) (xv₀ x : List Float) (xi : List ℕ) (xv : List Float) (at j : ℕ)
    : Type 0 where
  pub valid : Valid a
  pub steps : Forwarding a w x₀ x j
  pub out : Gathering a.pattern.ncols w x xi₀ xv₀ xi xv at j

pub serving_start : {a : Matrix} {w : List ℕ} {x : List Float} {xi : List ℕ} {xv : List Float} → Valid a → Room a.pattern.ncols w x xi xv →
    Serving a w x xi xv x xi xv 0 0
serving_start {a} {w} {x} ok r = record { valid = ok; steps = forwarding_start a w x; out = gathering_start r }

module _ {a : Matrix} {w : List ℕ} {x₀ : List Float} {xi₀ : List ℕ} {xv₀ x : List Float} {xi : List ℕ} {xv : List Float} {at j : ℕ}
    (s : Serving a w x₀ xi₀ xv₀ x xi xv at j) where
  pub serving_end : a.pattern.ncols ≤ j → (xi ≡ onto xi₀ (marks a.pattern.ncols w)) ×
      (xv ≡ onto xv₀ (values_of (along (forward_column a) (marks a.pattern.ncols w) x₀) (marks a.pattern.ncols w)))
  serving_end h = let g = gathering_end s.out h in (g.0, g.1 ∙ (rw (forwarding_end s.steps h)))

  module _ (h : j < a.pattern.ncols) where
    pub serving_off : get_or w j 0 ≡ 0 → Serving a w x₀ xi₀ xv₀ x xi xv at (j + 1)
    serving_off t = record { valid = s.valid; steps = forwarding_off s.steps h t; out = gathering_off s.out h t }

    module _ {rows : List ℕ} {vals : List Float} {d : Float} {y : List Float} (c : IsColumn a j rows vals) (q : d ≡ value_at j rows vals)
        (u : y ≡ forward_at j d rows vals x) where
      stepped : y ≡ forward_column a j x
      stepped = forward-step x c q u

      -- what is gathered is gathered of the new values too
      moved : Gathering a.pattern.ncols w y xi₀ xv₀ xi xv at j
      moved =
          let g = s.out in
          let r = g.ask in
          let f = values-kept j (marked w) x y (λ k l. ap (λ (z : List Float). get_or z k nan) stepped ∙ column-keeps j k l a x) in
          record {
            ask = record {
              small = r.small;
              w_long = r.w_long;
              x_long = omega (arith, r.x_long, ap length stepped, length-forward_column a j x);
              in_i = r.in_i;
              in_v = r.in_v;
            };
            within = g.within;
            count = g.count;
            rows = g.rows;
            vals = rw f g.vals;
          }

      module _ (t : get_or w j 0 ≡ 0 → ⊥) where
        pub out_i : at < length xi
        out_i = at-in_i moved h t

        pub out_v : at < length xv
        out_v = at-in_v moved h t

        pub serving_on : {xi' : List ℕ} {xv' : List Float} {at' : ℕ} → (at' ≡ at + 1) × (xi' ≡ set xi at j) × (xv' ≡ set xv at (get_or y j nan)) →
            Serving a w x₀ xi₀ xv₀ y xi' xv' at' (j + 1)
        serving_on z = rw (z.0, z.1, z.2) (record { valid = s.valid; steps = forwarding_on s.steps h t c q u; out = gathering_on moved h t })

-- `factor`: the columns in turn, until a pivot stops them or L is whole. Assumes nothing.
use mathlib.Core.Bool.{true, false}
use mathlib.Core.List.{List, [], flatten}
use mathlib.Core.Logic.{⊎_elim}
use mathlib.Core.Path.{◌≡◌, refl, sym, ap, ◌∙◌}
use Prim.Native.Nat.{ℕ, ◌+◌, ◌-◌, ◌≤◌, ◌<◌}
use native.Mathlib.Nat.{eq-or-lt_of_le}
use native.Mathlib.Omega.{arith}
use lib.Ieee.{Float, lt}
use lib.ListN.{length, get_or, set, replicate, length-set}
use lib.Seq.{take-length}
use Rattle.lists.specs.Calls.{none}
use Rattle.lists.specs.Parts.{part}
use Rattle.lists.specs.Tables.{from}
use Rattle.lists.proofs.Pushing.{parts_laid}
use Rattle.root.specs.Root.{root_of}
use Rattle.cs_matrix.specs.Matrix.{pattern, Matrix, matrix}
use Rattle.cs_tree.specs.Pattern.{Analysis, analysis, upper, lower, entries}
use Rattle.cs_pattern.specs.Columns.{columns}
use Rattle.cs_cholesky.specs.Factor.{Step, Outcome, factored, factor}
use Rattle.cs_cholesky.proofs.Factoring.{Reached, reached-start, reached-turn, reached_stop, reached-end}
use Rattle.cs_up.specs.Steps.{held, Stands, Closes, Ready, Gone}
use Rattle.cs_up.specs.Up.{up_step, up as upOf}
use Rattle.cs_up.proofs.Lying.{lies, upward}
use Rattle.cs_up.proofs.Rowing.{climbs}
use Rattle.cs_up.proofs.Turning.{pivot_is, column_closes, columns_are, stands_more}

-- the definition's step of a column
abbrev step_of : ℕ → List ℕ → List ℕ → List Float → ℕ → List (List Float) → Step
step_of n p i v = up_step (matrix n n p i v) (upper (columns (pattern n n p i))) (lower (columns (pattern n n p i)))

factor-is : (n : ℕ) (p i : List ℕ) (v : List Float) → upOf (matrix n n p i v) ≡ factor (step_of n p i v) n 0 []
unfolding upOf
factor-is n p i v = refl

held_none : (lp next : List ℕ) (lx : List Float) → held 0 lp next lx ≡ []
unfolding held from
held_none lp next lx = refl

held-is : (n : ℕ) (lp next : List ℕ) (lx : List Float) → held n lp next lx ≡ from (λ j. part (get_or lp j 0) (get_or next j 0) lx) 0 n
unfolding held
held-is n lp next lx = refl

pub record Factoring (a : Matrix) (given : Analysis) (lx₀ : List Float) (next₀ : List ℕ) (x₀ lx : List Float) (next : List ℕ) (x : List Float)
    (k : ℕ) : Type 0 where
  pub lx_long : length lx ≡ length lx₀
  pub next_long : length next ≡ length next₀
  pub x_long : length x ≡ length x₀
  pub ready : Ready a given lx next x
  pub stands : Stands k k given.lp given.li next
  pub reached : Reached (up_step a (upper (columns a.pattern)) (lower (columns a.pattern))) a.pattern.ncols k (held k given.lp next lx)

pub factoring-start : {n : ℕ} {p i : List ℕ} {v : List Float} {tr up ui lp li : List ℕ} {lx : List Float} {next : List ℕ} {x : List Float} →
    Ready (matrix n n p i v) (analysis tr up ui lp li) lx next x
    → Factoring (matrix n n p i v) (analysis tr up ui lp li) lx next x lx next x 0
factoring-start {n} {p} {i} {v} {tr} {up} {ui} {lp} {li} {lx} {next} {x} r = record {
  lx_long = refl;
  next_long = refl;
  x_long = refl;
  ready = r;
  stands = record { cut = λ j h. absurd (omega arith); some = λ j h. absurd (omega arith); first = λ j h. absurd (omega arith) };
  reached = rw (held_none lp next lx) (reached-start (step_of n p i v) n);
}

module _ {n : ℕ} {p i : List ℕ} {v : List Float} {tr up ui lp li : List ℕ} {lx₀ : List Float} {next₀ : List ℕ} {x₀ lx : List Float} {next : List ℕ}
    {x : List Float} {k : ℕ}
    (w : Factoring (matrix n n p i v) (analysis tr up ui lp li) lx₀ next₀ x₀ lx next x k) where
  abbrev R : Ready (matrix n n p i v) (analysis tr up ui lp li) lx next x
  R = w.ready

  module _ (h : k < n) where
    module _ {lx1 : List Float} {next1 : List ℕ} {x1 : List Float} {pivot : Float}
        (g : Gone k (matrix n n p i v) (analysis tr up ui lp li) lx next x lx1 next1 x1 pivot) where
      pub factoring_stop : lt none pivot ≡ false → (factored 11 k pivot ≡ (upOf (matrix n n p i v)).answer) × ((factored 11 k pivot).number ≡ 11)
      factoring_stop t =
          let e = factor-is n p i v ∙ reached_stop (step_of n p i v) w.reached h (pivot_is R h g) t in
          (sym (ap (λ (f : Outcome). f.answer) e), refl)

      pub factoring_closes : lt none pivot ≡ true → length lx1 ≡ length lx → length next1 ≡ length next → Closes k lp lx1 next1
      factoring_closes t l m = column_closes R h g t l m

      pub factoring-turn : {lx2 : List Float} {next2 : List ℕ} → lt none pivot ≡ true → length lx1 ≡ length lx → length next1 ≡ length next →
          length x1 ≡ length x
          → (lx2 ≡ set lx1 (get_or lp k 0) (root_of pivot)) × (next2 ≡ set next1 k (get_or lp k 0 + 1)) →
          Factoring (matrix n n p i v) (analysis tr up ui lp li) lx₀ next₀ x₀ lx2 next2 x1 (k + 1)
      factoring-turn t l m o c =
          rw (c.0, c.1)
          (record {
            lx_long = length-set lx1 (get_or lp k 0) (root_of pivot) ∙ l ∙ w.lx_long;
            next_long = length-set next1 k (get_or lp k 0 + 1) ∙ m ∙ w.next_long;
            x_long = o ∙ w.x_long;
            ready =
                record {
                  room = R.room;
                  served = R.served;
                  lx_long = length-set lx1 (get_or lp k 0) (root_of pivot) ∙ l ∙ R.lx_long;
                  next_long = length-set next1 k (get_or lp k 0 + 1) ∙ m ∙ R.next_long;
                  x_long = o ∙ R.x_long;
                  zeros = g.rowed.zeros ∙ ap (λ (z : ℕ). replicate z none) (o ∙ R.x_long);
                };
            stands = stands_more R h g t l m;
            reached = reached-turn (step_of n p i v) w.reached h (pivot_is R h g) t (columns_are R h g t l m);
          })

  -- L is whole
  module _ (h : n ≤ k) where
    at-end : k ≡ n
    at-end = omega (arith, w.reached.within)

    -- each column reaches to the next
    full : (j : ℕ) → j < n → get_or next j 0 ≡ get_or lp (j + 1) 0
    full j b =
        let c = w.stands.cut j (omega (arith, at-end)) in
        ⊎_elim
        (λ (e : get_or next j 0 ≡ get_or lp (j + 1) 0). e)
        (λ (l : get_or next j 0 < get_or lp (j + 1) 0).
        absurd (omega (
          arith,
          c.after (get_or next j 0) (omega arith) l,
          (upward R.served ((lies R.served).entry j (get_or next j 0) b c.low l)).1,
          at-end,
        )))
        (eq-or-lt_of_le c.high)

    whole : lx ≡ flatten (held n lp next lx)
    whole =
        let L = lies R.served in
        let f = parts_laid n lp next lx (climbs L) full 0 n (omega arith) in
        let e : 0 + n ≡ n = omega arith in
        let z : entries (upper (columns (pattern n n p i))) - 0 ≡ length lx = omega (arith, R.lx_long) in
        sym (ap flatten (held-is n lp next lx) ∙ f ∙ (rw (e, L.start, L.end, z) (take-length lx)))

    pub factoring-end : ((upOf (matrix n n p i v)).answer ≡ factored 0 0 none) × (lx ≡ flatten (upOf (matrix n n p i v)).columns)
    factoring-end =
        let e = factor-is n p i v ∙ reached-end (step_of n p i v) w.reached h in
        (ap (λ (f : Outcome). f.answer) e, whole ∙ sym (ap (λ (f : Outcome). flatten f.columns) e ∙ (rw at-end refl)))

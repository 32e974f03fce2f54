-- A step at each row and value of a column: the loop, and a column whose rows are a run, which is one part of x. Assumes nothing.
use Rattle.std.proofs.Common.{◌≡◌, ℕ, ◌+◌, ◌<◌, ◌≤◌, true, List, length, get_or, set, sym, refl, ◌∙◌, arith, length-set}
use lib.Ieee.{Float, nan, binary64, add, mul}
use Rattle.lists.specs.Entries.{Entries, plus_at}
use Rattle.lists.specs.Folds.{over}
use Rattle.lists.specs.Order.{rises}
use Rattle.lists.specs.Parts.{part, placed}
use Rattle.lists.specs.Runs.{tight, zipped}
use Rattle.lists.proofs.Folds.{Over, over-start, over-turn, over-end}
use Rattle.lists.proofs.Positions.{over-keeps}
use Rattle.lists.proofs.Spots.{spot}
use Rattle.lists.proofs.Runs.{Steps, tight-within, over-tight}

-- ---- the loop
module _ {A B : Type 0} where
  pub record Passing (f : ℕ → B → List A → List A) (rows : List ℕ) (vals : List B) (x₀ x : List A) (q : ℕ) : Type 0 where
    pub asks : Entries (length x₀) rows vals
    pub long : length x ≡ length x₀
    pub is : Over f rows vals x₀ x q

  pub passing_start : (f : ℕ → B → List A → List A) {rows : List ℕ} {vals : List B} {x : List A} → Entries (length x) rows vals →
      Passing f rows vals x x 0
  passing_start f {rows} {vals} {x} a = record { asks = a; long = refl; is = over-start f rows vals x }

  module _ {f : ℕ → B → List A → List A} {rows : List ℕ} {vals : List B} {x₀ x : List A} {q : ℕ} (w : Passing f rows vals x₀ x q) where
    module _ (h : q < length rows) {z : ℕ} (e : z ≡ get_or rows q 0) where
      pub passing_row : z < length x
      passing_row = omega (arith, w.asks.below q h, w.long)

      pub passing_turn : (d : B) {y : List A} → length y ≡ length x → y ≡ f z (get_or vals q d) x → Passing f rows vals x₀ y (q + 1)
      passing_turn d l t = record { asks = w.asks; long = l ∙ w.long; is = over-turn f rows vals 0 d w.asks.alike w.is h (t ∙ (rw e)) }

    pub passing_value : q < length rows → q < length vals
    passing_value h = omega (arith, w.asks.alike)

    pub passing_end : length rows ≤ q → x ≡ over f rows vals x₀
    passing_end h = over-end f rows vals w.is h

-- ---- a row that is not among them stays as it was
pub over_other : {A B : Type 0} (d : A) (step : ℕ → B → List A → List A) (r : ℕ) →
    ((z : ℕ) (v : B) (x : List A) → (r ≡ z → ⊥) → get_or (step z v x) r d ≡ get_or x r d)
    → (rows : List ℕ) (vals : List B) → ((q : ℕ) → q < length rows → get_or rows q 0 ≡ r → ⊥) → (x : List A) → get_or (over step rows vals x) r d
    ≡ get_or x r d
over_other {A = A} d step r h rows vals f = over-keeps (λ (s : List A). get_or s r d) step rows vals (λ z v s m. let p = spot m in
    h z v s (λ e. f p.at p.inside (p.is ∙ sym e)))

-- ---- rows that rise and are tight: one part of x
module _ {A B : Type 0} {rows : List ℕ} {vals : List B} (x : List A) (a : Entries (length x) rows vals × (rises rows ≡ true))
    (t : tight rows ≡ true) {r : ℕ} (e : r ≡ get_or rows 0 0) where
  pub run-within : r + length vals ≤ length x
  run-within = omega (arith, tight-within rows a.1 t (length x) a.0.below, a.0.alike)

  pub run_passes : (op : A → B → A) (d : A) (step : ℕ → B → List A → List A) → Steps op d step r → {y : List A} →
      y ≡ zipped op (part r (r + length vals) x) vals
      → placed r (r + length vals) x y ≡ over step rows vals x
  run_passes op d step s = over-tight op d step rows a.1 t r (r + length vals) e s vals a.0.alike x refl run-within

-- ---- `plus_at`
pub plus_turn : (f : Float) {rows : List ℕ} {vals x₀ x : List Float} {q : ℕ} → Passing (plus_at f) rows vals x₀ x q → q < length rows → {z : ℕ} →
    z ≡ get_or rows q 0
    → Passing (plus_at f) rows vals x₀ (set x z (add binary64 (get_or x z nan) (mul binary64 (get_or vals q nan) f))) (q + 1)
unfolding plus_at
plus_turn f {x = x} w h {z} e = passing_turn w h e nan (length-set x z _) refl

pub run_plus : {rows : List ℕ} {vals : List Float} (x : List Float) → Entries (length x) rows vals × (rises rows ≡ true) → tight rows ≡ true →
    {r : ℕ} → r ≡ get_or rows 0 0
    → (f : Float) {y : List Float} → y ≡ zipped (λ a v. add binary64 a (mul binary64 v f)) (part r (r + length vals) x) vals →
    placed r (r + length vals) x y ≡ over (plus_at f) rows vals x
unfolding plus_at
run_plus x a t e f = run_passes x a t e (λ a v. add binary64 a (mul binary64 v f)) nan (plus_at f) (λ z v y g. refl)

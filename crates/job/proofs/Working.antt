-- What a preparation that is done leaves for the run. Assumes nothing.
use mathlib.Core.Bool.{true}
use mathlib.Core.Path.{◌≡◌, sym, ap, subst, ◌∙◌}
use mathlib.Core.List.{List}
use Prim.Native.Nat.{ℕ, ◌+◌, ◌≤◌, ◌<◌}
use native.Mathlib.Omega.{arith}
use lib.Ieee.{Float}
use lib.ListN.{length, get_or, take, drop}
use Rattle.lists.specs.Calls.{onto}
use Rattle.cs_matrix.specs.Matrix.{Matrix, matrix, stored}
use Rattle.cs_tree.specs.Pattern.{Analysis, analysed}
use Rattle.cs_pattern.specs.Columns.{columns}
use Rattle.lists.specs.Order.{starts_with}
use Rattle.cs_pattern.specs.Compare.{same}
use Rattle.cs_pattern.specs.Analyse.{written}
use Rattle.lists.proofs.Matching.{starts_itself}
use Rattle.cs_conversion.specs.Assembly.{Triplets, assembled, Assembled}
use Rattle.cs_solve.specs.Judge.{solved}
use Rattle.cs_solve.specs.declared.Solved.{Solved}
use Rattle.job_prepare.specs.Prepare.{number, Outputs, leaves}
use Rattle.job_prepare.proofs.Preparing.{written_asks, written-matrix, done-matrix, done-analysis}
use Rattle.job.specs.Run.{answered, after, run, worked}
use Rattle.job.specs.Steps.{Prepared}
use Rattle.job.proofs.Solving.{Owed, owed_stop, owed_go}

-- an analysis that was written is there
starts-onto : (d xs : List ℕ) → starts_with xs (onto d xs) ≡ true
unfolding onto
starts-onto d xs = starts_itself xs (drop (length xs) d)

same-written : (f old : Analysis) → same f (written f old) ≡ true
unfolding same written
same-written f old =
    simp (starts-onto old.tree f.tree, starts-onto old.up f.up, starts-onto old.ui f.ui, starts-onto old.lp f.lp, starts-onto old.li f.li)

-- refused
pub work-refused : (engine : ℕ) (t : Triplets) (b : List Float) (r : ℕ) {s : Solved} → r ≡ number t → (r ≡ 0 → ⊥) → s ≡ solved r 0 →
    Owed (worked engine t b) s b
unfolding worked
work-refused engine t b r e n f = rw f (
    let o = owed_stop r 0 (run engine (assembled t) b) b n in
    (o.0 ∙ ap (λ (y : ℕ). answered (after y 0 (run engine (assembled t) b))) e, λ z. absurd (n z)))

-- and not
module _ (t : Triplets) (p i : List ℕ) (v : List Float) (f : Analysis) (p1 i1 : List ℕ) (v1 : List Float) (g : Analysis) (r : ℕ)
    (c : (r ≡ number t)
    × (◌≡◌ {A = Outputs} (record { matrix = stored p1 i1 v1; analysis = g }) (leaves t (record { matrix = stored p i v; analysis = f })))
    × (r ≡ 0 → Assembled t)) (z : r ≡ 0) where
  abbrev old : Outputs
  old = record { matrix = stored p i v; analysis = f }

  abbrev new : Outputs
  new = record { matrix = stored p1 i1 v1; analysis = g }

  -- the matrix in the fronts of the slices
  pub work_asks : (t.ncols < length p1) × (get_or p1 t.ncols 0 ≤ length i1) × (get_or p1 t.ncols 0 ≤ length v1)
  work_asks = written_asks t p i v p1 i1 v1 (done-matrix t old new r c z) (c.2 z)

  module _ {m : ℕ} (e : m ≡ get_or p1 t.ncols 0) where
    matrix-is : matrix t.nrows t.ncols (take (t.ncols + 1) p1) (take m i1) (take m v1) ≡ assembled t
    matrix-is = written-matrix t p i v p1 i1 v1 (done-matrix t old new r c z) (c.2 z) e

    pub work-prepared : length p1 ≡ 257 → length g.li ≡ 2048
        → Prepared (matrix t.nrows t.ncols (take (t.ncols + 1) p1) (take m i1) (take m v1)) g
    work-prepared lp ll =
        let fresh = analysed (columns (assembled t).pattern) in
        let own : same fresh g ≡ true = ap (same fresh) (done-analysis t old new r c z) ∙ same-written fresh f in
        record {
          small = omega (arith, work_asks.0, lp);
          own = ap (λ (a : Matrix). same (analysed (columns a.pattern)) g) matrix-is ∙ own;
          few = omega (arith, ll);
        }

    pub work-done : (engine : ℕ) (b : List Float) {s : Solved} {b1 : List Float}
        → Owed (run engine (matrix t.nrows t.ncols (take (t.ncols + 1) p1) (take m i1) (take m v1)) b) s b1 → Owed (worked engine t b) s b1
    unfolding worked
    work-done engine b {s = s} {b1 = b1} o =
        let o1 : Owed (run engine (assembled t) b) s b1 = subst (λ (a : Matrix). Owed (run engine a b) s b1) matrix-is o in
        owed_go (number t) 0 (run engine (assembled t) b) (sym c.0 ∙ z) o1

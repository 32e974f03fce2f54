-- The ways out of the preparation: what each call answers and leaves in the program's arrays. Assumes nothing.
use mathlib.Core.Bool.{Bool, true, false, cond}
use mathlib.Core.Logic.{⊎_elim}
use mathlib.Core.Path.{◌≡◌, refl, sym, ap, ◌∙◌}
use mathlib.Core.List.{List, [], ◌∷◌, ◌++◌}
use Prim.Native.Nat.{ℕ, ◌+◌, ◌-◌, ◌≤◌, ◌<◌}
use native.Mathlib.Omega.{arith}
use lib.Dec.{eqb}
use lib.Ieee.{Float}
use lib.ListN.{length, get_or, take, drop, length-append, length-replicate}
use borrow.Author.Tests.{eq-eqb, ne_eqb}
use Rattle.lists.specs.Calls.{lowest, none, onto, narrow, Scratch, Lent, lent, outputs, leaves as left}
use Rattle.lists.proofs.Bools.{eq-or-ne}
use Rattle.lists.proofs.Calls.{left-done}
use Rattle.lists.proofs.Parts.{get_or-onto-front}
use Rattle.lists.proofs.Places.{take-onto}
use Rattle.cs_matrix.specs.Matrix.{Pattern, pattern, Matrix, matrix, Stored, stored, written, short, needed, judged_square}
use Rattle.cs_tree.specs.Pattern.{Analysis, analysed}
use Rattle.cs_conversion.specs.Assembly.{Triplets, judged_triplets, needed_triplets, twice, assembled, Assembled, number as assemblyNumber}
use Rattle.cs_pattern.specs.Analyse.{number as analysisNumber, written as writtenAnalysis, short as shortAnalysis}
use Rattle.cs_pattern.specs.Columns.{columns}
use Rattle.job_prepare.specs.Prepare.{scratch_room, matrix_room, analysis_room, assembly, analysis_of, pattern_of, number, Outputs, leaves}

-- ---- only the lengths of what is lent matter to the numbers
module _ (a b : Stored) (ep : length a.p ≡ length b.p) (ei : length a.i ≡ length b.i) (ev : length a.v ≡ length b.v) where
  short-same : (m : Matrix) → short m a ≡ short m b
  unfolding short
  short-same m = rw (ep, ei, ev)

  assembly-same : (t : Triplets) (w : Scratch) → assemblyNumber t (lent a w) ≡ assemblyNumber t (lent b w)
  unfolding assemblyNumber
  assembly-same t w = ap (λ (c : Bool). lowest (judged_triplets t ++ (6, narrow (needed_triplets t) w) ∷ (7, c) ∷ (9, twice t.i t.j) ∷ []))
      (short-same (assembled t))

module _ (a b : Analysis) (et : length a.tree ≡ length b.tree) (eu : length a.up ≡ length b.up) (ei : length a.ui ≡ length b.ui)
    (el : length a.lp ≡ length b.lp) (ej : length a.li ≡ length b.li) where
  short-same-analysis : (f : Analysis) → shortAnalysis f a ≡ shortAnalysis f b
  unfolding shortAnalysis
  short-same-analysis f = rw (et, eu, ei, el, ej)

  analysis-same : (q : Pattern) (w : Scratch) → analysisNumber q (lent a w) ≡ analysisNumber q (lent b w)
  unfolding analysisNumber
  analysis-same q w = ap (λ (c : Bool). lowest (judged_square q ++ ((6, narrow (needed q) w) ∷ (7, c) ∷ [])))
      (short-same-analysis (analysed (columns q)))

-- ---- each call in the program's arrays
pub assembled_there : (t : Triplets) (p i : List ℕ) (v : List Float) {new : Stored} {w : Scratch} {r : ℕ} → length p ≡ 257 → length i ≡ 2048 →
    length v ≡ 2048
    → (r ≡ assemblyNumber t (lent (stored p i v) scratch_room))
    × (lent new w ≡ left r (needed_triplets t) (written (assembled t) (stored p i v)) (lent (stored p i v) scratch_room))
    × (r ≡ 0 → Assembled t)
    → (r ≡ assembly t) × (new ≡ outputs r (written (assembled t) (stored p i v)) (stored p i v)) × (r ≡ 0 → Assembled t)
unfolding assembly left
assembled_there t p i v ep ei ev e = (
  e.0
      ∙ assembly-same (stored p i v) matrix_room.out (ep ∙ sym (length-replicate {A = ℕ} 257 0)) (ei ∙ sym (length-replicate {A = ℕ} 2048 0)) (ev ∙
      sym (length-replicate 2048 none)) t scratch_room,
  ap (λ (l : Lent Stored). l.out) e.1,
  e.2,
)

pub analysed_there : (q : Pattern) (f : Analysis) {new : Analysis} {w : Scratch} {r : ℕ}
    → length f.tree ≡ 256 → length f.up ≡ 257 → length f.ui ≡ 2048 → length f.lp ≡ 257 → length f.li ≡ 2048
    → r ≡ analysisNumber q (lent f scratch_room)
    → lent new w ≡ left r (needed q) (writtenAnalysis (analysed (columns q)) f) (lent f scratch_room)
    → (r ≡ analysis_of q) × (new ≡ outputs r (writtenAnalysis (analysed (columns q)) f) f)
unfolding analysis_of left
analysed_there q f et eu ei el ej e g = (
  e
      ∙ analysis-same f analysis_room.out (et ∙ sym (length-replicate {A = ℕ} 256 0)) (eu ∙ sym (length-replicate {A = ℕ} 257 0)) (ei ∙
      sym (length-replicate {A = ℕ} 2048 0)) (el ∙ sym (length-replicate {A = ℕ} 257 0))
      (ej ∙ sym (length-replicate {A = ℕ} 2048 0)) q scratch_room,
  ap (λ (l : Lent Analysis). l.out) g,
)

-- ---- the two together

-- what was written to the front has room there
fits : {A : Type 0} (d g l : List A) → l ≡ onto d g → length g ≤ length l
unfolding onto
fits d g l e = omega (arith, ap length e ∙ length-append g (drop (length g) d))

-- the matrix that was written, in front of the arrays
module _ (t : Triplets) (p i : List ℕ) (v : List Float) (p1 i1 : List ℕ) (v1 : List Float)
    (w : stored p1 i1 v1 ≡ written (assembled t) (stored p i v)) (s : Assembled t) where
  abbrev a : Matrix
  a = assembled t

  abbrev n : ℕ
  n = t.ncols

  p_is : p1 ≡ onto p a.pattern.p
  unfolding written
  p_is = ap (λ (x : Stored). x.p) w

  i_is : i1 ≡ onto i a.pattern.i
  unfolding written
  i_is = ap (λ (x : Stored). x.i) w

  v_is : v1 ≡ onto v a.v
  unfolding written
  v_is = ap (λ (x : Stored). x.v) w

  cols_are : a.pattern.ncols ≡ n
  unfolding assembled
  cols_are = refl

  pointers : length a.pattern.p ≡ n + 1
  pointers = let q = s.valid.pattern.p_long in rw (cols_are) at q

  last : get_or p1 n 0 ≡ length a.pattern.i
  last =
      let q = s.valid.pattern.ptrs.last in
      let m : length a.pattern.p - 1 ≡ n = omega (arith, pointers) in
      let q1 : get_or a.pattern.p n 0 ≡ length a.pattern.i = rw m at q in
      ap (λ (x : List ℕ). get_or x n 0) p_is ∙ get_or-onto-front p a.pattern.p 0 n (omega (arith, pointers)) ∙ q1

  pub written_asks : (t.ncols < length p1) × (get_or p1 t.ncols 0 ≤ length i1) × (get_or p1 t.ncols 0 ≤ length v1)
  written_asks = (
    omega (arith, fits p a.pattern.p p1 p_is, pointers),
    omega (arith, fits i a.pattern.i i1 i_is, last),
    omega (arith, fits v a.v v1 v_is, last, s.valid.v_long),
  )

  p_front : take (n + 1) p1 ≡ a.pattern.p
  p_front = ap (take (n + 1)) p_is ∙ take-onto (n + 1) p a.pattern.p pointers

  i_front : take (get_or p1 n 0) i1 ≡ a.pattern.i
  i_front = ap (take (get_or p1 n 0)) i_is ∙ take-onto (get_or p1 n 0) i a.pattern.i (sym last)

  v_front : take (get_or p1 n 0) v1 ≡ a.v
  v_front = ap (take (get_or p1 n 0)) v_is ∙ take-onto (get_or p1 n 0) v a.v (sym (last ∙ s.valid.v_long))

  pattern-is : pattern t.nrows n a.pattern.p a.pattern.i ≡ a.pattern
  unfolding assembled
  pattern-is = refl

  pub written-pattern : {m : ℕ} → m ≡ get_or p1 t.ncols 0 → pattern t.nrows t.ncols (take (t.ncols + 1) p1) (take m i1) ≡ (assembled t).pattern
  written-pattern e = rw e ((λ k. pattern t.nrows n (p_front k) (i_front k)) ∙ pattern-is)

  matrix-is : matrix t.nrows n a.pattern.p a.pattern.i a.v ≡ a
  unfolding assembled
  matrix-is = refl

  pub written-matrix : {m : ℕ} → m ≡ get_or p1 t.ncols 0
      → matrix t.nrows t.ncols (take (t.ncols + 1) p1) (take m i1) (take m v1) ≡ assembled t
  written-matrix e = rw e ((λ k. matrix t.nrows n (p_front k) (i_front k) (v_front k)) ∙ matrix-is)

-- assembly done
module _ (t : Triplets) (p i : List ℕ) (v : List Float) (p1 i1 : List ℕ) (v1 : List Float) (r : ℕ) (z : r ≡ 0)
    (c : (r ≡ assembly t) × (stored p1 i1 v1 ≡ outputs r (written (assembled t) (stored p i v)) (stored p i v)) × (r ≡ 0 → Assembled t)) where
  is-written : stored p1 i1 v1 ≡ written (assembled t) (stored p i v)
  is-written = c.1 ∙ left-done r (written (assembled t) (stored p i v)) (stored p i v) z

  pub prepared_asks : (t.ncols < length p1) × (get_or p1 t.ncols 0 ≤ length i1)
  prepared_asks = let q = written_asks t p i v p1 i1 v1 is-written (c.2 z) in (q.0, q.1)

  pub prepared_analysed : (f g : Analysis) (q m : ℕ) → m ≡ get_or p1 t.ncols 0
      → (q ≡ analysis_of (pattern t.nrows t.ncols (take (t.ncols + 1) p1) (take m i1)))
      × (g ≡ outputs q (writtenAnalysis (analysed (columns (pattern t.nrows t.ncols (take (t.ncols + 1) p1) (take m i1)))) f) f)
      → (q ≡ number t)
      × (◌≡◌ {A = Outputs} (record { matrix = stored p1 i1 v1; analysis = g }) (leaves t (record { matrix = stored p i v; analysis = f })))
      × (q ≡ 0 → Assembled t)
  unfolding number leaves pattern_of
  prepared_analysed f g q k e d =
      let m = assembled t in
      let h = written-pattern t p i v p1 i1 v1 is-written (c.2 z) e in
      let eq : q ≡ analysis_of m.pattern = d.0 ∙ ap analysis_of h in
      let eg : g ≡ outputs (analysis_of m.pattern) (writtenAnalysis (analysed (columns m.pattern)) f) f =
      d.1 ∙ ap (λ (x : Pattern). outputs q (writtenAnalysis (analysed (columns x)) f) f) h ∙
      ap (λ (y : ℕ). outputs y (writtenAnalysis (analysed (columns m.pattern)) f) f) eq in
      let ew : stored p1 i1 v1 ≡ outputs (assembly t) (written m (stored p i v)) (stored p i v) = c.1 ∙
      ap (λ (y : ℕ). outputs y (written m (stored p i v)) (stored p i v)) c.0 in
      let b : eqb (assembly t) 0 ≡ true = eq-eqb (assembly t) 0 (sym c.0 ∙ z) in (
        eq ∙ sym (ap (λ (x : Bool). cond x (analysis_of m.pattern) (assembly t)) b),
        (λ k. record { matrix = ew k; analysis = eg k })
            ∙ sym (ap (λ (x : Bool). record {
              matrix = outputs (assembly t) (written m (stored p i v)) (stored p i v);
              analysis = cond x (outputs (analysis_of m.pattern) (writtenAnalysis (analysed (columns m.pattern)) f) f) f;
            }) b),
        λ _. c.2 z,
      )

-- assembly refused
pub prepared_refused : (t : Triplets) (old new : Stored) (f : Analysis) (r : ℕ) → (r ≡ 0 → ⊥)
    → (r ≡ assembly t) × (new ≡ outputs r (written (assembled t) old) old) × (r ≡ 0 → Assembled t)
    → (r ≡ number t) × (◌≡◌ {A = Outputs} (record { matrix = new; analysis = f }) (leaves t (record { matrix = old; analysis = f }))) ×
    (r ≡ 0 → Assembled t)
unfolding number leaves
prepared_refused t old new f r n c =
    let b : eqb (assembly t) 0 ≡ false = ne_eqb (assembly t) 0 (λ h. n (c.0 ∙ h)) in
    let ew : new ≡ outputs (assembly t) (written (assembled t) old) old = c.1 ∙ ap (λ (y : ℕ). outputs y (written (assembled t) old) old) c.0 in (
      c.0 ∙ sym (ap (λ (x : Bool). cond x (analysis_of (assembled t).pattern) (assembly t)) b),
      (λ k. record { matrix = ew k; analysis = f })
          ∙ sym (ap (λ (x : Bool). record {
            matrix = outputs (assembly t) (written (assembled t) old) old;
            analysis = cond x (outputs (analysis_of (assembled t).pattern) (writtenAnalysis (pattern_of t) f) f) f;
          }) b),
      c.2,
    )

-- ---- what answer 0 of the whole says
module _ (t : Triplets) (old new : Outputs) (r : ℕ) (c : (r ≡ number t) × (new ≡ leaves t old) × (r ≡ 0 → Assembled t)) (z : r ≡ 0) where
  both : (assembly t ≡ 0) × (analysis_of (assembled t).pattern ≡ 0)
  unfolding number
  both =
      ⊎_elim
      (λ (e : assembly t ≡ 0).
      (e, sym (ap (λ (x : Bool). cond x (analysis_of (assembled t).pattern) (assembly t)) (eq-eqb (assembly t) 0 e)) ∙ sym c.0 ∙ z))
      (λ (n : assembly t ≡ 0 → ⊥).
      absurd (n (sym (ap (λ (x : Bool). cond x (analysis_of (assembled t).pattern) (assembly t)) (ne_eqb (assembly t) 0 n)) ∙ sym c.0 ∙ z)))
      (eq-or-ne (assembly t) 0)

  pub done-matrix : new.matrix ≡ written (assembled t) old.matrix
  unfolding leaves
  done-matrix = ap (λ (x : Outputs). x.matrix) c.1 ∙ left-done (assembly t) (written (assembled t) old.matrix) old.matrix both.0

  pub done-analysis : new.analysis ≡ writtenAnalysis (analysed (columns (assembled t).pattern)) old.analysis
  unfolding leaves pattern_of
  done-analysis =
      ap (λ (x : Outputs). x.analysis) c.1
      ∙ ap (λ (x : Bool). cond x (outputs (analysis_of (assembled t).pattern) (writtenAnalysis (pattern_of t) old.analysis) old.analysis)
      old.analysis) (eq-eqb (assembly t) 0 both.0)
      ∙ left-done (analysis_of (assembled t).pattern) (writtenAnalysis (pattern_of t) old.analysis) old.analysis both.1

-- `work`: what is written to L's values, by 0 and by 11. Assumes nothing.
use mathlib.Core.Path.{◌≡◌, refl, sym, ap, ◌∙◌}
use mathlib.Core.List.{List, ◌++◌, flatten}
use Prim.Native.Nat.{ℕ, ◌≤◌}
use native.Mathlib.Omega.{arith}
use lib.Ieee.{Float}
use lib.ListN.{length, get_or, take, drop, replicate, length-replicate, take-append-drop}
use lib.Seq.{length-take-le, take_all}
use borrow.Author.Tests.{eq-eqb, ne_eqb}
use Rattle.lists.specs.Calls.{onto, none, cleared}
use Rattle.lists.proofs.Fronts.{cleared-is}
use Rattle.cs_matrix.specs.Matrix.{pattern, matrix}
use Rattle.cs_tree.specs.Pattern.{upper, entries}
use Rattle.cs_pattern.specs.Columns.{columns}
use Rattle.cs_cholesky.specs.declared.Factored.{Factored}
use Rattle.cs_cholesky.specs.Factor.{Outcome, factored, written}
use Rattle.cs_cholesky.specs.Served.{Served}
use Rattle.cs_left.specs.Left.{left}

module _ {n : ℕ} {p i : List ℕ} {v : List Float} {up ui lp li : List ℕ} {room : ℕ} (S : Served n p i v up ui lp li room) where
  abbrev U : List (List ℕ)
  U = upper (columns (pattern n n p i))

  abbrev f : Outcome
  f = left (matrix n n p i v)

  pub up-last : get_or up n 0 ≡ entries U
  up-last = S.u_laid.pointed.at n (omega (arith, S.u_long)) ∙ ap entries (take_all n U (omega (arith, S.u_long)))

  module _ (old new : List Float) (R : room ≡ length old) (l : length new ≡ length old) (rest : drop (entries U) new ≡ drop (entries U) old) where
    -- by 11
    pub work_11 : {r : Factored} → (r ≡ f.answer) × (r.number ≡ 11) → {t : ℕ} → t ≡ get_or up n 0 → {out : List Float} → out ≡ cleared none t new
        → (r ≡ f.answer) × (out ≡ written (entries U) f old)
    unfolding written onto
    work_11 e {t} g {out} c =
        let z : f.answer.number ≡ 11 = ap (λ (x : Factored). x.number) (sym e.0) ∙ e.1 in
        let m : entries U ≤ length new = omega (arith, S.roomy) in
        let d : out ≡ replicate (entries U) none ++ drop (entries U) old = c ∙ ap (λ (k : ℕ). cleared none k new) (g ∙ up-last) ∙
        cleared-is none (entries U) new m ∙ ap (λ (z : List Float). replicate (entries U) none ++ z) rest in
        (e.0, d ∙ (rw (eq-eqb f.answer.number 11 z, length-replicate (entries U) none) refl))

    -- by 0
    pub work_0 : (f.answer ≡ factored 0 0 none) × (take (entries U) new ≡ flatten f.columns) → (factored 0 0 none ≡ f.answer) ×
        (new ≡ written (entries U) f old)
    unfolding written onto
    work_0 e =
        let z : f.answer.number ≡ 0 = ap (λ (x : Factored). x.number) e.0 in
        let m : length (flatten f.columns) ≡ entries U = ap length (sym e.1) ∙ length-take-le (entries U) new (omega (arith, S.roomy)) in
        let d : new ≡ flatten f.columns ++ drop (entries U) old = sym (take-append-drop (entries U) new) ∙
        ap (λ (a : List Float). a ++ drop (entries U) new) e.1 ∙ ap (λ (a : List Float). flatten f.columns ++ a) rest in
        (sym e.0, d ∙ (rw (ne_eqb f.answer.number 11 (λ q. omega (arith, z)), m) refl))

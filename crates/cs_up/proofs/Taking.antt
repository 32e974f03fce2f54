-- `take_rows`: rows of a column of L taken from x, and that the definition's tests leave out the diagonal alone. Assumes nothing.
use mathlib.Core.Bool.{true}
use mathlib.Core.List.{List, [], ◌∷◌}
use mathlib.Core.Path.{◌≡◌, refl, ap, ◌∙◌}
use Prim.Native.Nat.{ℕ, suc, ◌+◌, ◌≤◌, ◌<◌}
use native.Mathlib.Omega.{arith}
use lib.Ieee.{Float, nan, binary64, sub, mul}
use lib.ListN.{length, get_or, set, take, length-set}
use lib.Seq.{get_or-set_other}
use borrow.Author.Tests.{lt-ltb, le-ltb, eq-eqb}
use Rattle.lists.specs.Entries.{Entries}
use Rattle.lists.specs.Folds.{over}
use Rattle.lists.specs.Order.{rises}
use Rattle.lists.specs.Parts.{part, placed}
use Rattle.lists.specs.Runs.{tight, zipped}
use Rattle.lists.proofs.Entries.{Passing, passing_turn, over_other, run_passes}
use Rattle.lists.proofs.Folds.{over_first}
use Rattle.lists.proofs.Parts.{length_part, get_d_part}
use Rattle.lists.proofs.Positions.{over-keeps}
use Rattle.lists.proofs.Pushing.{part-first, part_shorter}
use Rattle.cs_matrix.specs.Matrix.{value_at}
use Rattle.cs_up.specs.Steps.{take_at}
use Rattle.cs_up.specs.Up.{sub_at}

-- ---- the loop, and rows that are a run
pub taking_turn : (t : Float) {rows : List ℕ} {vals x₀ x : List Float} {z : ℕ} → Passing (take_at t) rows vals x₀ x z → z < length rows → {r : ℕ} →
    r ≡ get_or rows z 0
    → Passing (take_at t) rows vals x₀ (set x r (sub binary64 (get_or x r nan) (mul binary64 (get_or vals z nan) t))) (z + 1)
unfolding take_at
taking_turn t {x = x} w h {r} e = passing_turn w h e nan (length-set x r _) refl

pub run-takes : {rows : List ℕ} {vals : List Float} (x : List Float) → Entries (length x) rows vals × (rises rows ≡ true) → tight rows ≡ true →
    {r : ℕ} → r ≡ get_or rows 0 0
    → (t : Float) {y : List Float} → y ≡ zipped (λ a v. sub binary64 a (mul binary64 v t)) (part r (r + length vals) x) vals →
    placed r (r + length vals) x y ≡ over (take_at t) rows vals x
unfolding take_at
run-takes x a g e t = run_passes x a g e (λ a v. sub binary64 a (mul binary64 v t)) nan (take_at t) (λ z v y h. refl)

-- ---- what it leaves
pub length_taken : (t : Float) (rows : List ℕ) (vals x : List Float) → length (over (take_at t) rows vals x) ≡ length x
unfolding take_at
length_taken t rows vals x = over-keeps length (take_at t) rows vals (λ r v s m. length-set s r _) x

-- at a row that is not taken
pub taken_other : (t : Float) (rows : List ℕ) (vals x : List Float) (i : ℕ) → ((z : ℕ) → z < length rows → get_or rows z 0 ≡ i → ⊥) →
    get_or (over (take_at t) rows vals x) i nan ≡ get_or x i nan
unfolding take_at
taken_other t rows vals x i h = over_other nan (take_at t) i (λ z v s n. get_or-set_other s z i _ nan n) rows vals h x

-- ---- the definition's tests
module _ (j k : ℕ) (t : Float) where
  sub_take : (r : ℕ) (v : Float) (x : List Float) → j < r → r < k → sub_at j k t r v x ≡ take_at t r v x
  unfolding sub_at take_at
  sub_take r v x g h = rw (lt-ltb j r g, lt-ltb r k h)

  sub_diagonal : (r : ℕ) (v : Float) (x : List Float) → r ≡ j → sub_at j k t r v x ≡ x
  unfolding sub_at
  sub_diagonal r v x e = rw (le-ltb j r (omega arith))

  subs_take : (rows : List ℕ) (vals x : List Float) → ((z : ℕ) → z < length vals → (j < get_or rows z 0) × (get_or rows z 0 < k)) →
      over (sub_at j k t) rows vals x ≡ over (take_at t) (take (length vals) rows) vals x
  unfolding over
  subs_take [] [] x h = refl
  subs_take [] (v ∷ vals) x h = refl
  subs_take (r ∷ rows) [] x h = refl
  subs_take (r ∷ rows) (v ∷ vals) x h = rw (sub_take r v x (h 0 (omega arith)).0 (h 0 (omega arith)).1)
      (subs_take rows vals (take_at t r v x) (λ z l. h (suc z) (omega arith)))

-- a column of L whose rows lie from s to hi and whose values lie from s to e, the diagonal first
module _ (j k s e hi : ℕ) (li : List ℕ) (lx : List Float) (b : s < e) (o : e ≤ hi) (g : hi ≤ length li) (f : e ≤ length lx) (d : get_or li s 0 ≡ j)
  where
    pub first-value : value_at j (part s hi li) (part s e lx) ≡ get_or lx s nan
    unfolding value_at
    first-value = rw (part-first s hi li 0 (omega arith) g, part-first s e lx nan b f, eq-eqb (get_or li s 0) j d)

    pub column-takes : ((z : ℕ) → s < z → z < e → (j < get_or li z 0) × (get_or li z 0 < k)) → (t : Float) (x : List Float) →
        over (sub_at j k t) (part s hi li) (part s e lx) x ≡ over (take_at t) (part (s + 1) e li) (part (s + 1) e lx) x
    column-takes h t x =
        let l = length_part (s + 1) e lx f in
        rw (part-first s hi li 0 (omega arith) g, part-first s e lx nan b f)
        (over_first (sub_at j k t) (get_or li s 0) (get_or lx s nan) (part (s + 1) hi li) (part (s + 1) e lx) x
        ∙ ap (over (sub_at j k t) (part (s + 1) hi li) (part (s + 1) e lx)) (sub_diagonal j k t (get_or li s 0) (get_or lx s nan) x d)
        ∙ subs_take j k t (part (s + 1) hi li) (part (s + 1) e lx) x
        (λ z m. rw (get_d_part (s + 1) hi li z 0 (omega arith)) (h (s + 1 + z) (omega arith) (omega arith)))
        ∙ (rw (l, part_shorter (s + 1) e hi li o)))

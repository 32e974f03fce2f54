-- `load`: rows that rise are put into x until one is past k. Assumes nothing.
use mathlib.Core.Bool.{Bool, true, false, cond}
use mathlib.Core.List.{List, [], ◌∷◌}
use mathlib.Core.Logic.{⊎_elim}
use mathlib.Core.Path.{◌≡◌, refl, sym, ap, ◌∙◌}
use Prim.Native.Nat.{ℕ, zero, suc, ◌+◌, ◌≤◌, ◌<◌}
use native.Mathlib.Omega.{arith}
use lib.Dec.{leb}
use lib.Ieee.{Float, nan}
use lib.ListN.{length, get_or, set, drop, length-set, length-drop}
use lib.Seq.{get_or-drop, get_or-set_other}
use borrow.Author.Tests.{le-leb, lt-leb}
use Rattle.lists.specs.Folds.{over}
use Rattle.lists.proofs.Bools.{le-or-lt}
use Rattle.lists.proofs.Folds.{Over, over-turn, over-end}
use Rattle.lists.proofs.Ordering.{rises-apart}
use Rattle.cs_up.specs.Steps.{Loads}
use Rattle.cs_up.specs.Up.{put_at}

put-set : (k r : ℕ) (v : Float) (x : List Float) → r ≤ k → set x r v ≡ put_at k r v x
unfolding put_at
put-set k r v x h = rw (le-leb r k h)

put_past : (k r : ℕ) (v : Float) (x : List Float) → k < r → put_at k r v x ≡ x
unfolding put_at
put_past k r v x h = rw (lt-leb r k h)

-- rows past k change nothing
pub puts_none : (k : ℕ) (rows : List ℕ) (vals x : List Float) → ((z : ℕ) → z < length rows → k < get_or rows z 0) → over (put_at k) rows vals x ≡ x
unfolding over
puts_none k [] vals x h = refl
puts_none k (r ∷ rows) [] x h = refl
puts_none k (r ∷ rows) (v ∷ vals) x h = rw (put_past k r v x (h 0 (omega arith))) (puts_none k rows vals x (λ z l. h (suc z) (omega arith)))

pub record Loading (k : ℕ) (rows : List ℕ) (vals x₀ x : List Float) (q : ℕ) : Type 0 where
  pub ask : Loads k rows vals x₀
  pub long : length x ≡ length x₀
  pub rest : Over (put_at k) rows vals x₀ x q

module _ {k : ℕ} {rows : List ℕ} {vals x₀ x : List Float} {q : ℕ} (w : Loading k rows vals x₀ x q) where
  module _ (h : q < length rows) {i : ℕ} (e : i ≡ get_or rows q 0) where
    pub loading_turn : i ≤ k → Loading k rows vals x₀ (set x i (get_or vals q nan)) (q + 1)
    loading_turn g = record {
      ask = w.ask;
      long = length-set x i _ ∙ w.long;
      rest = over-turn (put_at k) rows vals 0 nan w.ask.alike w.rest h (put-set k i (get_or vals q nan) x g ∙ (rw e));
    }

    later : (z : ℕ) → z < length (drop q rows) → get_or rows q 0 ≤ get_or (drop q rows) z 0
    later zero l = let z : q + 0 ≡ q = omega arith in rw (get_or-drop q rows 0 0, z) (omega arith)
    later (suc z) l = rw (get_or-drop q rows (suc z) 0)
        (omega (arith, rises-apart rows w.ask.rise q (q + suc z) (omega arith) (omega (arith, length-drop q rows))))

    pub loading_stop : k < i → x ≡ over (put_at k) rows vals x₀
    loading_stop g = sym (w.rest.rest ∙ puts_none k (drop q rows) (drop q vals) x (λ z l. omega (arith, later z l)))

  pub loading_done : length rows ≤ q → x ≡ over (put_at k) rows vals x₀
  loading_done g = over-end (put_at k) rows vals w.rest g

-- ---- what it leaves
pub length-put : (k : ℕ) (rows : List ℕ) (vals x : List Float) → length (over (put_at k) rows vals x) ≡ length x
unfolding over put_at
length-put k [] vals x = refl
length-put k (r ∷ rows) [] x = refl
length-put k (r ∷ rows) (v ∷ vals) x = length-put k rows vals _ ∙ go (leb r k)
  where
    go : (b : Bool) → length (cond b (set x r v) x) ≡ length x
    go true = length-set x r v
    go false = refl

-- at a place that is no row at or above k
pub put_other : (k : ℕ) (rows : List ℕ) (vals x : List Float) (i : ℕ) → ((z : ℕ) → z < length rows → get_or rows z 0 ≡ i → i ≤ k → ⊥) →
    get_or (over (put_at k) rows vals x) i nan ≡ get_or x i nan
unfolding over
put_other k [] vals x i h = refl
put_other k (r ∷ rows) [] x i h = refl
put_other k (r ∷ rows) (v ∷ vals) x i h =
    put_other k rows vals (put_at k r v x) i (λ z l. h (suc z) (omega arith))
    ∙ ⊎_elim
    (λ (g : r ≤ k). ap (λ (y : List Float). get_or y i nan) (sym (put-set k r v x g)) ∙
    get_or-set_other x r i v nan (λ (e : i ≡ r). h 0 (omega arith) (sym e) (omega arith)))
    (λ (g : k < r). ap (λ (y : List Float). get_or y i nan) (put_past k r v x g))
    (le-or-lt r k)

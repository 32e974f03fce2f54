-- The loop of `mark`, and where marks then stand. Assumes nothing.
use mathlib.Core.Path.{◌≡◌, refl, sym, ap, ◌∙◌}
use mathlib.Core.Bool.{Bool, true, false, cond, ◌&&◌, ◌||◌}
use mathlib.Core.List.{List, [], ◌∷◌}
use mathlib.Core.Logic.{⊎_elim}
use Prim.Native.Nat.{ℕ, ◌+◌, ◌≤◌, ◌<◌}
use native.Mathlib.Omega.{arith}
use lib.Dec.{leb, eqb}
use lib.ListN.{length, get_or, set, length-set}
use lib.Seq.{set_out, get_or-set_same, get_or-set_other}
use borrow.Author.Tests.{le-leb, lt-leb, eq-eqb, ne_eqb}
use Rattle.lists.specs.Folds.{along}
use Rattle.lists.specs.Order.{lists}
use Rattle.lists.proofs.Bools.{eq-or-ne}
use Rattle.lists.proofs.Folds.{Along, along-turn, along-end}
use Rattle.cs_solve_cs.specs.Steps.{mark_at, mark_all, marked}

module _ (from r : ℕ) (w : List ℕ) where
  mark_set : from ≤ r → set w r 1 ≡ mark_at from r w
  unfolding mark_at
  mark_set h = rw (le-leb from r h)

  mark_below : r < from → w ≡ mark_at from r w
  unfolding mark_at
  mark_below h = rw (lt-leb from r h)

  mark_out : length w ≤ r → w ≡ mark_at from r w
  unfolding mark_at
  mark_out h = go (leb from r)
    where
      go : (t : Bool) → w ≡ cond t (set w r 1) w
      go true = sym (set_out w r 1 h)
      go false = refl

  length-mark_at : length (mark_at from r w) ≡ length w
  unfolding mark_at
  length-mark_at = go (leb from r)
    where
      go : (t : Bool) → length (cond t (set w r 1) w) ≡ length w
      go true = length-set w r 1
      go false = refl

  -- the mark that is put, and all others
  marked-at : (k : ℕ) → k < length w → marked (mark_at from r w) k ≡ ((eqb k r && leb from k) || marked w k)
  unfolding mark_at
  marked-at k h = ⊎_elim (λ (e : k ≡ r). same e) (λ (e : k ≡ r → ⊥). other e (leb from r)) (eq-or-ne k r)
    where
      same : k ≡ r → marked (cond (leb from r) (set w r 1) w) k ≡ ((eqb k r && leb from k) || marked w k)
      same e = rw (eq-eqb k r e, ← e) (go (leb from k))
        where
          go : (t : Bool) → marked (cond t (set w k 1) w) k ≡ (t || marked w k)
          go true = rw (get_or-set_same w k 1 0 h)
          go false = refl

      other : (k ≡ r → ⊥) → (t : Bool) → marked (cond t (set w r 1) w) k ≡ ((eqb k r && leb from k) || marked w k)
      other e true = rw (ne_eqb k r e, get_or-set_other w r k 1 0 e)
      other e false = rw (ne_eqb k r e)

-- ---- the loop
pub record Marking (from : ℕ) (rows w₀ w : List ℕ) (k : ℕ) : Type 0 where
  pub long : length w ≡ length w₀
  pub rest : Along (mark_at from) rows w₀ w k

module _ {from : ℕ} {rows w₀ w : List ℕ} {k : ℕ} (v : Marking from rows w₀ w k) (g : k < length rows) {r : ℕ} (e : r ≡ get_or rows k 0) where
  next : {w' : List ℕ} → length w' ≡ length w → w' ≡ mark_at from r w → Marking from rows w₀ w' (k + 1)
  next l q = record { long = l ∙ v.long; rest = along-turn (mark_at from) rows 0 v.rest g (q ∙ (rw e)) }

  pub marking_set : from ≤ r → Marking from rows w₀ (set w r 1) (k + 1)
  marking_set h = next (length-set w r 1) (mark_set from r w h)

  pub marking_below : r < from → Marking from rows w₀ w (k + 1)
  marking_below h = next refl (mark_below from r w h)

  pub marking_out : length w ≤ r → Marking from rows w₀ w (k + 1)
  marking_out h = next refl (mark_out from r w h)

pub marking_end : {from : ℕ} {rows w₀ w : List ℕ} {k : ℕ} → Marking from rows w₀ w k → length rows ≤ k → w ≡ mark_all from rows w₀
unfolding mark_all
marking_end {from} {rows} v h = along-end (mark_at from) rows v.rest h

-- ---- what is marked in the end
pub length-mark_all : (from : ℕ) (rows w : List ℕ) → length (mark_all from rows w) ≡ length w
unfolding mark_all along
length-mark_all from [] w = refl
length-mark_all from (r ∷ rows) w = length-mark_all from rows (mark_at from r w) ∙ length-mark_at from r w

pub marked_all : (from : ℕ) (rows w : List ℕ) (k : ℕ) → k < length w → marked (mark_all from rows w) k ≡ ((leb from k && lists k rows) || marked w k)
unfolding mark_all along lists
marked_all from [] w k h = go (leb from k)
  where
    go : (t : Bool) → marked w k ≡ ((t && false) || marked w k)
    go true = refl
    go false = refl
marked_all from (r ∷ rows) w k h =
    marked_all from rows (mark_at from r w) k (omega (arith, length-mark_at from r w))
    ∙ ap (λ (t : Bool). (leb from k && lists k rows) || t) (marked-at from r w k h)
    ∙ go (leb from k) (eqb k r) (lists k rows) (marked w k)
  where
    go : (f e l m : Bool) → ((f && l) || ((e && f) || m)) ≡ ((f && (e || l)) || m)
    go true true true m = refl
    go true true false m = refl
    go true false true m = refl
    go true false false m = refl
    go false true l m = refl
    go false false l m = refl

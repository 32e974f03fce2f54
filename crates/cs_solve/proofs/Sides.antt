-- Two slices side by side, by what is left of both: nothing more is done once one of them is empty. Assumes nothing.
use mathlib.Core.Path.{◌≡◌, refl, sym, ◌∙◌}
use mathlib.Core.List.{List, [], ◌∷◌}
use mathlib.Core.Logic.{◌⊎◌}
use Prim.Native.Nat.{ℕ, zero, suc, min}
use lib.ListN.{length, take}
use native.Mathlib.Omega.{arith}
use lib.Ieee.{Float}
use denote.Ref.{Bor}
use Rattle.std.proofs.Common.{Option, Some, None, Iter}
use Rattle.std.proofs.iter.Yields.{fronts}
use Rattle.std.proofs.lemmas.Iterator.{zips}
use Rattle.std.proofs.lemmas.Slice.Zip.{Zip-more, either_empty_from_Zip}
use Rattle.std.specs.Iterator.Adapters.{zip_first, zip_second}
use Rattle.std.specs.Slice.Iter.{iter_rest}
use Rattle.std.specs.declared.iter.Zip.{Zip}
use Rattle.lists.specs.Calls.{none}
use Rattle.lists.specs.Folds.{over}
use Rattle.lists.proofs.Folds.{over_first}
use Rattle.cs_matrix.specs.Matrix.{value_at}

over_ended : {A B S : Type 0} (f : A → B → S → S) (l : List A) (m : List B) (s : S) → (l ≡ []) ⊎ (m ≡ []) → over f l m s ≡ s
unfolding over
over_ended f [] m s h = refl
over_ended f (a ∷ l) [] s h = refl
over_ended f (a ∷ l) (b ∷ m) s h = grind arith

-- what both have is all that counts
pub over-cut : {A B S : Type 0} (f : A → B → S → S) (n : ℕ) (l : List A) (m : List B) (s : S) → n ≡ min (length l) (length m)
    → over f (take n l) (take n m) s ≡ over f l m s
unfolding over
over-cut f zero [] m s e = refl
over-cut f (suc n) [] m s e = absurd (omega arith)
over-cut f zero (a ∷ l) [] s e = refl
over-cut f (suc n) (a ∷ l) [] s e = absurd (omega arith)
over-cut f zero (a ∷ l) (b ∷ m) s e = absurd (omega arith)
over-cut f (suc n) (a ∷ l) (b ∷ m) s e = over-cut f n l m (f a b s) (omega arith)

-- what is left of the two gives, from the state s of now, what all of them give from s₀
module _ {A B S : Type 0} (f : A → B → S → S) where
  abbrev pub Left : List A → List B → S → Zip (Iter A) (Iter B) → S → Type 0
  Left l m s₀ z s = over f l m s₀ ≡ over f (iter_rest (zip_first z)) (iter_rest (zip_second z)) s

  pub left_turn : (l : List A) (m : List B) (s₀ s : S) (z u : Zip (Iter A) (Iter B)) (r : Option (Bor A × Bor B)) (p : Bor A × Bor B)
      → Left l m s₀ z s → r ≡ Some p → zips fronts fronts z r u → Left l m s₀ u (f p.0.now p.1.now s)
  left_turn l m s₀ s z u r p v e n = let h = Zip-more z u r p e n in rw (h.0, h.1, over_first) at v

  pub left_end : (l : List A) (m : List B) (s₀ s : S) (z u : Zip (Iter A) (Iter B)) (r : Option (Bor A × Bor B)) → Left l m s₀ z s → r ≡ None →
      zips fronts fronts z r u → s ≡ over f l m s₀
  left_end l m s₀ s z u r v e n = sym (v ∙ over_ended f _ _ s (either_empty_from_Zip z u r e n))

pub value_at_ended : (j : ℕ) (rows : List ℕ) (vals : List Float) → (rows ≡ []) ⊎ (vals ≡ []) → value_at j rows vals ≡ none
unfolding value_at
value_at_ended j [] vals h = refl
value_at_ended j (i ∷ rows) [] h = refl
value_at_ended j (i ∷ rows) (v ∷ vals) h = grind arith

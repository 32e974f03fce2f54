-- Members of a list and the places where they stand, and a fold by its members. Assumes nothing.
use Rattle.std.proofs.Common.{◌≡◌, ℕ, zero, suc, ◌+◌, ◌<◌, List, [], ◌∷◌, length, get_or, drop, sym, refl, ap, ◌∙◌, arith}
use mathlib.Core.List.{Memᴰ}
use Rattle.lists.specs.Folds.{along}
use Rattle.lists.specs.Order.{Once, no_more, one_more}

-- what stands at a place is a member
pub member_at : (l : List ℕ) (q : ℕ) → q < length l → Memᴰ (get_or l q 0) l
member_at [] q h = absurd (omega arith)
member_at (x ∷ l) zero h = Memᴰ.head refl
member_at (x ∷ l) (suc q) h = Memᴰ.tail (member_at l q (omega arith))

-- a member stands at a place
pub record Spot (l : List ℕ) (x : ℕ) : Type 0 where
  pub at : ℕ
  pub inside : at < length l
  pub is : get_or l at 0 ≡ x

pub spot : {x : ℕ} {l : List ℕ} → Memᴰ x l → Spot l x
spot (Memᴰ.head e) = record { at = 0; inside = omega arith; is = sym e }
spot (Memᴰ.tail m) = let s = spot m in record { at = suc s.at; inside = omega (arith, s.inside); is = s.is }

-- a number listed once is not listed behind its place
pub once_behind : {l : List ℕ} → Once l → (q : ℕ) → q < length l → ¬ Memᴰ (get_or l q 0) (drop (q + 1) l)
once_behind no_more q h m = absurd (omega arith)
once_behind (one_more n o) zero h m = n m
once_behind (one_more n o) (suc q) h m = let e : suc q + 1 ≡ suc (q + 1) = omega arith in once_behind o q (omega arith) (rw e at m)

-- folds that do the same at each member
pub along-same : {A S : Type 0} (f g : A → S → S) (l : List A) → ((a : A) (s : S) → Memᴰ a l → f a s ≡ g a s) → (s : S) → along f l s ≡ along g l s
unfolding along
along-same f g [] h s = refl
along-same f g (a ∷ l) h s = along-same f g l (λ b t m. h b t (Memᴰ.tail m)) (f a s) ∙ ap (along g l) (h a s (Memᴰ.head refl))

-- The next number at which a test holds; and whether a number is listed, place by place. Assumes nothing.
use Rattle.std.proofs.Common.{◌≡◌, ℕ, zero, suc, ◌+◌, ◌<◌, ◌≤◌, Bool, true, false, ◌||◌, eqb, List, [], ◌∷◌, ◌++◌, length, get_or, sym, refl, ap}
use Rattle.std.proofs.Common.{◌∙◌, ⊎_elim, eq-or-lt_of_le, add-one, arith}
use Rattle.lists.specs.Choices.{chosen}
use Rattle.lists.specs.Order.{lists}
use Rattle.lists.proofs.Choices.{chosen_more, chosen-same}
use Rattle.lists.proofs.Members.{lists-same, lists_other}

-- from b up to n the test does not hold
pub chosen-rest : (f : ℕ → Bool) (b n : ℕ) → b ≤ n → ((m : ℕ) → b ≤ m → m < n → f m ≡ false) → chosen n f ≡ chosen b f
chosen-rest f b zero h g = let e : b ≡ 0 = omega arith in rw e
chosen-rest f b (suc n) h g =
    ⊎_elim
    (λ (e : b ≡ suc n). rw e)
    (λ (l : b < suc n). (rw (← (add-one n)) (chosen-same n f (g n (omega arith) (omega arith)))) ∙
    chosen-rest f b n (omega arith) (λ m o q. g m o (omega arith)))
    (eq-or-lt_of_le h)

-- and then it holds
pub chosen-next : (f : ℕ → Bool) (b r : ℕ) → b ≤ r → ((m : ℕ) → b ≤ m → m < r → f m ≡ false) → f r ≡ true → chosen (r + 1) f ≡ chosen b f ++ (r ∷ [])
chosen-next f b r h g e = chosen_more r f e ∙ ap (λ (l : List ℕ). l ++ (r ∷ [])) (chosen-rest f b r h g)

-- ---- listed, place by place
pub lists_at : (l : List ℕ) (k : ℕ) → k < length l → lists (get_or l k 0) l ≡ true
unfolding lists
lists_at [] k h = absurd (omega arith)
lists_at (x ∷ l) zero h = lists-same x x l refl
lists_at (x ∷ l) (suc k) h = go (eqb (get_or l k 0) x) (lists_at l k (omega arith))
  where
    go : (b : Bool) → lists (get_or l k 0) l ≡ true → (b || lists (get_or l k 0) l) ≡ true
    go true e = refl
    go false e = e

pub lists_nowhere : (x : ℕ) (l : List ℕ) → ((k : ℕ) → k < length l → get_or l k 0 ≡ x → ⊥) → lists x l ≡ false
unfolding lists
lists_nowhere x [] h = refl
lists_nowhere x (y ∷ l) h = lists_other x y l (λ e. h 0 (omega arith) (sym e)) ∙ lists_nowhere x l (λ k m. h (suc k) (omega arith))

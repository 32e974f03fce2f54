-- Whether a number is listed, by the parts of a list; and what stands at a place of a list, whatever stands past its end. Assumes nothing.
use Rattle.std.proofs.Common.{◌≡◌, ℕ, zero, suc, ◌<◌, Bool, true, false, ◌||◌, eqb, ◌≢◌, ◌⊎◌, List, [], ◌∷◌, ◌++◌, length, get_or, refl, inl, inr}
use Rattle.std.proofs.Common.{arith, eq-eqb, ne_eqb}
use mathlib.Core.List.{Memᴰ}
use Rattle.lists.specs.Order.{lists}
use Rattle.lists.proofs.Bools.{not-both}
use Rattle.lists.proofs.Ordering.{lists_mean, member_lists}

pub lists-same : (x y : ℕ) (ys : List ℕ) → x ≡ y → lists x (y ∷ ys) ≡ true
unfolding lists
lists-same x y ys e = rw (eq-eqb x y e)

pub lists_other : (x y : ℕ) (ys : List ℕ) → x ≢ y → lists x (y ∷ ys) ≡ lists x ys
unfolding lists
lists_other x y ys n = rw (ne_eqb x y n)

pub lists-append : (x : ℕ) (l m : List ℕ) → lists x (l ++ m) ≡ (lists x l || lists x m)
unfolding lists
lists-append x [] m = refl
lists-append x (y ∷ l) m = go (eqb x y) (lists-append x l m)
  where
    go : (b : Bool) → lists x (l ++ m) ≡ (lists x l || lists x m) → (b || lists x (l ++ m)) ≡ ((b || lists x l) || lists x m)
    go true e = refl
    go false e = e

-- the test, and what it says
pub listed-or-not : (x : ℕ) (l : List ℕ) → ((lists x l ≡ true) × Memᴰ x l) ⊎ ((lists x l ≡ false) × ¬ Memᴰ x l)
listed-or-not x l = go (lists x l) refl
  where
    go : (b : Bool) → lists x l ≡ b → ((lists x l ≡ true) × Memᴰ x l) ⊎ ((lists x l ≡ false) × ¬ Memᴰ x l)
    go true e = inl (e, lists_mean x l e)
    go false e = inr (e, λ m. not-both (lists x l) (member_lists x l m) e)

-- within a list it does not matter what is read past its end
pub get_d_any : {A : Type 0} (l : List A) (k : ℕ) (d e : A) → k < length l → get_or l k d ≡ get_or l k e
get_d_any [] k d e h = absurd (omega arith)
get_d_any (x ∷ l) zero d e h = refl
get_d_any (x ∷ l) (suc k) d e h = get_d_any l k d e (omega arith)

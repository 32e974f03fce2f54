-- What is counted does not depend on the order: counts over two lists, either first. Assumes nothing.
use Rattle.std.proofs.Common.{◌≡◌, ℕ, ◌+◌, ◌%◌, ◌^◌, List, [], ◌∷◌, ◌++◌, get_or, sym, refl, ap, ◌∙◌, ⊎_elim, get_or-set_other}
use lib.Seq.{set_comm}
use Rattle.lists.specs.Folds.{along}
use Rattle.lists.specs.Sums.{bumped, counted}
use Rattle.lists.proofs.Bools.{eq-or-ne}

bumped-swap : (a b : ℕ) (w : List ℕ) → bumped a (bumped b w) ≡ bumped b (bumped a w)
unfolding bumped
bumped-swap a b w =
    ⊎_elim
    (λ (e : a ≡ b). rw e)
    (λ (n : a ≡ b → ⊥).
    rw (get_or-set_other w b a ((get_or w b 0 + 1) % 2 ^ 32) 0 n, get_or-set_other w a b ((get_or w a 0 + 1) % 2 ^ 32) 0 (λ e. n (sym e)))
    (set_comm w b a ((get_or w b 0 + 1) % 2 ^ 32) ((get_or w a 0 + 1) % 2 ^ 32) (λ e. n (sym e))))
    (eq-or-ne a b)

counted-bumped : (l : List ℕ) (b : ℕ) (w : List ℕ) → counted l (bumped b w) ≡ bumped b (counted l w)
unfolding counted along
counted-bumped [] b w = refl
counted-bumped (a ∷ l) b w = ap (along bumped l) (bumped-swap a b w) ∙ counted-bumped l b (bumped a w)

counted-swap : (l m w : List ℕ) → counted l (counted m w) ≡ counted m (counted l w)
unfolding counted along
counted-swap l [] w = refl
counted-swap l (b ∷ m) w = counted-swap l m (bumped b w) ∙ ap (along bumped m) (counted-bumped l b w)

-- one list behind the other: the first one first
pub counted-append : (l m w : List ℕ) → counted (l ++ m) w ≡ counted m (counted l w)
unfolding counted along
counted-append [] m w = refl
counted-append (a ∷ l) m w = counted-append l m (bumped a w)

-- or the second one first
pub counted-front : (l m w : List ℕ) → counted (l ++ m) w ≡ counted l (counted m w)
counted-front l m w = counted-append l m w ∙ counted-swap m l w

-- nothing, and one more
pub counted_none : (w : List ℕ) → counted [] w ≡ w
unfolding counted along
counted_none w = refl

pub counted-one : (a : ℕ) (l w : List ℕ) → counted (a ∷ l) w ≡ counted l (bumped a w)
unfolding counted along
counted-one a l w = refl

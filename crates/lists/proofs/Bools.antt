-- Tests and numbers by cases. Assumes nothing.
use Rattle.std.proofs.Common.{◌≡◌, ℕ, zero, suc, ◌<◌, ◌≤◌, Bool, true, false, cond, not, ◌&&◌, ◌||◌, ◌⊎◌, sym, refl, ◌∙◌, inl, inr, ⊎_elim}
use Rattle.std.proofs.Common.{true≢false, suc-le-suc, zero-le, arith}
use native.Mathlib.Decide.{ℕ_discrete}

pub le-or-lt : (a b : ℕ) → (a ≤ b) ⊎ (b < a)
le-or-lt zero b = inl zero-le
le-or-lt (suc a) zero = inr (suc-le-suc zero-le)
le-or-lt (suc a) (suc b) = ⊎_elim (λ p. inl (suc-le-suc p)) (λ q. inr (suc-le-suc q)) (le-or-lt a b)

pub eq-or-ne : (a b : ℕ) → (a ≡ b) ⊎ (a ≡ b → ⊥)
eq-or-ne a b = elim (ℕ_discrete a b) [ yes p ↦ inl p | no q ↦ inr q ]

-- no test is both
pub not-both : (b : Bool) → b ≡ true → b ≡ false → ⊥
not-both b p q = true≢false (sym p ∙ q)

pub and-true : (a b : Bool) → (a && b) ≡ true → (a ≡ true) × (b ≡ true)
and-true true b h = (refl, h)
and-true false b h = absurd (not-both false h refl)

pub and_none : (a : Bool) → (a && true) ≡ a
and_none true = refl
and_none false = refl

pub and-false : (a : Bool) → (a && false) ≡ false
and-false true = refl
and-false false = refl

pub or-false : (a b : Bool) → (a || b) ≡ false → (a ≡ false) × (b ≡ false)
or-false true b h = absurd (true≢false h)
or-false false b h = (refl, h)

pub or_right : (a : Bool) {b : Bool} → b ≡ true → (a || b) ≡ true
or_right true e = refl
or_right false e = e

pub or-none : (a : Bool) → (a || false) ≡ a
or-none true = refl
or-none false = refl

pub not_holds : (b : Bool) → not b ≡ false → b ≡ true
not_holds true h = refl
not_holds false h = absurd (true≢false h)

-- two tests that hold together, and two that fail together
pub alike : (a b : Bool) → (a ≡ true → b ≡ true) → (b ≡ true → a ≡ true) → a ≡ b
alike true b f g = sym (f refl)
alike false true f g = g refl
alike false false f g = refl

pub alike_fails : (a b : Bool) → (a ≡ false → b ≡ false) → (b ≡ false → a ≡ false) → a ≡ b
alike_fails false b f g = sym (f refl)
alike_fails true false f g = g refl
alike_fails true true f g = refl

-- after `if !f(..) { return .. }`, with r the result of f and t what it ensures: where the branch was passed over, and where it was taken
pub held : {r t : Bool} → r ≡ t → not r ≡ false → t ≡ true
held {r = true} e h = sym e
held {r = false} e h = absurd (true≢false h)

pub failed : {r t : Bool} → r ≡ t → not r ≡ true → t ≡ false
failed {r = true} e h = absurd (true≢false (sym h))
failed {r = false} e h = sym e

-- a case that was passed over
pub passed_over : (b : Bool) (n r : ℕ) → cond b (suc n) r ≡ 0 → (b ≡ false) × (r ≡ 0)
passed_over true n r h = absurd (omega arith)
passed_over false n r h = (refl, h)

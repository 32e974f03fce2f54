-- At how many numbers a test holds: no more than other tests, a list or a stretch of numbers say. Assumes nothing.
use Rattle.std.proofs.Common.{◌≡◌, ℕ, zero, suc, ◌+◌, ◌-◌, ◌<◌, ◌≤◌, Bool, true, false, cond, ◌||◌, List, [], ◌∷◌, length, sym, refl, ap, ◌∙◌}
use Rattle.std.proofs.Common.{⊎_elim, add-zero, add-suc, arith, length-append}
use Rattle.lists.specs.Choices.{chosen}
use Rattle.lists.specs.Order.{lists}
use Rattle.lists.proofs.Bools.{eq-or-ne, not-both}
use Rattle.lists.proofs.Choices.{chosen_none}
use Rattle.lists.proofs.Members.{lists_other}
use Rattle.lists.proofs.Skipping.{chosen-rest, lists_nowhere}

one_more : (n : ℕ) (f : ℕ → Bool) → length (chosen (suc n) f) ≡ length (chosen n f) + cond (f n) 1 0
unfolding chosen
one_more n f = length-append (chosen n f) (cond (f n) (n ∷ []) []) ∙ ap (λ (k : ℕ). length (chosen n f) + k) (go (f n))
  where
    go : (b : Bool) → length (cond b (n ∷ []) []) ≡ cond b 1 0
    go true = refl
    go false = refl

no_more : (a b : Bool) → (a ≡ true → b ≡ true) → cond a 1 0 ≤ cond b 1 0
no_more false b e = omega arith
no_more true true e = omega arith
no_more true false e = absurd (not-both false (e refl) refl)

le-one : (b : Bool) → cond b 1 0 ≤ 1
le-one true = omega arith
le-one false = omega arith

-- where the first test holds the second does
pub chosen_less : (n : ℕ) (f g : ℕ → Bool) → ((r : ℕ) → r < n → f r ≡ true → g r ≡ true) → length (chosen n f) ≤ length (chosen n g)
unfolding chosen
chosen_less zero f g o = omega arith
chosen_less (suc n) f g o = omega (
  arith,
  one_more n f,
  one_more n g,
  no_more (f n) (g n) (o n (omega arith)),
  chosen_less n f g (λ r l. o r (omega arith)),
)

-- or one of two others
pub chosen-or : (n : ℕ) (f g h : ℕ → Bool) → ((r : ℕ) → r < n → f r ≡ true → (g r || h r) ≡ true) →
    length (chosen n f) ≤ length (chosen n g) + length (chosen n h)
unfolding chosen
chosen-or zero f g h o = omega arith
chosen-or (suc n) f g h o =
    omega (arith, one_more n f, one_more n g, one_more n h, step (f n) (g n) (h n) (o n (omega arith)), chosen-or n f g h (λ r l. o r (omega arith)))
  where
    step : (a b c : Bool) → (a ≡ true → (b || c) ≡ true) → cond a 1 0 ≤ cond b 1 0 + cond c 1 0
    step false b c e = omega arith
    step true true c e = omega arith
    step true false true e = omega arith
    step true false false e = absurd (not-both false (e refl) refl)

-- or it is at y
pub chosen_but : (n : ℕ) (f g : ℕ → Bool) (y : ℕ) → ((r : ℕ) → r < n → (r ≡ y → ⊥) → f r ≡ true → g r ≡ true) →
    length (chosen n f) ≤ length (chosen n g) + 1
unfolding chosen
chosen_but zero f g y o = omega arith
chosen_but (suc n) f g y o = ⊎_elim here (λ d. further d (chosen_but n f g y (λ r l. o r (omega arith)))) (eq-or-ne n y)
  where
    here : n ≡ y → length (chosen (suc n) f) ≤ length (chosen (suc n) g) + 1
    here e = omega (arith, one_more n f, one_more n g, le-one (f n), chosen_less n f g (λ r l. o r (omega arith) (λ z. omega arith)))

    further : (n ≡ y → ⊥) → length (chosen n f) ≤ length (chosen n g) + 1 → length (chosen (suc n) f) ≤ length (chosen (suc n) g) + 1
    further d i = omega (arith, one_more n f, one_more n g, no_more (f n) (g n) (o n (omega arith) d), i)

nowhere : (n : ℕ) (f : ℕ → Bool) → ((r : ℕ) → r < n → f r ≡ false) → length (chosen n f) ≡ 0
nowhere n f h = ap length (chosen-rest f 0 n (omega arith) (λ m l g. h m g) ∙ chosen_none f)

-- the numbers of a list are no more than it is long
pub chosen-lists : (n : ℕ) (l : List ℕ) → length (chosen n (λ r. lists r l)) ≤ length l
chosen-lists n [] = omega (arith, nowhere n (λ r. lists r []) (λ r h. lists_nowhere r [] (λ k g. absurd (omega arith))))
chosen-lists n (y ∷ l) = omega (
  arith,
  chosen_but n (λ r. lists r (y ∷ l)) (λ r. lists r l) y (λ r h d e. sym (lists_other r y l d) ∙ e),
  chosen-lists n l,
)

-- those of a stretch are no more than it is long
stretch : (f : ℕ → Bool) (a d : ℕ) → length (chosen (a + d) f) ≤ length (chosen a f) + d
stretch f a zero = rw add-zero (omega arith)
stretch f a (suc d) = rw add-suc (omega (arith, one_more (a + d) f, le-one (f (a + d)), stretch f a d))

pub chosen-between : (n : ℕ) (f : ℕ → Bool) (lo hi : ℕ) → lo ≤ hi → hi ≤ n → ((r : ℕ) → r < lo → f r ≡ false) →
    ((r : ℕ) → hi ≤ r → r < n → f r ≡ false) → length (chosen n f) ≤ hi - lo
chosen-between n f lo hi h g p q =
    let e : lo + (hi - lo) ≡ hi = omega arith in
    let s = rw e at (stretch f lo (hi - lo)) in
    omega (arith, s, nowhere lo f p, ap length (chosen-rest f hi n g q))

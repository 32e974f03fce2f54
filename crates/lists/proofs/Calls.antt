-- What a call answers and leaves, on the way through its judgements. Assumes nothing.
use Rattle.std.proofs.Common.{◌≡◌, ℕ, zero, suc, ◌<◌, ◌≤◌, min, Bool, true, false, cond, ◌||◌, ltb, List, [], ◌∷◌, ◌++◌, length, sym, refl, ◌∙◌}
use Rattle.std.proofs.Common.{arith, ltb-false, le-ltb, lt-ltb, eq-eqb, ne_eqb}
use lib.Ieee.{Float}
use Rattle.lists.specs.Calls.{lowest, both, lower, none, cleared, Scratch, scratch, narrow, wiped, Lent, outputs, worked, leaves}
use Rattle.lists.proofs.Bools.{or-false}

-- ---- `lower`, case by case
pub lower-right : (a b : ℕ) → a ≡ 0 → b ≡ lower a b
unfolding lower
lower-right a b h = rw (eq-eqb a 0 h)

pub lower-left : (a b : ℕ) → (a ≡ 0 → ⊥) → b ≡ 0 → a ≡ lower a b
unfolding lower
lower-left a b g h = rw (ne_eqb a 0 g, eq-eqb b 0 h)

pub lower_least : (a b r : ℕ) → (a ≡ 0 → ⊥) → (b ≡ 0 → ⊥) → r ≡ min a b → r ≡ lower a b
unfolding lower
lower_least a b r g h e = rw (ne_eqb a 0 g, ne_eqb b 0 h) e

-- beside an answer of 0
pub lower_alone : (a : ℕ) → a ≡ lower a 0
lower_alone zero = lower-right 0 0 refl
lower_alone (suc a) = lower-left (suc a) 0 (λ e. omega arith) refl

-- the lower of two is 0 where both are
pub lower-none : (a b : ℕ) → lower a b ≡ 0 → (a ≡ 0) × (b ≡ 0)
lower-none zero b h = (refl, lower-right 0 b refl ∙ h)
lower-none (suc a) zero h = absurd (omega (arith, lower-left (suc a) 0 (λ e. omega arith) refl))
lower-none (suc a) (suc b) h = absurd (omega (arith, lower_least (suc a) (suc b) (min (suc a) (suc b)) (λ e. omega arith) (λ e. omega arith) refl))

-- ---- two operands judged together: the lower of the two answers
-- the numbers are k, k + 1, ..
abbrev pub From : ℕ → List (ℕ × Bool) → Type 0
From k [] = 0 ≤ 0
From k (c ∷ cs) = (c.0 ≡ k) × From (suc k) cs

-- an answer is 0, or not below the first number
from_least : (k : ℕ) (cs : List (ℕ × Bool)) → From k cs → (lowest cs ≡ 0 → ⊥) → k ≤ lowest cs
from_least k [] g h = absurd (h refl)
from_least k (c ∷ cs) g h = go c.1 h (from_least (suc k) cs g.1)
  where
    go : (b : Bool) → (cond b c.0 (lowest cs) ≡ 0 → ⊥) → ((lowest cs ≡ 0 → ⊥) → suc k ≤ lowest cs) → k ≤ cond b c.0 (lowest cs)
    go true h f = omega (arith, g.0)
    go false h f = omega (arith, f h)

lower-first : (k r : ℕ) → 0 < k → (r ≡ 0 → ⊥) → k ≤ r → k ≡ lower k r
lower-first k r h g l = lower_least k r k (λ e. omega arith) g (omega arith)

lower-swap : (k r : ℕ) → 0 < k → (r ≡ 0 → ⊥) → k ≤ r → k ≡ lower r k
lower-swap k r h g l = lower_least r k k g (λ e. omega arith) (omega arith)

pub lowest-both : (k : ℕ) (cs ds : List (ℕ × Bool)) → 0 < k → From k cs → From k ds → lower (lowest cs) (lowest ds) ≡ lowest (both cs ds)
unfolding both
lowest-both k [] ds h f g = sym (lower-right 0 (lowest ds) refl)
lowest-both k (c ∷ cs) [] h f g = sym (lower_alone (lowest (c ∷ cs)))
lowest-both k (c ∷ cs) (d ∷ ds) h f g = go c.1 d.1 (lowest-both (suc k) cs ds (omega arith) f.1 g.1)
  where
    one : (r : ℕ) → ((r ≡ 0 → ⊥) → suc k ≤ r) → lower k r ≡ k
    one zero s = sym (lower-left k 0 (λ e. omega arith) refl)
    one (suc r) s = sym (lower-first k (suc r) h (λ e. omega arith) (omega (arith, s (λ e. omega arith))))

    two : (r : ℕ) → ((r ≡ 0 → ⊥) → suc k ≤ r) → lower r k ≡ k
    two zero s = sym (lower-right 0 k refl)
    two (suc r) s = sym (lower-swap k (suc r) h (λ e. omega arith) (omega (arith, s (λ e. omega arith))))

    go : (a b : Bool) → lower (lowest cs) (lowest ds) ≡ lowest (both cs ds) → lower (cond a c.0 (lowest cs)) (cond b d.0 (lowest ds))
        ≡ cond (a || b) c.0 (lowest (both cs ds))
    go true true e = rw (f.0, g.0) (sym (lower_least k k k (λ e. omega arith) (λ e. omega arith) (omega arith)))
    go true false e = rw f.0 (one (lowest ds) (from_least (suc k) ds g.1))
    go false true e = rw (f.0, g.0) (two (lowest cs) (from_least (suc k) cs f.1))
    go false false e = e

-- ---- the numbers are above 0 and below n
abbrev pub Under : ℕ → List (ℕ × Bool) → Type 0
Under n [] = 0 ≤ 0
Under n (c ∷ cs) = (0 < c.0) × (c.0 < n) × Under n cs

-- from 1 to 6: by these nothing lent changes
abbrev pub Early : List (ℕ × Bool) → Type 0
Early cs = Under 7 cs

pub under_both : (m n : ℕ) (cs ds : List (ℕ × Bool)) → m ≤ n → Under m cs → Under n ds → Under n (cs ++ ds)
under_both m n [] ds l g h = h
under_both m n (c ∷ cs) ds l g h = (g.0, omega (arith, g.1), under_both m n cs ds l g.2 h)

-- the first of the judgements refuses, or it passes on to the others
pub first : (cs ds : List (ℕ × Bool)) {r : ℕ} → r ≡ lowest cs → (r ≡ 0 → ⊥) → r ≡ lowest (cs ++ ds)
first [] ds e h = absurd (h e)
first (c ∷ cs) ds {r = r} e h = go c.1 e (λ f. first cs ds f h)
  where
    go : (b : Bool) → r ≡ cond b c.0 (lowest cs) → (r ≡ lowest cs → r ≡ lowest (cs ++ ds)) → r ≡ cond b c.0 (lowest (cs ++ ds))
    go true e f = e
    go false e f = f e

pub then_under : (n : ℕ) (cs ds : List (ℕ × Bool)) {r : ℕ} → Under n cs → r ≡ lowest cs → r ≡ 0 → lowest ds ≡ lowest (cs ++ ds)
then_under n [] ds g e h = refl
then_under n (c ∷ cs) ds {r = r} g e h = go c.1 e (λ f. then_under n cs ds g.2 f h)
  where
    go : (b : Bool) → r ≡ cond b c.0 (lowest cs) → (r ≡ lowest cs → lowest ds ≡ lowest (cs ++ ds)) → lowest ds ≡ cond b c.0 (lowest (cs ++ ds))
    go true e f = absurd (omega (arith, g.0))
    go false e f = f e

pub then : (cs ds : List (ℕ × Bool)) {r : ℕ} → Early cs → r ≡ lowest cs → r ≡ 0 → lowest ds ≡ lowest (cs ++ ds)
then cs ds g e h = then_under 7 cs ds g e h

pub lowest_under : (n : ℕ) (cs : List (ℕ × Bool)) → 0 < n → Under n cs → lowest cs < n
lowest_under n [] h g = h
lowest_under n (c ∷ cs) h g = go c.1 (lowest_under n cs h g.2)
  where
    go : (b : Bool) → lowest cs < n → cond b c.0 (lowest cs) < n
    go true l = g.1
    go false l = l

pub below_7 : (cs : List (ℕ × Bool)) → Early cs → lowest cs < 7
below_7 cs g = lowest_under 7 cs (omega arith) g

-- ---- what each number leaves
-- by 1 to 6 all is as it was
pub kept : {Out : Type 0} (r n : ℕ) (w : Out) (old : Lent Out) → 0 < r → r < 7 → old ≡ leaves r n w old
unfolding leaves outputs worked
kept r n w old h g = rw (ne_eqb r 0 (λ e. omega arith), ne_eqb r 11 (λ e. omega arith), lt-ltb 0 r h, lt-ltb r 7 g)

pub early : {Out : Type 0} (cs : List (ℕ × Bool)) → Early cs → {r : ℕ} (n : ℕ) (w : Out) (old : Lent Out) → r ≡ lowest cs → (r ≡ 0 → ⊥) →
    old ≡ leaves r n w old
early cs g {r = zero} n w old e h = absurd (h refl)
early cs g {r = suc r} n w old e h = kept (suc r) n w old (omega arith) (omega (arith, below_7 cs g))

-- by 7 to 10 the outputs are as they were, by 0 and 11 what is written; the scratch is cleared
pub late : {Out : Type 0} (r n : ℕ) (w : Out) (old : Lent Out) {s : Scratch} → 7 ≤ r → r < 11 → s ≡ wiped n old.work →
    ◌≡◌ {A = Lent Out} (record { out = old.out; work = s }) (leaves r n w old)
unfolding leaves outputs worked
late r n w old h g e = rw (ne_eqb r 0 (λ e. omega arith), ne_eqb r 11 (λ e. omega arith), lt-ltb 0 r (omega arith), le-ltb r 7 h)
    (λ k. record { out = old.out; work = e k })

pub done : {Out : Type 0} (n : ℕ) (w : Out) (old : Lent Out) {o : Out} {s : Scratch} → o ≡ w → s ≡ wiped n old.work →
    ◌≡◌ {A = Lent Out} (record { out = o; work = s }) (leaves 0 n w old)
unfolding leaves outputs worked
done n w old f e = λ k. record { out = f k; work = e k }

pub blanked : {Out : Type 0} (n : ℕ) (w : Out) (old : Lent Out) {o : Out} {s : Scratch} → o ≡ w → s ≡ wiped n old.work →
    ◌≡◌ {A = Lent Out} (record { out = o; work = s }) (leaves 11 n w old)
unfolding leaves outputs worked
blanked n w old f e = λ k. record { out = f k; work = e k }

-- ---- number 6
pub record Wide (n : ℕ) (s : Scratch) : Type 0 where
  pub in_w1 : n ≤ length s.w1
  pub in_w2 : n ≤ length s.w2
  pub in_w3 : n ≤ length s.w3
  pub in_x : n ≤ length s.x

pub not_narrow : (n : ℕ) (s : Scratch) → narrow n s ≡ false → Wide n s
unfolding narrow
not_narrow n s h =
    let a = or-false (ltb (length s.w1) n || ltb (length s.w2) n || ltb (length s.w3) n) _ h in
    let b = or-false (ltb (length s.w1) n || ltb (length s.w2) n) _ a.0 in
    let c = or-false (ltb (length s.w1) n) _ b.0 in
    record { in_w1 = ltb-false _ _ c.0; in_w2 = ltb-false _ _ c.1; in_w3 = ltb-false _ _ b.1; in_x = ltb-false _ _ a.1 }

-- each slice cleared
pub wiped_each : (n : ℕ) (s : Scratch) {w1 w2 w3 : List ℕ} {x : List Float} → w1 ≡ cleared 0 n s.w1 → w2 ≡ cleared 0 n s.w2 → w3 ≡ cleared 0 n s.w3
    → x ≡ cleared none n s.x → scratch w1 w2 w3 x ≡ wiped n s
unfolding wiped
wiped_each n s a b c d = λ k. record { w1 = a k; w2 = b k; w3 = c k; x = d k }

-- ---- what a number leaves where nothing but the outputs is lent
pub left_alone : {Out : Type 0} (r : ℕ) (w old : Out) → (r ≡ 0 → ⊥) → (r ≡ 11 → ⊥) → old ≡ outputs r w old
unfolding outputs
left_alone r w old g h = rw (ne_eqb r 0 g, ne_eqb r 11 h)

pub left-done : {Out : Type 0} (r : ℕ) (w old : Out) → r ≡ 0 → outputs r w old ≡ w
unfolding outputs
left-done r w old e = rw e

pub left-written : {Out : Type 0} (w old : Out) {new : Out} → new ≡ w → new ≡ outputs 0 w old
unfolding outputs
left-written w old e = e

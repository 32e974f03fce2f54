-- Strictly rising lists, each number once, and what the tests say. Assumes nothing.
use Rattle.std.proofs.Common.{◌≡◌, ℕ, zero, suc, ◌+◌, ◌-◌, ◌<◌, ◌≤◌, Bool, true, false, ◌||◌, eqb, ltb, List, [], ◌∷◌, length, get_or, sym, refl}
use Rattle.std.proofs.Common.{⊎_elim, true≢false, eq-or-lt_of_le, add-one, arith, ltb-true, lt-ltb, eq-eqb, eqb-true}
use mathlib.Core.List.Memᴰ
use mathlib.Core.List.{Memᴰ}
use Rattle.lists.specs.Order.{rises, lists, Rising, flat, step, Once, no_more, one_more}
use Rattle.lists.proofs.Folds.{every-at, every-all}

-- numbers each no larger than the next are no larger than each later one
pub steps-climb : (n : ℕ) (l : List ℕ) → ((r : ℕ) → r < n → get_or l r 0 ≤ get_or l (r + 1) 0) → (a b : ℕ) → a ≤ b → b ≤ n →
    get_or l a 0 ≤ get_or l b 0
steps-climb n l s a zero h g = let e : a ≡ 0 = omega arith in rw e (omega arith)
steps-climb n l s a (suc b) h g =
    let m : get_or l b 0 ≤ get_or l (suc b) 0 = rw add-one at (s b g) in
    ⊎_elim
    (λ (e : a ≡ suc b). rw e (omega arith))
    (λ (o : a < suc b). omega (arith, m, steps-climb n l s a b (omega arith) (omega arith)))
    (eq-or-lt_of_le h)

-- rows that rise are below each later one
pub rises-apart : (l : List ℕ) → rises l ≡ true → (k q : ℕ) → k < q → q < length l → get_or l k 0 < get_or l q 0
unfolding rises
rises-apart l h k zero m n = absurd (omega arith)
rises-apart l h k (suc q) m n =
    let s : get_or l q 0 < get_or l (suc q) 0 = rw add-one at (ltb-true (get_or l q 0) (get_or l (q + 1) 0) (every-at _ _ h q (omega arith))) in
    ⊎_elim
    (λ (e : k ≡ q). rw e s)
    (λ (o : k < q). omega (arith, s, rises-apart l h k q o (omega arith)))
    (eq-or-lt_of_le (omega arith))

-- each below the next, place by place, is the test
pub rises-all : (l : List ℕ) → ((k : ℕ) → suc k < length l → get_or l k 0 < get_or l (suc k) 0) → rises l ≡ true
unfolding rises
rises-all l h = every-all (length l - 1) (λ k. ltb (get_or l k 0) (get_or l (k + 1) 0))
    (λ k m. lt-ltb (get_or l k 0) (get_or l (k + 1) 0) (rw add-one (h k (omega arith))))

-- and the fact the test
first_least : {b : ℕ} {l : List ℕ} → Rising b l → 0 < length l → b ≤ get_or l 0 0
first_least flat h = absurd (omega arith)
first_least (step g r) h = g

pub rising_rises : {b : ℕ} {l : List ℕ} → Rising b l → rises l ≡ true
rising_rises {l = l} r = rises-all l (go r)
  where
    go : {b : ℕ} {l : List ℕ} → Rising b l → (k : ℕ) → suc k < length l → get_or l k 0 < get_or l (suc k) 0
    go flat k m = absurd (omega arith)
    go (step g r) zero m = first_least r (omega arith)
    go (step g r) (suc k) m = go r k (omega arith)

-- every member of a rising list is at least its bound
pub rising_least : {b : ℕ} {l : List ℕ} → Rising b l → {y : ℕ} → Memᴰ y l → b ≤ y
rising_least flat m = absurd (Memᴰ.not-nil m)
rising_least (step g r) m = ⊎_elim (λ e. omega (arith, e)) (λ n. omega (arith, rising_least r n)) (Memᴰ.cases_cons m)

-- a rising list holds each number once
pub rising_once : {b : ℕ} {l : List ℕ} → Rising b l → Once l
rising_once flat = no_more
rising_once (step {x = x} g r) = one_more {x = x} (λ m. omega (arith, rising_least r m)) (rising_once r)

-- ---- membership, tested
pub lists_mean : (x : ℕ) (l : List ℕ) → lists x l ≡ true → Memᴰ x l
unfolding lists
lists_mean x [] h = absurd (true≢false (sym h))
lists_mean x (y ∷ l) h = go (eqb x y) refl h (lists_mean x l)
  where
    go : (b : Bool) → eqb x y ≡ b → (b || lists x l) ≡ true → (lists x l ≡ true → Memᴰ x l) → Memᴰ x (y ∷ l)
    go true e h f = Memᴰ.head (eqb-true x y e)
    go false e h f = Memᴰ.tail (f h)

pub member_lists : (x : ℕ) (l : List ℕ) → Memᴰ x l → lists x l ≡ true
unfolding lists
member_lists x [] m = absurd (Memᴰ.not-nil m)
member_lists x (y ∷ l) m = ⊎_elim (λ (e : x ≡ y). rw (eq-eqb x y e)) (λ n. go (eqb x y) (member_lists x l n)) (Memᴰ.cases_cons m)
  where
    go : (b : Bool) → lists x l ≡ true → (b || lists x l) ≡ true
    go true h = refl
    go false h = h

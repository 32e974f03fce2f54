-- The folds of specs/Folds.antt, one turn more, and the invariants of the loops that compute them. Assumes nothing.
use Rattle.std.proofs.Common.{◌≡◌, ℕ, zero, suc, ◌+◌, ◌-◌, ◌<◌, ◌≤◌, Bool, true, false, cond, not, ◌&&◌, eqb, List, [], ◌∷◌, length, get_or, drop}
use Rattle.std.proofs.Common.{sym, refl, ap, ◌∙◌, ⊎_elim, add-zero, add-suc, eq-or-lt_of_le, add-one, arith, ne_eqb}
use Rattle.lists.specs.Folds.{every, tally, turns, falls, along, over}
use Rattle.lists.proofs.Bools.{and-true, and_none, and-false}
use Rattle.lists.proofs.Parts.{left_at, left-none}

-- ---- every
pub every-all : (n : ℕ) (f : ℕ → Bool) → ((k : ℕ) → k < n → f k ≡ true) → every n f ≡ true
unfolding every
every-all zero f h = refl
every-all (suc n) f h = rw (every-all n f (λ k l. h k (omega arith))) (h n (omega arith))

pub every-at : (n : ℕ) (f : ℕ → Bool) → every n f ≡ true → (k : ℕ) → k < n → f k ≡ true
unfolding every
every-at zero f h k l = absurd (omega arith)
every-at (suc n) f h k l =
    let p = and-true (every n f) (f n) h in
    ⊎_elim (λ (e : k ≡ n). rw e p.1) (λ (m : k < n). every-at n f p.0 k m) (eq-or-lt_of_le (omega arith))

-- ---- tally
pub tally-none : (f : ℕ → Bool) → tally 0 f ≡ 0
unfolding tally
tally-none f = refl

pub tally_holds : (n : ℕ) (f : ℕ → Bool) → f n ≡ true → tally (n + 1) f ≡ tally n f + 1
unfolding tally
tally_holds n f e = rw (add-one, e)

pub tally-fails : (n : ℕ) (f : ℕ → Bool) → f n ≡ false → tally (n + 1) f ≡ tally n f
unfolding tally
tally-fails n f e = rw (add-one, e) (omega arith)

-- no more than there are numbers
pub tally-within : (n : ℕ) (f : ℕ → Bool) → tally n f ≤ n
unfolding tally
tally-within zero f = omega arith
tally-within (suc n) f = omega (arith, tally-within n f, one (f n))
  where
    one : (b : Bool) → cond b 1 0 ≤ 1
    one true = omega arith
    one false = omega arith

-- m numbers after a numbers
pub tally-add : (a m : ℕ) (f : ℕ → Bool) → tally (a + m) f ≡ tally a f + tally m (λ k. f (a + k))
unfolding tally
tally-add a zero f = rw add-zero (omega arith)
tally-add a (suc m) f = rw (add-suc, tally-add a m f) (omega arith)

-- tests that say the same
pub tally-same : (n : ℕ) (f g : ℕ → Bool) → ((k : ℕ) → k < n → f k ≡ g k) → tally n f ≡ tally n g
unfolding tally
tally-same zero f g h = refl
tally-same (suc n) f g h = rw (tally-same n f g (λ k l. h k (omega arith)), h n (omega arith))

-- a test holds nowhere where its contrary holds everywhere
pub tally-every : (n : ℕ) (f g : ℕ → Bool) → ((k : ℕ) → k < n → g k ≡ not (f k)) → eqb (tally n g) 0 ≡ every n f
unfolding tally every
tally-every zero f g h = refl
tally-every (suc n) f g h = rw (h n (omega arith)) (go (f n) (tally n g) (every n f) (tally-every n f g (λ k l. h k (omega arith))))
  where
    go : (b : Bool) (t : ℕ) (e : Bool) → eqb t 0 ≡ e → eqb (t + cond (not b) 1 0) 0 ≡ (e && b)
    go true t e i = let z : t + 0 ≡ t = omega arith in rw (z, i, and_none e)
    go false t e i = rw (ne_eqb (t + 1) 0 (λ z. omega arith), and-false e)

-- ---- turns: the state of a loop that counts up is `turns k f s₀`
module _ {S : Type 0} where
  pub turns-none : (f : ℕ → S → S) (s : S) → s ≡ turns 0 f s
  unfolding turns
  turns-none f s = refl

  pub turns_more : (k : ℕ) (f : ℕ → S → S) (s : S) {x : S} → x ≡ turns k f s → f k x ≡ turns (k + 1) f s
  unfolding turns
  turns_more k f s e = rw (add-one, ← e)

  pub turns-end : (n k : ℕ) (f : ℕ → S → S) (s : S) {x : S} → x ≡ turns k f s → k ≤ n → n ≤ k → x ≡ turns n f s
  turns-end n k f s e p q = let h : k ≡ n = omega arith in rw h at e

  -- m turns after a turns
  pub turns-add : (a m : ℕ) (f : ℕ → S → S) (s : S) → turns m (λ k. f (a + k)) (turns a f s) ≡ turns (a + m) f s
  unfolding turns
  turns-add a zero f s = rw add-zero
  turns-add a (suc m) f s = rw (add-suc, turns-add a m f s)

  -- turns that do the same
  pub turns_same : (m : ℕ) (f g : ℕ → S → S) (s : S) → ((k : ℕ) → k < m → f k ≡ g k) → turns m f s ≡ turns m g s
  unfolding turns
  turns_same zero f g s h = refl
  turns_same (suc m) f g s h = ap (λ (u : S → S). u (turns m f s)) (h m (omega arith)) ∙ ap (g m) (turns_same m f g s (λ k l. h k (omega arith)))

-- ---- falls: the turns that are left at k give, from the s of now, what all give from the first
module _ {S : Type 0} (f : ℕ → S → S) where
  pub record Falls (n : ℕ) (s₀ s : S) (k : ℕ) : Type 0 where
    pub within : k ≤ n
    pub rest : falls n f s₀ ≡ falls k f s

  pub falls-start : (n : ℕ) (s : S) → Falls n s s n
  falls-start n s = record { within = omega arith; rest = refl }

  pub falls-turn : {n : ℕ} {s₀ s t : S} {k : ℕ} → Falls n s₀ s k → 0 < k → t ≡ f (k - 1) s → Falls n s₀ t (k - 1)
  unfolding falls
  falls-turn {s = s} {k = k} v h e = record {
    within = omega (arith, v.within);
    rest = v.rest ∙
        ap (λ (m : ℕ). falls m f s) {x = k} {y = suc (k - 1)} (omega arith) ∙ more (k - 1) ∙ ap (falls (k - 1) f) (sym e);
  }
    where
      more : (m : ℕ) → falls (suc m) f s ≡ falls m f (f m s)
      more m = refl

  pub falls-end : {n : ℕ} {s₀ s : S} {k : ℕ} → Falls n s₀ s k → k ≡ 0 → s ≡ falls n f s₀
  unfolding falls
  falls-end {s = s} {k = k} v h = sym (v.rest ∙ ap (λ (m : ℕ). falls m f s) h ∙ nothing)
    where
      nothing : falls 0 f s ≡ s
      nothing = refl

-- ---- along: what is left of the list at k gives, from the s of now, what the whole gives from the first
module _ {A S : Type 0} (f : A → S → S) (l : List A) where
  pub record Along (s₀ s : S) (k : ℕ) : Type 0 where
    pub within : k ≤ length l
    pub rest : along f l s₀ ≡ along f (drop k l) s

  pub along-start : (s : S) → Along s s 0
  along-start s = record { within = omega arith; rest = refl }

  pub along-turn : {s₀ s t : S} {k : ℕ} (d : A) → Along s₀ s k → k < length l → t ≡ f (get_or l k d) s → Along s₀ t (k + 1)
  unfolding along
  along-turn {s = s} {t = t} {k = k} d v h e =
      let r = v.rest in
      record {
        within = omega arith;
        rest = (rw (left_at l k d h) at r) ∙ more (get_or l k d) (drop (k + 1) l) ∙
            ap (along f (drop (k + 1) l)) (sym e);
      }
    where
      more : (a : A) (m : List A) → along f (a ∷ m) s ≡ along f m (f a s)
      more a m = refl

  pub along-end : {s₀ s : S} {k : ℕ} → Along s₀ s k → length l ≤ k → s ≡ along f l s₀
  unfolding along
  along-end {s = s} {k = k} v h = sym (v.rest ∙ ap (λ (m : List A). along f m s) (left-none l k h) ∙ nothing)
    where
      nothing : along f [] s ≡ s
      nothing = refl

-- ---- over: the same for two lists side by side
pub over_first : {A B S : Type 0} (f : A → B → S → S) (a : A) (b : B) (l : List A) (m : List B) (s : S) → over f (a ∷ l) (b ∷ m) s
    ≡ over f l m (f a b s)
unfolding over
over_first f a b l m s = refl

module _ {A B S : Type 0} (f : A → B → S → S) (l : List A) (m : List B) where
  pub record Over (s₀ s : S) (k : ℕ) : Type 0 where
    pub within : k ≤ length l
    pub rest : over f l m s₀ ≡ over f (drop k l) (drop k m) s

  pub over-start : (s : S) → Over s s 0
  over-start s = record { within = omega arith; rest = refl }

  pub over-turn : {s₀ s t : S} {k : ℕ} (d : A) (e : B) → length m ≡ length l → Over s₀ s k → k < length l → t ≡ f (get_or l k d) (get_or m k e) s →
      Over s₀ t (k + 1)
  unfolding over
  over-turn {s = s} {t = t} {k = k} d e n v h g =
      let r = v.rest in
      record {
        within = omega arith;
        rest = (rw (left_at l k d h, left_at m k e (omega arith)) at r) ∙ more (get_or l k d) (get_or m k e) (drop (k + 1) l) (drop (k + 1) m) ∙
            ap (over f (drop (k + 1) l) (drop (k + 1) m)) (sym g);
      }
    where
      more : (a : A) (b : B) (u : List A) (w : List B) → over f (a ∷ u) (b ∷ w) s ≡ over f u w (f a b s)
      more a b u w = refl

  pub over-end : {s₀ s : S} {k : ℕ} → Over s₀ s k → length l ≤ k → s ≡ over f l m s₀
  unfolding over
  over-end {s = s} {k = k} v h = sym (v.rest ∙ ap (λ (u : List A). over f u (drop k m) s) (left-none l k h) ∙ nothing (drop k m))
    where
      nothing : (w : List B) → over f [] w s ≡ s
      nothing w = refl

-- ---- a loop that looks at every number below n and tells by `bad` whether the test failed at one
pub record Telling (f : ℕ → Bool) (n bad k : ℕ) : Type 0 where
  pub within : k ≤ n
  pub is : bad ≡ cond (every k f) 0 1

module _ (f : ℕ → Bool) where
  pub telling_start : (n : ℕ) → Telling f n 0 0
  unfolding every
  telling_start n = record { within = omega arith; is = refl }

  pub telling_holds : {n bad k : ℕ} → Telling f n bad k → k < n → f k ≡ true → Telling f n bad (k + 1)
  unfolding every
  telling_holds {k = k} v h e = record { within = omega arith; is = rw (add-one, e, and_none (every k f)) v.is }

  pub telling_fails : {n bad k : ℕ} → Telling f n bad k → k < n → f k ≡ false → Telling f n 1 (k + 1)
  unfolding every
  telling_fails {k = k} v h e = record { within = omega arith; is = rw (add-one, e, and-false (every k f)) }

  pub telling_done : {n bad k : ℕ} → Telling f n bad k → n ≤ k → eqb bad 0 ≡ every n f
  telling_done {n = n} {bad = bad} {k = k} v h = let e : k ≡ n = omega (arith, v.within) in rw (v.is, e) (go (every n f))
    where
      go : (b : Bool) → eqb (cond b 0 1) 0 ≡ b
      go true = refl
      go false = refl

-- ---- a loop that looks at every number below n and keeps whether the test has held so far
module _ (f : ℕ → Bool) where
  pub every-turn : {b t : Bool} {k : ℕ} → b ≡ every k f → t ≡ f k → (b && t) ≡ every (k + 1) f
  unfolding every
  every-turn e g = rw (e, g, add-one)

  pub every-end : {b : Bool} {n k : ℕ} → b ≡ every k f → k ≤ n → n ≤ k → b ≡ every n f
  every-end {n = n} {k = k} e p q = let h : k ≡ n = omega arith in rw h at e

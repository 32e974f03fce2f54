-- The numbers at which a test holds, as a list: its members, its length, what is kept of it, a fold along it. Assumes nothing.
use Rattle.std.proofs.Common.{◌≡◌, ℕ, zero, suc, ◌<◌, ◌≤◌, Bool, true, false, cond, ◌&&◌, ◌||◌, List, [], ◌∷◌, ◌++◌, map, length, sym, refl, ap}
use Rattle.std.proofs.Common.{◌∙◌, ⊎_elim, true≢false, append-nil, eq-or-lt_of_le, arith, length-append}
use mathlib.Core.List.{Memᴰ}
use Rattle.lists.specs.Choices.{chosen, some_of, keep}
use Rattle.lists.specs.Folds.{along}
use Rattle.lists.specs.Order.{Rising, flat, step}

-- ---- lists put together
module _ {A S : Type 0} (f : A → S → S) where
  pub along-more : (l : List A) (a : A) (s : S) → along f (l ++ (a ∷ [])) s ≡ f a (along f l s)
  unfolding along
  along-more [] a s = refl
  along-more (x ∷ l) a s = along-more l a (f x s)

module _ {A B : Type 0} (f : A → B) where
  pub map_more : (l : List A) (a : A) → map f (l ++ (a ∷ [])) ≡ map f l ++ (f a ∷ [])
  map_more [] a = refl
  map_more (x ∷ l) a = ap (λ (t : List B). f x ∷ t) (map_more l a)

module _ {A : Type 0} (f : A → Bool) where
  pub some_of-append : (l m : List A) → some_of f (l ++ m) ≡ (some_of f l || some_of f m)
  unfolding some_of
  some_of-append [] m = refl
  some_of-append (x ∷ l) m = go (f x) (some_of-append l m)
    where
      go : (b : Bool) → some_of f (l ++ m) ≡ (some_of f l || some_of f m) → (b || some_of f (l ++ m)) ≡ ((b || some_of f l) || some_of f m)
      go true e = refl
      go false e = e

  pub keep_append : (l m : List A) → keep f (l ++ m) ≡ keep f l ++ keep f m
  unfolding keep
  keep_append [] m = refl
  keep_append (x ∷ l) m = go (f x) (keep_append l m)
    where
      go : (b : Bool) → keep f (l ++ m) ≡ keep f l ++ keep f m → cond b (x ∷ keep f (l ++ m)) (keep f (l ++ m))
          ≡ cond b (x ∷ keep f l) (keep f l) ++ keep f m
      go true e = ap (λ (t : List A). x ∷ t) e
      go false e = e

  -- a test that holds at a member
  pub some_of_member : {x : A} (l : List A) → Memᴰ x l → f x ≡ true → some_of f l ≡ true
  unfolding some_of
  some_of_member [] m h = absurd (mathlib.Core.List.Memᴰ.not-nil m)
  some_of_member {x} (y ∷ l) m h = ⊎_elim (λ (e : x ≡ y). rw (sym (ap f e) ∙ h)) (λ n. go (f y) (some_of_member l n h))
      (mathlib.Core.List.Memᴰ.cases_cons m)
    where
      go : (b : Bool) → some_of f l ≡ true → (b || some_of f l) ≡ true
      go true e = refl
      go false e = e

  pub record One (l : List A) : Type 0 where
    pub at : A
    pub member : Memᴰ at l
    pub holds : f at ≡ true

  pub some_of-find : (l : List A) → some_of f l ≡ true → One l
  unfolding some_of
  some_of-find [] h = absurd (true≢false (sym h))
  some_of-find (x ∷ l) h = go (f x) refl h (some_of-find l)
    where
      go : (b : Bool) → f x ≡ b → (b || some_of f l) ≡ true → (some_of f l ≡ true → One l) → One (x ∷ l)
      go true e h r = record { at = x; member = mathlib.Core.List.Memᴰ.head refl; holds = e }
      go false e h r = let o = r h in record { at = o.at; member = mathlib.Core.List.Memᴰ.tail o.member; holds = o.holds }

-- ---- chosen
pub chosen_alike : (n : ℕ) (f g : ℕ → Bool) → ((k : ℕ) → k < n → f k ≡ g k) → chosen n f ≡ chosen n g
unfolding chosen
chosen_alike zero f g h = refl
chosen_alike (suc n) f g h = rw (chosen_alike n f g (λ k l. h k (omega arith)), h n (omega arith))

pub keep-chosen : (n : ℕ) (f g : ℕ → Bool) → keep f (chosen n g) ≡ chosen n (λ k. g k && f k)
unfolding chosen keep
keep-chosen zero f g = refl
keep-chosen (suc n) f g = keep_append f (chosen n g) (cond (g n) (n ∷ []) []) ∙ ap (λ (t : List ℕ). t ++ keep f (cond (g n) (n ∷ []) []))
    (keep-chosen n f g) ∙ ap (λ (t : List ℕ). chosen n (λ k. g k && f k) ++ t) (go (g n))
  where
    go : (b : Bool) → keep f (cond b (n ∷ []) []) ≡ cond (b && f n) (n ∷ []) []
    go true = refl
    go false = refl

module _ (f : ℕ → Bool) where
  one : (b : Bool) (n : ℕ) → length (cond b (n ∷ []) []) ≤ 1
  one true n = omega arith
  one false n = omega arith

  pub chosen-within : (n : ℕ) → length (chosen n f) ≤ n
  unfolding chosen
  chosen-within zero = omega arith
  chosen-within (suc n) = omega (arith, length-append (chosen n f) (cond (f n) (n ∷ []) []), one (f n) n, chosen-within n)

  pub chosen_grows : (j n : ℕ) → j ≤ n → length (chosen j f) ≤ length (chosen n f)
  unfolding chosen
  chosen_grows j zero h = let e : j ≡ 0 = omega arith in rw e (omega arith)
  chosen_grows j (suc n) h =
      ⊎_elim
      (λ (e : j ≡ suc n). rw e (omega arith))
      (λ (m : j < suc n). omega (arith, length-append (chosen n f) (cond (f n) (n ∷ []) []), chosen_grows j n (omega arith)))
      (eq-or-lt_of_le h)

  -- its members
  pub record Member (n k : ℕ) : Type 0 where
    pub below : k < n
    pub holds : f k ≡ true

  only_one : (b : Bool) (n k : ℕ) → f n ≡ b → Memᴰ k (cond b (n ∷ []) []) → Member (suc n) k
  only_one true n k e m = let q = mathlib.Core.List.Memᴰ.eq_of_singleton m in record { below = omega arith; holds = rw q e }
  only_one false n k e m = absurd (mathlib.Core.List.Memᴰ.not-nil m)

  pub chosen_member : (n k : ℕ) → Memᴰ k (chosen n f) → Member n k
  unfolding chosen
  chosen_member zero k m = absurd (mathlib.Core.List.Memᴰ.not-nil m)
  chosen_member (suc n) k m =
      ⊎_elim
      (λ (l : Memᴰ k (chosen n f)). let r = chosen_member n k l in record { below = omega (arith, r.below); holds = r.holds })
      (λ r. only_one (f n) n k refl r)
      (mathlib.Core.List.Memᴰ.append_cases (chosen n f) m)

  pub member_chosen : (n k : ℕ) → k < n → f k ≡ true → Memᴰ k (chosen n f)
  unfolding chosen
  member_chosen zero k h e = absurd (omega arith)
  member_chosen (suc n) k h e =
      ⊎_elim
      (λ (q : k ≡ n). mathlib.Core.List.Memᴰ.append_right (chosen n f) (here (f n) (sym (ap f q) ∙ e) q))
      (λ (l : k < n). mathlib.Core.List.Memᴰ.append_left (cond (f n) (n ∷ []) []) (member_chosen n k l e))
      (eq-or-lt_of_le (omega arith))
    where
      here : (b : Bool) → b ≡ true → k ≡ n → Memᴰ k (cond b (n ∷ []) [])
      here true t q = mathlib.Core.List.Memᴰ.head q
      here false t q = absurd (true≢false (sym t))

  -- it rises
  put_behind : (l : List ℕ) (b n : ℕ) → Rising b l → ((k : ℕ) → Memᴰ k l → k < n) → b ≤ n → Rising b (l ++ (n ∷ []))
  put_behind [] b n flat h g = step {b = b} {x = n} g flat
  put_behind (x ∷ l) b n (step q r) h g = step {b = b} {x = x} q (put_behind l (suc x) n r (λ k m. h k (mathlib.Core.List.Memᴰ.tail m))
      (h x (mathlib.Core.List.Memᴰ.head refl)))

  pub chosen_rising : (n : ℕ) → Rising 0 (chosen n f)
  unfolding chosen
  chosen_rising zero = flat
  chosen_rising (suc n) = go (f n) (chosen_rising n)
    where
      go : (b : Bool) → Rising 0 (chosen n f) → Rising 0 (chosen n f ++ cond b (n ∷ []) [])
      go true r = put_behind (chosen n f) 0 n r (λ k m. (chosen_member n k m).below) (omega arith)
      go false r = rw (append-nil (chosen n f)) r

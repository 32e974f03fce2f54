-- A column's rows sorted: the same rows, and rising where no row is listed twice. Assumes nothing.
use mathlib.Core.Path.{◌≡◌, refl, ap, ◌∙◌}
use mathlib.Core.Logic.{◌⊎◌, inl, inr}
use mathlib.Core.List.Memᴰ
use mathlib.Core.List.{List, [], ◌∷◌, map, Memᴰ}
use Prim.Native.Nat.{ℕ, zero, suc, ◌≤◌, ◌<◌}
use native.Mathlib.Omega.{arith}
use native.Mathlib.Decide.{dec_le}
use lib.ListN.{length, get_or}
use borrow.Author.Tests.{le-leb, lt-leb}
use Rattle.lists.specs.Order.{Rising, flat, step, Once, no_more, one_more}
use Rattle.cs_tree.specs.Least.{insert, sorted}

insert_low : (x y : ℕ) (ys : List ℕ) → x ≤ y → insert x (y ∷ ys) ≡ x ∷ y ∷ ys
unfolding insert
insert_low x y ys h = rw (le-leb x y h, insert)

insert_high : (x y : ℕ) (ys : List ℕ) → y < x → insert x (y ∷ ys) ≡ y ∷ insert x ys
unfolding insert
insert_high x y ys h = rw (lt-leb x y h, insert)

insert-in : (x z : ℕ) (l : List ℕ) → Memᴰ z (insert x l) → (z ≡ x) ⊎ Memᴰ z l
unfolding insert
insert-in x z [] m = elim (Memᴰ.cases_cons m) [ inl e ↦ inl e | inr t ↦ absurd (Memᴰ.not-nil t) ]
insert-in x z (y ∷ ys) m = go (dec_le x y) (insert-in x z ys)
  where
    go : Dec (x ≤ y) → (Memᴰ z (insert x ys) → (z ≡ x) ⊎ Memᴰ z ys) → (z ≡ x) ⊎ Memᴰ z (y ∷ ys)
    go (yes l) ih = Memᴰ.cases_cons (rw (insert_low x y ys l) at m)
    go (no n) ih = elim (Memᴰ.cases_cons (rw (insert_high x y ys (omega arith)) at m)) [
      | inl e ↦ inr (Memᴰ.head e)
      | inr t ↦ elim (ih t) [ inl e ↦ inl e | inr u ↦ inr (Memᴰ.tail u) ]
    ]

in_insert : (x z : ℕ) (l : List ℕ) → (z ≡ x) ⊎ Memᴰ z l → Memᴰ z (insert x l)
unfolding insert
in_insert x z [] (inl e) = Memᴰ.head e
in_insert x z [] (inr t) = absurd (Memᴰ.not-nil t)
in_insert x z (y ∷ ys) m = go (dec_le x y) m (in_insert x z ys)
  where
    go : Dec (x ≤ y) → (z ≡ x) ⊎ Memᴰ z (y ∷ ys) → ((z ≡ x) ⊎ Memᴰ z ys → Memᴰ z (insert x ys)) → Memᴰ z (insert x (y ∷ ys))
    go (yes l) (inl e) ih = rw (insert_low x y ys l) (Memᴰ.head e)
    go (yes l) (inr t) ih = rw (insert_low x y ys l) (Memᴰ.tail t)
    go (no n) (inl e) ih = rw (insert_high x y ys (omega arith)) (Memᴰ.tail (ih (inl e)))
    go (no n) (inr t) ih = rw (insert_high x y ys (omega arith)) (elim (Memᴰ.cases_cons t) [ inl e ↦ Memᴰ.head e | inr u ↦ Memᴰ.tail (ih (inr u)) ])

pub sorted-in : (z : ℕ) (l : List ℕ) → Memᴰ z (sorted l) → Memᴰ z l
unfolding sorted
sorted-in z [] m = m
sorted-in z (x ∷ xs) m = elim (insert-in x z (sorted xs) m) [ inl e ↦ Memᴰ.head e | inr t ↦ Memᴰ.tail (sorted-in z xs t) ]

pub in-sorted : (z : ℕ) (l : List ℕ) → Memᴰ z l → Memᴰ z (sorted l)
unfolding sorted
in-sorted z [] m = m
in-sorted z (x ∷ xs) m = in_insert x z (sorted xs) (elim (Memᴰ.cases_cons m) [ inl e ↦ inl e | inr t ↦ inr (in-sorted z xs t) ])

insert-rises : {b : ℕ} (x : ℕ) {l : List ℕ} → b ≤ x → ¬ Memᴰ x l → Rising b l → Rising b (insert x l)
unfolding insert
insert-rises {b} x h n flat = step {b = b} {x = x} h flat
insert-rises {b} x h n (step {x = y} {xs = ys} g r) = go (dec_le x y) (λ p. insert-rises x p (λ m. n (Memᴰ.tail m)) r)
  where
    go : Dec (x ≤ y) → (suc y ≤ x → Rising (suc y) (insert x ys)) → Rising b (insert x (y ∷ ys))
    go (yes l) ih =
        let d : x ≡ y → ⊥ = λ e. n (Memᴰ.head e) in
        let s : suc x ≤ y = omega arith in
        rw (insert_low x y ys l) (step {b = b} {x = x} h (step {b = suc x} {x = y} s r))
    go (no m) ih = let p : y < x = omega arith in rw (insert_high x y ys p) (step {b = b} {x = y} g (ih (omega arith)))

pub sorted_rises : {l : List ℕ} → Once l → Rising 0 (sorted l)
unfolding sorted
sorted_rises no_more = flat
sorted_rises (one_more {x = x} {xs = xs} n o) = insert-rises x (omega arith) (λ m. n (sorted-in x xs m)) (sorted_rises o)

length-insert : (x : ℕ) (l : List ℕ) → length (insert x l) ≡ suc (length l)
unfolding insert
length-insert x [] = refl
length-insert x (y ∷ ys) = go (dec_le x y) (length-insert x ys)
  where
    go : Dec (x ≤ y) → length (insert x ys) ≡ suc (length ys) → length (insert x (y ∷ ys)) ≡ suc (suc (length ys))
    go (yes l) ih = rw (insert_low x y ys l)
    go (no n) ih = rw (insert_high x y ys (omega arith)) (ap suc ih)

pub length-sorted : (l : List ℕ) → length (sorted l) ≡ length l
unfolding sorted
length-sorted [] = refl
length-sorted (x ∷ xs) = length-insert x (sorted xs) ∙ ap suc (length-sorted xs)

-- column by column
pub sorted-at : (us : List (List ℕ)) (k : ℕ) → get_or (map sorted us) k [] ≡ sorted (get_or us k [])
unfolding sorted
sorted-at [] k = refl
sorted-at (c ∷ cs) zero = refl
sorted-at (c ∷ cs) (suc k) = sorted-at cs k

pub length_sorts : (us : List (List ℕ)) → length (map sorted us) ≡ length us
length_sorts [] = refl
length_sorts (c ∷ cs) = ap suc (length_sorts cs)

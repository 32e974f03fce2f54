-- Whether a slice starts with a list: by places, by parts, and the loop that tells. Assumes nothing.
use Rattle.std.proofs.Common.{◌≡◌, ℕ, zero, suc, ◌<◌, ◌≤◌, Bool, true, false, ◌&&◌, eqb, List, [], ◌∷◌, ◌++◌, length, get_or, take, sym, refl, ap}
use Rattle.std.proofs.Common.{true≢false, arith, eq-eqb, eqb-true}
use Rattle.lists.specs.Folds.{every}
use Rattle.lists.proofs.Bools.{alike, and-true}
use Rattle.lists.proofs.Folds.{every-all, every-at}
use Rattle.lists.specs.Order.{starts_with}

pub begins : (xs l : List ℕ) → starts_with xs l ≡ true → take (length xs) l ≡ xs
unfolding starts_with
begins [] l h = refl
begins (x ∷ xs) [] h = absurd (true≢false (sym h))
begins (x ∷ xs) (y ∷ l) h =
    let p = and-true (eqb x y) (starts_with xs l) h in
    cons (sym (eqb-true x y p.0)) (begins xs l p.1)
  where
    cons : {x y : ℕ} {l d : List ℕ} → x ≡ y → l ≡ d → x ∷ l ≡ y ∷ d
    cons a b = λ k. a k ∷ b k

pub starts_itself : (xs r : List ℕ) → starts_with xs (xs ++ r) ≡ true
unfolding starts_with
starts_itself [] r = refl
starts_itself (x ∷ xs) r = rw (eq-eqb x x refl) (starts_itself xs r)

pub starts_places : (xs l : List ℕ) → length xs ≤ length l → ((k : ℕ) → k < length xs → get_or xs k 0 ≡ get_or l k 0) → starts_with xs l ≡ true
unfolding starts_with
starts_places [] l h f = refl
starts_places (x ∷ xs) [] h f = absurd (omega arith)
starts_places (x ∷ xs) (y ∷ l) h f = rw (eq-eqb x y (f 0 (omega arith))) (starts_places xs l (omega arith) (λ k m. f (suc k) (omega arith)))

pub starts_long : (xs l : List ℕ) → starts_with xs l ≡ true → length xs ≤ length l
unfolding starts_with
starts_long [] l h = omega arith
starts_long (x ∷ xs) [] h = absurd (true≢false (sym h))
starts_long (x ∷ xs) (y ∷ l) h = omega (arith, starts_long xs l (and-true (eqb x y) (starts_with xs l) h).1)

pub starts-at : (xs l : List ℕ) → starts_with xs l ≡ true → (k : ℕ) → k < length xs → get_or xs k 0 ≡ get_or l k 0
unfolding starts_with
starts-at [] l h k m = absurd (omega arith)
starts-at (x ∷ xs) [] h k m = absurd (true≢false (sym h))
starts-at (x ∷ xs) (y ∷ l) h zero m = eqb-true x y (and-true (eqb x y) (starts_with xs l) h).0
starts-at (x ∷ xs) (y ∷ l) h (suc k) m = starts-at xs l (and-true (eqb x y) (starts_with xs l) h).1 k (omega arith)

-- a short slice
pub starts-short : (xs l : List ℕ) → length l < length xs → false ≡ starts_with xs l
starts-short xs l h = go (starts_with xs l) refl
  where
    go : (b : Bool) → starts_with xs l ≡ b → false ≡ b
    go true e = absurd (omega (arith, starts_long xs l e))
    go false e = refl

-- a place that differs
pub starts-not : (xs l : List ℕ) (k : ℕ) → k < length xs → (get_or xs k 0 ≡ get_or l k 0 → ⊥) → false ≡ starts_with xs l
starts-not xs l k h n = go (starts_with xs l) refl
  where
    go : (b : Bool) → starts_with xs l ≡ b → false ≡ b
    go true e = absurd (n (starts-at xs l e k h))
    go false e = refl

-- what stands behind does not matter
pub starts-take : (xs l : List ℕ) (m : ℕ) → length xs ≤ m → starts_with xs (take m l) ≡ starts_with xs l
unfolding starts_with
starts-take [] l m h = refl
starts-take (x ∷ xs) l zero h = absurd (omega arith)
starts-take (x ∷ xs) [] (suc m) h = refl
starts-take (x ∷ xs) (y ∷ l) (suc m) h = ap (λ (b : Bool). eqb x y && b) (starts-take xs l m (omega arith))

-- ---- `starts_with`: every place is looked at
abbrev pub same_at : List ℕ → List ℕ → ℕ → Bool
same_at a b k = eqb (get_or a k 0) (get_or b k 0)

pub same-told : (a b : List ℕ) → length a ≤ length b → every (length a) (same_at a b) ≡ starts_with a b
same-told a b h =
    alike (every (length a) (same_at a b)) (starts_with a b)
    (λ e. starts_places a b h (λ k m. eqb-true (get_or a k 0) (get_or b k 0) (every-at (length a) (same_at a b) e k m)))
    (λ e. every-all (length a) (same_at a b) (λ k m. eq-eqb (get_or a k 0) (get_or b k 0) (starts-at a b e k m)))

-- Runs: a rising list that is tight is one; a step at each row of a run, each on its own place, is one pass over two parts; and
-- the loop that makes that pass. Assumes nothing.
use Rattle.std.proofs.Common.{◌≡◌, ℕ, zero, suc, ◌+◌, ◌-◌, ◌<◌, ◌≤◌, min, true, false, eqb, ltb, ◌⊎◌, List, [], ◌∷◌, ◌++◌, length, get_or, take}
use Rattle.std.proofs.Common.{drop, set, sym, refl, ap, ◌∙◌, ⊎_elim, append_assoc, add-one, arith, length-append, length-drop, take-append-drop}
use Rattle.std.proofs.Common.{length-take-le, get_or-drop, take_all, ltb-true, lt-ltb, eqb-true}
use lib.Seq.{set_at, get_or_at}
use Rattle.lists.specs.Calls.{onto}
use Rattle.lists.specs.Folds.{over}
use Rattle.lists.specs.Order.{rises}
use Rattle.lists.specs.Parts.{part, placed}
use Rattle.lists.specs.Runs.{run, tight, zipped}
use Rattle.lists.specs.Tables.{from}
use Rattle.lists.proofs.Bools.{and-true, le-or-lt}
use Rattle.lists.proofs.Ordering.{rises-apart, rises-all}
use Rattle.lists.proofs.Parts.{length_part, get_d_part}

-- ---- what is left of a rising list rises, and so does a part of a list that rises there
pub rises-drop : (m : ℕ) (l : List ℕ) → rises l ≡ true → rises (drop m l) ≡ true
rises-drop m l h =
    rises-all (drop m l)
    (λ k g. (let e : m + suc k ≡ suc (m + k) = omega arith in
    rw (get_or-drop m l k 0, get_or-drop m l (suc k) 0, e)
    (rises-apart l h (m + k) (suc (m + k)) (omega arith) (omega (arith, length-drop m l)))))

pub rises-part : (a b : ℕ) (l : List ℕ) → b ≤ length l → ((y z : ℕ) → a ≤ y → y < z → z < b → get_or l y 0 < get_or l z 0) → rises (part a b l) ≡ true
rises-part a b l h f =
    rises-all (part a b l)
    (λ k g. (let n = length_part a b l h in rw (get_d_part a b l k 0 (omega arith), get_d_part a b l (suc k) 0 (omega arith))
    (f (a + k) (a + suc k) (omega arith) (omega arith) (omega arith))))

-- ---- which lists are runs
-- d places on, a rising list is higher by d at least
climbs : (l : List ℕ) → rises l ≡ true → (k d : ℕ) → k + d < length l → get_or l k 0 + d ≤ get_or l (k + d) 0
climbs l h k zero m = let e : k + 0 ≡ k = omega arith in rw e (omega arith)
climbs l h k (suc d) m =
    let e : k + suc d ≡ suc (k + d) = omega arith in
    rw e (omega (arith, climbs l h k d (omega arith), rises-apart l h (k + d) (suc (k + d)) (omega arith) (omega arith)))

run_is : (l : List ℕ) (r : ℕ) → ((k : ℕ) → k < length l → get_or l k 0 ≡ r + k) → l ≡ run r (length l)
unfolding from
run_is [] r h = refl
run_is (x ∷ l) r h =
    let e : x ≡ r = h 0 (omega arith) ∙ omega arith in
    rw e (ap (λ (t : List ℕ). r ∷ t) (run_is l (suc r) (λ k m. h (suc k) (omega arith) ∙ omega arith)))

module _ (l : List ℕ) (h : rises l ≡ true) (t : tight l ≡ true) where
  some : 0 < length l
  unfolding tight
  some = ltb-true 0 (length l) (and-true (ltb 0 (length l)) (eqb (get_or l (length l - 1) 0 + 1) (get_or l 0 0 + length l)) t).0

  last : get_or l (length l - 1) 0 + 1 ≡ get_or l 0 0 + length l
  unfolding tight
  last = eqb-true (get_or l (length l - 1) 0 + 1) (get_or l 0 0 + length l)
      (and-true (ltb 0 (length l)) (eqb (get_or l (length l - 1) 0 + 1) (get_or l 0 0 + length l)) t).1

  at : (k : ℕ) → k < length l → get_or l k 0 ≡ get_or l 0 0 + k
  at k m =
      let d = length l - 1 - k in
      let e : k + d ≡ length l - 1 = omega arith in
      let z : 0 + k ≡ k = omega arith in
      let a : get_or l 0 0 + k ≤ get_or l k 0 = rw z at (climbs l h 0 k (omega arith)) in
      let b : get_or l k 0 + d ≤ get_or l (length l - 1) 0 = rw e at (climbs l h k d (omega arith)) in
      omega (arith, last)

  pub tight-run : l ≡ run (get_or l 0 0) (length l)
  tight-run = run_is l (get_or l 0 0) at

  -- as far as its last goes
  pub tight-within : (n : ℕ) → ((q : ℕ) → q < length l → get_or l q 0 < n) → get_or l 0 0 + length l ≤ n
  tight-within n b = omega (arith, last, some, b (length l - 1) (omega (arith, some)))

-- ---- `tight`
pub tight-none : (l : List ℕ) → length l ≡ 0 → false ≡ tight l
unfolding tight
tight-none l e = rw e

pub tight-told : (l : List ℕ) → (length l ≡ 0 → ⊥) → {a b : ℕ} → a ≡ get_or l (length l - 1) 0 → b ≡ get_or l 0 0 → eqb (a + 1) (b + length l)
    ≡ tight l
unfolding tight
tight-told l n e f = rw (lt-ltb 0 (length l) (omega (arith, n)), e, f)

-- ---- two lists side by side
module _ {A B : Type 0} (op : A → B → A) where
  zipped-none : (xs : List A) → zipped op xs [] ≡ xs
  unfolding zipped
  zipped-none [] = refl
  zipped-none (x ∷ xs) = refl

  pub length-zipped : (xs : List A) (vs : List B) → length (zipped op xs vs) ≡ length xs
  unfolding zipped
  length-zipped [] vs = refl
  length-zipped (x ∷ xs) [] = refl
  length-zipped (x ∷ xs) (v ∷ vs) = ap suc (length-zipped xs vs)

  -- only as many elements change as there are values
  zipped-front : (n : ℕ) (xs : List A) (vs : List B) → length vs ≡ n → zipped op xs vs ≡ zipped op (take n xs) vs ++ drop n xs
  unfolding zipped
  zipped-front zero xs [] e = zipped-none xs
  zipped-front (suc n) xs [] e = absurd (omega arith)
  zipped-front zero xs (v ∷ vs) e = absurd (omega arith)
  zipped-front (suc n) [] (v ∷ vs) e = refl
  zipped-front (suc n) (x ∷ xs) (v ∷ vs) e = ap (λ (t : List A). op x v ∷ t) (zipped-front n xs vs (omega arith))

  -- the element at k is still what it was when its value comes
  zipped-more : (d : A) (e : B) (k : ℕ) (xs : List A) (vs : List B) → k < length xs → k < length vs
      → set (zipped op xs (take k vs)) k (op (get_or (zipped op xs (take k vs)) k d) (get_or vs k e)) ≡ zipped op xs (take (suc k) vs)
  unfolding zipped
  zipped-more d e k [] vs h g = absurd (omega arith)
  zipped-more d e k (x ∷ xs) [] h g = absurd (omega arith)
  zipped-more d e zero (x ∷ xs) (v ∷ vs) h g = ap (λ (t : List A). op x v ∷ t) (sym (zipped-none xs))
  zipped-more d e (suc k) (x ∷ xs) (v ∷ vs) h g = ap (λ (t : List A). op x v ∷ t) (zipped-more d e k xs vs (omega arith) (omega arith))

  -- values past the last element change nothing
  zipped_past : (k : ℕ) (xs : List A) (vs : List B) → length xs ≤ k → zipped op xs (take k vs) ≡ zipped op xs vs
  unfolding zipped
  zipped_past k [] vs h = refl
  zipped_past zero (x ∷ xs) vs h = absurd (omega arith)
  zipped_past (suc k) (x ∷ xs) [] h = refl
  zipped_past (suc k) (x ∷ xs) (v ∷ vs) h = ap (λ (t : List A). op x v ∷ t) (zipped_past k xs vs (omega arith))

  -- ---- the loop over the n places that both have: y is done as far as the first k values go
  pub record Zipping (vs : List B) (y₀ : List A) (n : ℕ) (y : List A) (k : ℕ) : Type 0 where
    pub most : n ≡ min (length vs) (length y₀)
    pub is : y ≡ zipped op y₀ (take k vs)

  pub zipping_start : {vs : List B} {y : List A} {n : ℕ} → n ≡ min (length vs) (length y) → Zipping vs y n y 0
  zipping_start {y = y} e = record { most = e; is = sym (zipped-none y) }

  module _ {vs : List B} {y₀ : List A} {n : ℕ} {y : List A} {k : ℕ} (w : Zipping vs y₀ n y k) where
    pub zipping_long : length y ≡ length y₀
    zipping_long = ap length w.is ∙ length-zipped y₀ (take k vs)

    pub zipping_value : k < n → k < length vs
    zipping_value h = omega (arith, w.most)

    pub zipping_place : k < n → k < length y
    zipping_place h = omega (arith, w.most, zipping_long)

    pub zipping_turn : (a : A) (b : B) → k < n → Zipping vs y₀ n (set y k (op (get_or y k a) (get_or vs k b))) (k + 1)
    zipping_turn a b h = record { most = w.most; is = rw (w.is, add-one) (zipped-more a b k y₀ vs (omega (arith, w.most)) (omega (arith, w.most))) }

    pub zipping_done : n ≤ k → y ≡ zipped op y₀ vs
    zipping_done h = w.is ∙ either (le-or-lt (length vs) (length y₀))
      where
        either : (length vs ≤ length y₀) ⊎ (length y₀ < length vs) → zipped op y₀ (take k vs) ≡ zipped op y₀ vs
        either = ⊎_elim (λ (l : length vs ≤ length y₀). ap (zipped op y₀) (take_all k vs (omega (arith, w.most))))
            (λ (l : length y₀ < length vs). zipped_past k y₀ vs (omega (arith, w.most)))

module _ {A : Type 0} where
  -- a copy
  pub zipped-values : (xs vs : List A) → length vs ≤ length xs → zipped (λ _ v. v) xs vs ≡ onto xs vs
  unfolding zipped onto
  zipped-values xs [] h = zipped-none (λ _ v. v) xs
  zipped-values [] (v ∷ vs) h = absurd (omega arith)
  zipped-values (x ∷ xs) (v ∷ vs) h = ap (λ (t : List A). v ∷ t) (zipped-values xs vs (omega arith))

  -- the n elements that both have, and behind them what was there
  pub zipped-front_copied : (n : ℕ) (xs vs : List A) → n ≡ min (length vs) (length xs) → take n vs ++ drop n xs ≡ zipped (λ _ v. v) xs vs
  unfolding zipped
  zipped-front_copied n [] vs e = let z : n ≡ 0 = omega arith in rw z (sym (none vs))
    where
      none : (vs : List A) → zipped (λ (_ v : A). v) [] vs ≡ []
      none [] = refl
      none (v ∷ vs) = refl
  zipped-front_copied n (x ∷ xs) [] e = let z : n ≡ 0 = omega arith in rw z refl
  zipped-front_copied zero (x ∷ xs) (v ∷ vs) e = absurd (omega arith)
  zipped-front_copied (suc n) (x ∷ xs) (v ∷ vs) e = ap (λ (t : List A). v ∷ t) (zipped-front_copied n xs vs (omega arith))

-- ---- a step at each row of a run
module _ {A B : Type 0} (op : A → B → A) (d : A) (step : ℕ → B → List A → List A) where
  -- from row r on, the step at row z makes x(z) what op gives
  abbrev pub Steps : ℕ → Type 0
  Steps r = (z : ℕ) (v : B) (x : List A) → r ≤ z → step z v x ≡ set x z (op (get_or x z d) v)

  -- behind a front g
  over_behind : (vs : List B) (r : ℕ) → Steps r → (g y : List A) → length g ≡ r → length vs ≤ length y → over step (run r (length vs)) vs (g ++ y)
      ≡ g ++ zipped op y vs
  unfolding over from zipped
  over_behind [] r s g y e m = ap (λ (t : List A). g ++ t) (sym (zipped-none op y))
  over_behind (v ∷ vs) r s g [] e m = absurd (omega arith)
  over_behind (v ∷ vs) r s g (a ∷ y) e m =
      let one : step r v (g ++ (a ∷ y)) ≡ (g ++ (op a v ∷ [])) ++ y = s r v (g ++ (a ∷ y)) (omega arith) ∙
      (rw (get_or_at g a y d r e) (set_at g a y (op a v) r e)) ∙ sym (append_assoc g (op a v ∷ []) y) in
      ap (over step (run (suc r) (length vs)) vs) one
      ∙ over_behind vs (suc r) (λ z w x l. s z w x (omega arith)) (g ++ (op a v ∷ [])) y (omega (arith, length-append g (op a v ∷ []))) (omega arith)
      ∙ append_assoc g (op a v ∷ []) (zipped op y vs)

  -- over a run of rows, from r to e: the part there, side by side with the values
  pub over-run : (r e : ℕ) → Steps r → (vs : List B) (x : List A) → e ≡ r + length vs → e ≤ length x → over step (run r (length vs)) vs x
      ≡ placed r e x (zipped op (part r e x) vs)
  over-run r e s vs x f m =
      let n : length vs ≡ e - r = omega arith in
      ap (over step (run r (length vs)) vs) (sym (take-append-drop r x))
      ∙ over_behind vs r s (take r x) (drop r x) (length-take-le r x (omega arith)) (omega (arith, length-drop r x))
      ∙ ap (λ (t : List A). take r x ++ t) (zipped-front op (e - r) (drop r x) vs n)

  -- the same over rows that rise and are tight, once the part has come back
  pub over-tight : (rows : List ℕ) → rises rows ≡ true → tight rows ≡ true → (r e : ℕ) → r ≡ get_or rows 0 0 → Steps r → (vs : List B) →
      length vs ≡ length rows → (x : List A) → e ≡ r + length vs
      → e ≤ length x → {y : List A} → y ≡ zipped op (part r e x) vs → placed r e x y ≡ over step rows vs x
  over-tight rows h t r e f s vs n x i m {y} q =
      ap (placed r e x) q
      ∙ sym (over-run r e s vs x i m)
      ∙ ap (λ (l : List ℕ). over step l vs x) (rw (f, n) (sym (tight-run rows h t)))

-- Every column rises where all falls stand at starts of columns: falls are counted over the whole list, those at starts apart,
-- and the rest are inside columns. Assumes nothing.
use mathlib.Core.Path.{◌≡◌, refl, sym, ap, ◌∙◌}
use mathlib.Core.Bool.{Bool, true, false, not, cond, ◌&&◌}
use mathlib.Core.List.{List}
use mathlib.Core.Logic.{⊎_elim}
use Prim.Native.Nat.{ℕ, zero, suc, ◌+◌, ◌-◌, ◌≤◌, ◌<◌}
use native.Mathlib.Nat.{eq-or-lt_of_le}
use native.Mathlib.Numerals.{add-one}
use native.Mathlib.Omega.{arith}
use lib.Dec.{leb, ltb, eqb}
use lib.ListN.{length, get_or}
use borrow.Author.Tests.{eq-eqb, ne_eqb, le-leb, lt-leb, le-ltb, lt-ltb}
use Rattle.lists.specs.Folds.{tally, every}
use Rattle.lists.specs.Order.{rises}
use Rattle.lists.proofs.Bools.{le-or-lt}
use Rattle.lists.proofs.Folds.{tally-none, tally_holds, tally-fails, tally-within, tally-add, tally-same, tally-every}
use Rattle.cs_matrix.specs.Falls.{falls_at, fallen, start_falls, starts_fallen, Parted}
use Rattle.cs_matrix.specs.Matrix.{column, columns_rise}
use Rattle.cs_matrix.proofs.Pointers.{at_most, last-at, length-column, get_or-column}

-- a list rises where it has no fall
contrary : (x y : ℕ) → leb y x ≡ not (ltb x y)
contrary x y = ⊎_elim (λ (h : y ≤ x). rw (le-leb y x h, le-ltb x y h)) (λ (h : x < y). rw (lt-leb y x h, lt-ltb x y h)) (le-or-lt y x)

rises-count : (l : List ℕ) → eqb (fallen l) 0 ≡ rises l
unfolding fallen rises
rises-count l = tally-every (length l - 1) (λ k. ltb (get_or l k 0) (get_or l (k + 1) 0)) (falls_at l)
    (λ k h. contrary (get_or l k 0) (get_or l (k + 1) 0))

pub risen : (l : List ℕ) {n : ℕ} → n ≡ fallen l → n ≡ 0 → rises l ≡ true
risen l e h = sym (rises-count l) ∙ eq-eqb (fallen l) 0 (sym e ∙ h)

pub not_risen : (l : List ℕ) {n : ℕ} → n ≡ fallen l → (n ≡ 0 → ⊥) → rises l ≡ false
not_risen l e h = sym (rises-count l) ∙ ne_eqb (fallen l) 0 (λ z. h (e ∙ z))

-- ---- the loop that counts where a test holds
pub record Counting (f : ℕ → Bool) (n c k : ℕ) : Type 0 where
  pub within : k ≤ n
  pub is : c ≡ tally k f

module _ (f : ℕ → Bool) where
  pub counting_start : (n : ℕ) → Counting f n 0 0
  counting_start n = record { within = omega arith; is = sym (tally-none f) }

  pub counting_holds : {n c k : ℕ} → Counting f n c k → k < n → f k ≡ true → Counting f n (c + 1) (k + 1)
  counting_holds {k = k} v h e = record { within = omega arith; is = omega (arith, v.is, tally_holds k f e) }

  pub counting_fails : {n c k : ℕ} → Counting f n c k → k < n → f k ≡ false → Counting f n c (k + 1)
  counting_fails {k = k} v h e = record { within = omega arith; is = v.is ∙ sym (tally-fails k f e) }

  pub counting_most : {n c k : ℕ} → Counting f n c k → c ≤ n
  counting_most {k = k} v = omega (arith, v.is, v.within, tally-within k f)

  pub counting_done : {n c k : ℕ} → Counting f n c k → n ≤ k → c ≡ tally n f
  counting_done {n = n} {k = k} v h = let e : k ≡ n = omega (arith, v.within) in v.is ∙ ap (λ (m : ℕ). tally m f) e

-- ---- the first row of a column, test by test
pub start_first : (i : List ℕ) (a e : ℕ) → a ≡ 0 → false ≡ start_falls i a e
unfolding start_falls
start_first i a e h = rw (eq-eqb a 0 h)

pub start-empty : (i : List ℕ) (a e : ℕ) → (a ≡ 0 → ⊥) → e ≤ a → false ≡ start_falls i a e
unfolding start_falls
start-empty i a e g h = rw (ne_eqb a 0 g, le-leb e a h)

pub start_test : (i : List ℕ) (a e : ℕ) → (a ≡ 0 → ⊥) → a < e → leb (get_or i a 0) (get_or i (a - 1) 0) ≡ start_falls i a e
unfolding start_falls
start_test i a e g h = rw (ne_eqb a 0 g, lt-leb e a h)

tally-suc : (n : ℕ) (f : ℕ → Bool) → tally (suc n) f ≡ tally n f + cond (f n) 1 0
unfolding tally
tally-suc n f = refl

-- ---- the falls among the first e entries: those among the first a, one at a, those from a to e
module _ (i : List ℕ) where
  inside : ℕ → ℕ → ℕ
  inside a e = tally (e - a - 1) (λ k. falls_at i (a + k))

  parts : (a e : ℕ) → a ≤ e → tally (e - 1) (falls_at i) ≡ tally (a - 1) (falls_at i) + cond (start_falls i a e) 1 0 + inside a e
  unfolding inside
  parts zero e h =
      let s = start_first i 0 e refl in
      let z : e - 0 - 1 ≡ e - 1 = omega arith in
      rw (← s, z) (omega (
        arith,
        tally-none (falls_at i),
        tally-same (e - 1) (λ k. falls_at i (0 + k)) (falls_at i)
            (λ k l. ap (falls_at i) (omega arith)),
      ))
  parts (suc a) e h = ⊎_elim same more (eq-or-lt_of_le h)
    where
      same : suc a ≡ e → tally (e - 1) (falls_at i) ≡ tally (suc a - 1) (falls_at i) + cond (start_falls i (suc a) e) 1 0 + tally (e - suc a - 1)
          (λ k. falls_at i (suc a + k))
      same f =
          let s = start-empty i (suc a) e (λ z. omega arith) (omega arith) in
          let z : e - suc a - 1 ≡ 0 = omega arith in
          let y : suc a - 1 ≡ e - 1 = omega arith in
          rw (← s, z, y) (omega (arith, tally-none (λ k. falls_at i (suc a + k))))

      more : suc a < e → tally (e - 1) (falls_at i) ≡ tally (suc a - 1) (falls_at i) + cond (start_falls i (suc a) e) 1 0 + tally (e - suc a - 1)
          (λ k. falls_at i (suc a + k))
      more f =
          let y : suc a - 1 ≡ a = omega arith in
          let s = start_test i (suc a) e (λ z. omega arith) f in
          let w : leb (get_or i (suc a) 0) (get_or i (suc a - 1) 0) ≡ falls_at i a = rw (y, add-one) in
          let x : suc a + (e - suc a - 1) ≡ e - 1 = omega arith in
          let t = rw x at (tally-add (suc a) (e - suc a - 1) (falls_at i)) in
          rw (← s, w, y, t, tally-suc a (falls_at i))

  -- those from a to e are the column's own
  inside_is : (p : List ℕ) (j : ℕ) → get_or p (j + 1) 0 ≤ length i → inside (get_or p j 0) (get_or p (j + 1) 0) ≡ fallen (column p j i)
  unfolding inside fallen
  inside_is p j h =
      let n = length-column p j i h in
      rw n (tally-same (get_or p (j + 1) 0 - get_or p j 0 - 1) (λ k. falls_at i (get_or p j 0 + k)) (falls_at (column p j i)) (λ k l. same k l))
    where
      same : (k : ℕ) → k < get_or p (j + 1) 0 - get_or p j 0 - 1 → falls_at i (get_or p j 0 + k) ≡ falls_at (column p j i) k
      same k l =
          let e : get_or p j 0 + (k + 1) ≡ get_or p j 0 + k + 1 = omega arith in
          rw (get_or-column p j i k 0 (omega arith), get_or-column p j i (k + 1) 0 (omega arith), e)

-- ---- column by column
module _ {ncols : ℕ} {p i : List ℕ} (v : Parted ncols p i) where
  -- the falls inside the first m columns
  within : ℕ → ℕ
  within zero = 0
  within (suc m) = within m + fallen (column p m i)

  all-falls : (m : ℕ) → m ≤ ncols → tally (get_or p m 0 - 1) (falls_at i) ≡ starts_fallen m p i + within m
  unfolding starts_fallen within
  all-falls zero h =
      let z : get_or p 0 0 - 1 ≡ 0 = omega (arith, v.ptrs.first) in
      rw z (omega (arith, tally-none (falls_at i), tally-none (λ j. start_falls i (get_or p j 0) (get_or p (j + 1) 0))))
  all-falls (suc m) h =
      let e : get_or p (suc m) 0 ≡ get_or p (m + 1) 0 = rw add-one in
      let x = parts i (get_or p m 0) (get_or p (m + 1) 0) (v.ptrs.climbs m (omega (arith, v.p_long))) in
      let y = inside_is i p m (at_most v.ptrs (m + 1) (omega (arith, v.p_long))) in
      rw (e, tally-suc m (λ j. start_falls i (get_or p j 0) (get_or p (j + 1) 0))) (omega (arith, x, y, all-falls m (omega arith)))

  none_within : (m : ℕ) → eqb (within m) 0 ≡ every m (λ j. rises (column p j i))
  unfolding within every
  none_within zero = refl
  none_within (suc m) = go (within m) (fallen (column p m i)) (every m (λ j. rises (column p j i))) (rises (column p m i)) (none_within m)
      (rises-count (column p m i))
    where
      go : (x y : ℕ) (b c : Bool) → eqb x 0 ≡ b → eqb y 0 ≡ c → eqb (x + y) 0 ≡ (b && c)
      go zero zero b c e f = rw (← e, ← f)
      go zero (suc y) b c e f = rw (← e, ← f, ne_eqb (0 + suc y) 0 (λ z. omega arith), ne_eqb (suc y) 0 (λ z. omega arith))
      go (suc x) y b c e f = rw (← e, ne_eqb (suc x + y) 0 (λ z. omega arith), ne_eqb (suc x) 0 (λ z. omega arith))

  pub rise_count : (nrows : ℕ) → eqb (fallen i) (starts_fallen ncols p i) ≡ columns_rise (record { nrows = nrows; ncols = ncols; p = p; i = i })
  unfolding fallen columns_rise
  rise_count nrows =
      let e = rw (last-at v.ptrs ncols v.p_long) at (all-falls ncols (omega arith)) in
      rw e (go (starts_fallen ncols p i) (within ncols)) ∙ none_within ncols
    where
      go : (x y : ℕ) → eqb (x + y) x ≡ eqb y 0
      go x zero = rw (eq-eqb (x + 0) x (omega arith))
      go x (suc y) = rw (ne_eqb (x + suc y) x (λ z. omega arith), ne_eqb (suc y) 0 (λ z. omega arith))

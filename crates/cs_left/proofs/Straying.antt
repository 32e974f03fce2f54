-- The loops of src/stray.rt. Assumes nothing.
use mathlib.Core.Path.{◌≡◌, refl, sym, ap, ◌∙◌}
use mathlib.Core.Bool.{Bool, true, false, not, cond, ◌&&◌, ◌||◌}
use mathlib.Core.List.{List, [], ◌∷◌, ◌++◌, Memᴰ}
use mathlib.Core.Logic.{◌⊎◌, inl, inr, ⊎_elim}
use Prim.Native.Nat.{ℕ, zero, suc, ◌+◌, ◌-◌, ◌≤◌, ◌<◌}
use native.Mathlib.Omega.{arith}
use lib.Dec.{ltb, eqb}
use lib.ListN.{length, get_or, drop}
use lib.Seq.{drop-drop}
use borrow.Author.Tests.{lt-ltb, le-ltb, eqb-true, eqb-false}
use Rattle.std.specs.List.{list_any, range_with_len}
use Rattle.std.proofs.lemmas.List.{get_or-drop, length-drop}
use Rattle.std.proofs.Math.Bool.{or_assoc, or-false}
use Rattle.lists.specs.Choices.{some_of, some, chosen}
use Rattle.lists.specs.Order.{lists, rises}
use Rattle.lists.proofs.Bools.{le-or-lt, and-false}
use Rattle.lists.proofs.Members.{listed-or-not}
use Rattle.lists.proofs.Ordering.{rises-apart, member_lists}
use Rattle.lists.proofs.Parts.{left_at, left-none}
use Rattle.cs_matrix.specs.Matrix.{pattern, column}
use Rattle.cs_tree.specs.Pattern.{analysis}
use Rattle.lists.proofs.Spots.{Spot, spot, member_at}
use Rattle.cs_matrix.proofs.Pointers.{length-column, get_or-column}
use Rattle.cs_left.specs.Steps.{stray_in, Within, Rises, Seeks}

-- ---- `stray`: rows before q are no strays, and all that is held before `at` is below the rows from q on
pub record Straying (k : ℕ) (rows held : List ℕ) (q at : ℕ) : Type 0 where
  pub rows_rise : rises rows ≡ true
  pub held_rise : rises held ≡ true
  pub in_rows : q ≤ length rows
  pub in_held : at ≤ length held
  pub rest : stray_in k held rows ≡ stray_in k held (drop q rows)
  pub passed : (h r : ℕ) → h < at → q ≤ r → r < length rows → get_or held h 0 < get_or rows r 0

module _ {k : ℕ} {rows held : List ℕ} {q at : ℕ} (w : Straying k rows held q at) where
  module _ (h : q < length rows) {row : ℕ} (e : row ≡ get_or rows q 0) where
    here : stray_in k held rows ≡ ((ltb k row && not (lists row held)) || stray_in k held (drop (q + 1) rows))
    unfolding stray_in some_of
    here = w.rest ∙ ap (stray_in k held) (left_at rows q 0 h) ∙ (rw (← e) refl)

    -- a row at or above k is none
    pub straying_pass : row ≤ k → Straying k rows held (q + 1) at
    straying_pass g =
        record {
          rows_rise = w.rows_rise;
          held_rise = w.held_rise;
          in_rows = omega arith;
          in_held = w.in_held;
          rest = here ∙ (rw (le-ltb k row g) refl);
          passed = λ a r i j m. w.passed a r i (omega arith) m;
        }

    -- a row that is not held from `at` on is a stray
    pub straying_absent : k < row → ((b : ℕ) → at ≤ b → b < length held → get_or held b 0 ≡ row → ⊥) → true ≡ stray_in k held rows
    straying_absent g f = sym (here ∙ (rw (lt-ltb k row g, absent) refl))
      where
        no : Spot held row → ⊥
        no a =
            ⊎_elim (λ (z : at ≤ a.at). f a.at z a.inside a.is)
            (λ (z : a.at < at). omega (arith, w.passed a.at q z (omega arith) h, a.is)) (le-or-lt at a.at)

        absent : lists row held ≡ false
        absent = ⊎_elim (λ y. absurd (no (spot y.1))) (λ y. y.0) (listed-or-not row held)

    -- a row that is held at b is none, and all that is held up to b is below the rows behind it
    pub straying_found : (b : ℕ) → at ≤ b → b < length held → get_or held b 0 ≡ row → Straying k rows held (q + 1) (b + 1)
    straying_found b a l g = record {
      rows_rise = w.rows_rise;
      held_rise = w.held_rise;
      in_rows = omega arith;
      in_held = omega arith;
      rest = here ∙ (rw (listed, and-false (ltb k row)) refl);
      passed = λ c r i j m. ⊎_elim (λ (z : b ≤ c). (let y : c ≡ b = omega arith in
          omega (arith, g, ap (λ (u : ℕ). get_or held u 0) y, rises-apart rows w.rows_rise q r (omega arith) m)))
          (λ (z : c < b). omega (arith, g, rises-apart held w.held_rise c b z l, rises-apart rows w.rows_rise q r (omega arith) m)) (le-or-lt b c);
    }
      where
        listed : lists row held ≡ true
        listed = member_lists row held (rw (← g) (member_at held b l))

  pub straying_end : length rows ≤ q → false ≡ stray_in k held rows
  unfolding stray_in some_of
  straying_end h = sym (w.rest ∙ ap (stray_in k held) (left-none rows q h))

-- what a search leaves of the rows held from `at` on, R
module _ (held : List ℕ) (at : ℕ) {R : List ℕ} {row : ℕ} (e : R ≡ drop at held) where
  pub left_none : ((i : ℕ) → i < length R → eqb (get_or R i 0) row ≡ false) → (b : ℕ) → at ≤ b → b < length held → get_or held b 0 ≡ row → ⊥
  left_none f b a l g = eqb-false (get_or R (b - at) 0) row (f (b - at) (omega (arith, ap length e, length-drop at held)))
      (ap (λ (k : List ℕ). get_or k (b - at) 0) e ∙ get_or-drop at held (b - at) 0 ∙ ap (λ (k : ℕ). get_or held k 0) (omega arith) ∙ g)

  pub left_found : {m : ℕ} {T : List ℕ} → m < length R → eqb (get_or R m 0) row ≡ true → T ≡ drop (m + 1) R →
      (at + m < length held) × (get_or held (at + m) 0 ≡ row) × (T ≡ drop (at + m + 1) held)
  left_found {m} h t g =
      let l : at + m < length held = omega (arith, ap length e, length-drop at held) in
      let y : get_or R m 0 ≡ get_or held (at + m) 0 = ap (λ (k : List ℕ). get_or k m 0) e ∙ get_or-drop at held m 0 in (
        l,
        sym y ∙ eqb-true (get_or R m 0) row t,
        g ∙ ap (drop (m + 1)) e ∙ drop-drop (m + 1) at held ∙ ap (λ (k : ℕ). drop k held) (omega arith),
      )

-- ---- `strays`
pub stray_asks : {n k : ℕ} {p i lp li rows held : List ℕ} → rows ≡ column p k i → held ≡ column lp k li → Rises n p i × Rises n lp li → k < n
    → (rises rows ≡ true) × (rises held ≡ true)
stray_asks {k = k} x z v h = (rw x (v.0.rise k h), rw z (v.1.rise k h))

-- ---- `stray_at`: no row is a stray that is at or above the diagonal or has a place in L
none_stray : (k : ℕ) (held rows : List ℕ) → ((q : ℕ) → q < length rows → (get_or rows q 0 ≤ k) ⊎ Memᴰ (get_or rows q 0) held) →
    false ≡ stray_in k held rows
unfolding stray_in some_of
none_stray k held [] h = refl
none_stray k held (z ∷ rows) h =
    let rest = none_stray k held rows (λ q g. h (suc q) (omega arith)) in
    ⊎_elim (λ (g : z ≤ k). rw (le-ltb k z g) rest) (λ (m : Memᴰ z held). rw (member_lists z held m, and-false (ltb k z)) rest) (h 0 (omega arith))

module _ {m n k : ℕ} {p i tr up ui lp li next : List ℕ} (w : Seeks k (pattern m n p i) (analysis tr up ui lp li) next) where
  pub seeks_stored : Within k p i
  seeks_stored = w.sought.stored.each k w.here

  pub seeks_both : Rises n p i × Rises n lp li
  seeks_both = (w.sought.stored, w.sought.held)

  -- all rows of the column are met
  pub seeks_none : get_or next k 0 ≡ get_or p (k + 1) 0 → false ≡ stray_in k (column lp k li) (column p k i)
  seeks_none h = none_stray k (column lp k li) (column p k i) each
    where
      each : (q : ℕ) → q < length (column p k i) → (get_or (column p k i) q 0 ≤ k) ⊎ Memᴰ (get_or (column p k i) q 0) (column lp k li)
      each q m =
          let l = length-column p k i seeks_stored.inside in
          let y = get_or p k 0 + q in
          let d : get_or (column p k i) q 0 ≡ get_or i y 0 = get_or-column p k i q 0 (omega arith) in
          let z : get_or i y 0 < n = w.sought.below y (omega (arith, seeks_stored.inside)) in
          rw d
          (⊎_elim
          (λ (a : get_or i y 0 ≤ k). inl a)
          (λ (a : Memᴰ k (column p (get_or i y 0) i)). ⊎_elim (λ (b : get_or i y 0 ≤ k). inl b)
          (λ (b : k < get_or i y 0). inr (w.sought.mirrored k (get_or i y 0) z b a)) (le-or-lt (get_or i y 0) k))
          (w.mirrors.met k y w.here (omega arith) (omega arith)))

-- ---- `some_stray`: some number below n passes a test
any_more : (f : ℕ → Bool) (a n : ℕ) → list_any f (range_with_len a (suc n)) ≡ (list_any f (range_with_len a n) || f (a + n))
any_more f a zero = let e : a + 0 ≡ a = omega arith in rw e (or-false (f a))
any_more f a (suc n) =
    let e : a + 1 + n ≡ a + suc n = omega arith in
    ap (λ (b : Bool). f a || b) (any_more f (a + 1) n ∙ (rw e refl)) ∙ sym (or_assoc (f a) (list_any f (range_with_len (a + 1) n)) (f (a + suc n)))

some_more : (l : List ℕ) (b : Bool) (n : ℕ) → (some l || b) ≡ some (l ++ cond b (n ∷ []) [])
some_more [] true n = refl
some_more [] false n = refl
some_more (x ∷ l) b n = refl

pub any-chosen : (f : ℕ → Bool) (n : ℕ) → list_any f (range_with_len 0 n) ≡ some (chosen n f)
unfolding chosen
any-chosen f zero = refl
any-chosen f (suc n) =
    let e : 0 + n ≡ n = omega arith in
    any_more f 0 n ∙ (rw (e, any-chosen f n) (some_more (chosen n f) (f n) n))

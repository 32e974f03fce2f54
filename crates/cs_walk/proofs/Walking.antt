-- Laws of a walk over a column's parts: what is left at a position, one step of the walk, and the walk over the whole.
-- Assumes nothing.
use mathlib.Core.Bool.{Bool, true, false, cond}
use mathlib.Core.List.{List, [], ◌∷◌, ◌++◌, map, flatten}
use mathlib.Core.Logic.{◌⊎◌, ⊎_elim}
use mathlib.Core.Path.{◌≡◌, refl, sym, ap, ◌∙◌, subst}
use Prim.Native.Nat.{ℕ, zero, suc, ◌+◌, ◌-◌, ◌≤◌, ◌<◌}
use native.Mathlib.Nat.{zero-add, suc-add}
use native.Mathlib.Omega.{arith}
use borrow.Author.Tests.{eq-eqb, ne_eqb, lt-ltb, le-ltb}
use lib.Dec.{eqb, ltb}
use lib.Ieee.{Float, nan}
use lib.ListN.{length, get_or, take, drop, replicate, length-drop, drop_of_length-le}
use denote.Ref.{Bor}
use Rattle.std.proofs.Common.{Option, Some, None, Ok, Err}
use Rattle.std.specs.Bool.{⊤}
use Rattle.std.specs.Iterator.{YieldsFirst, MakesProgress, item_count}
use Rattle.lists.specs.declared.refusal.Refusal.TheVariants.{Disagree}
use Rattle.lists.specs.Choices.{some}
use Rattle.lists.proofs.Bools.{eq-or-ne, le-or-lt, not-both}
use Rattle.lists.proofs.Pairs.{pair_at}
use Rattle.cs_walk.specs.Walk.{number, checked, pairs, given, left, first, after, walked, moved, gives, told, tells, Whole}
use Rattle.cs_walk.specs.declared.column_entries.ColumnEntries.{ColumnEntries}

not-suc : {n : ℕ} → suc n ≡ 0 → ⊥
not-suc e = omega (arith, e)

-- ---- the number
module _ (i : List ℕ) (v : List Float) where
  pub number_same : length i ≡ length v → 0 ≡ number i v
  unfolding number
  number_same e = simp (eq-eqb _ _ e)

  pub number_differs : (length i ≡ length v → ⊥) → 2 ≡ number i v
  unfolding number
  number_differs h = simp (ne_eqb _ _ h)

  -- the answer, and its number
  pub checked-same : length i ≡ length v → (0 ≡ number i v) × (Ok tt ≡ checked i v)
  unfolding checked
  checked-same e = (number_same e, simp (eq-eqb _ _ e))

  pub checked-differs : (length i ≡ length v → ⊥) → (2 ≡ number i v) × (Err Disagree ≡ checked i v)
  unfolding checked
  checked-differs h = (number_differs h, simp (ne_eqb _ _ h))

  -- number 0 says that the lengths are equal
  pub number_means : number i v ≡ 0 → length i ≡ length v
  number_means n = ⊎_elim (λ (e : length i ≡ length v). e) (λ (h : length i ≡ length v → ⊥). absurd (not-suc (number_differs h ∙ n)))
      (eq-or-ne (length i) (length v))

  given-same : length i ≡ length v → given i v ≡ pairs i v
  unfolding given
  given-same e = ap (λ (n : ℕ). cond (eqb n 0) (pairs i v) []) (sym (number_same e))

  given-none : 2 ≡ number i v → given i v ≡ []
  unfolding given
  given-none n = ap (λ (n : ℕ). cond (eqb n 0) (pairs i v) []) (sym n)

-- ---- the pairs
not-cons : {e : ℕ × Float} {l : List (ℕ × Float)} → [] ≡ e ∷ l → ⊥
not-cons q = not-suc (sym (ap length q))

pairs-none : (i : List ℕ) → pairs i [] ≡ []
unfolding pairs
pairs-none [] = refl
pairs-none (r ∷ i) = refl

length_pairs : (i : List ℕ) (v : List Float) → length i ≡ length v → length (pairs i v) ≡ length i
unfolding pairs
length_pairs [] v e = refl
length_pairs (r ∷ i) [] e = sym e
length_pairs (r ∷ i) (x ∷ v) e = ap suc (length_pairs i v (omega (arith, e)))

drop-pairs : (k : ℕ) (i : List ℕ) (v : List Float) → drop k (pairs i v) ≡ pairs (drop k i) (drop k v)
unfolding pairs
drop-pairs zero i v = refl
drop-pairs (suc k) [] v = refl
drop-pairs (suc k) (r ∷ i) [] = sym (pairs-none (drop k i))
drop-pairs (suc k) (r ∷ i) (x ∷ v) = drop-pairs k i v

rows_back : (i : List ℕ) (v : List Float) → length i ≡ length v → map (λ (e : ℕ × Float). e.0) (pairs i v) ≡ i
unfolding pairs
rows_back [] v e = refl
rows_back (r ∷ i) [] e = absurd (not-suc e)
rows_back (r ∷ i) (x ∷ v) e = ap (λ (l : List ℕ). r ∷ l) (rows_back i v (omega (arith, e)))

values-back : (i : List ℕ) (v : List Float) → length i ≡ length v → map (λ (e : ℕ × Float). e.1) (pairs i v) ≡ v
unfolding pairs
values-back [] [] e = refl
values-back [] (x ∷ v) e = absurd (not-suc (sym e))
values-back (r ∷ i) [] e = absurd (not-suc e)
values-back (r ∷ i) (x ∷ v) e = ap (λ (l : List Float). x ∷ l) (values-back i v (omega (arith, e)))

-- ---- what is left at a position: a pair and what is left behind it, or nothing
module _ (k : ℕ) (i : List ℕ) (v : List Float) where
  left_pair : length i ≡ length v → k < length i → left k i v ≡ (get_or i k 0, get_or v k nan) ∷ left (k + 1) i v
  unfolding left pairs
  left_pair e h =
      at k ∙ pair_at pairs i v k 0 nan h (subst (λ (n : ℕ). k < n) e h)
      ∙ ap (λ (l : List (ℕ × Float)). (get_or i k 0, get_or v k nan) ∷ l) (sym (at (k + 1)))
    where
      at : (n : ℕ) → drop n (given i v) ≡ pairs (drop n i) (drop n v)
      at n = ap (drop n) (given-same i v e) ∙ drop-pairs n i v

  left_end : length i ≡ length v → length i ≤ k → left k i v ≡ []
  unfolding left
  left_end e h = ap (drop k) (given-same i v e) ∙ drop_of_length-le (pairs i v) {i = k} (omega (arith, h, length_pairs i v e))

  left_differs : (length i ≡ length v → ⊥) → left k i v ≡ []
  unfolding left
  left_differs h = ap (drop k) (given-none i v (number_differs i v h)) ∙ drop_of_length-le {A = ℕ × Float} [] {i = k} (omega arith)

  -- ---- whether an entry stands there: what the test finds, and what it says
  pub none_refused : {n : ℕ} → n ≡ number i v → (n ≡ 0 → ⊥) → false ≡ some (left k i v)
  none_refused e h = sym (ap some (left_differs (λ l. h (e ∙ sym (number_same i v l)))))

  pub one_there : {n : ℕ} → n ≡ number i v → n ≡ 0 → ltb k (length i) ≡ some (left k i v)
  one_there e z =
      ⊎_elim
      (λ (h : length i ≤ k). le-ltb k (length i) h ∙ sym (ap some (left_end (number_means i v (sym e ∙ z)) h)))
      (λ (h : k < length i). lt-ltb k (length i) h ∙ sym (ap some (left_pair (number_means i v (sym e ∙ z)) h)))
      (le-or-lt (length i) k)

  pub record There : Type 0 where
    pub alike : length i ≡ length v
    pub inside : k < length i

  module _ {b : Bool} (e : b ≡ some (left k i v)) where
    pub there : b ≡ true → There
    there h =
        ⊎_elim
        (λ (l : length i ≡ length v). inside l (le-or-lt (length i) k))
        (λ (n : length i ≡ length v → ⊥). absurd (not-both _ (sym e ∙ h) (ap some (left_differs n))))
        (eq-or-ne (length i) (length v))
      where
        inside : length i ≡ length v → (length i ≤ k) ⊎ (k < length i) → There
        inside l =
            ⊎_elim
            (λ (g : length i ≤ k). absurd (not-both _ (sym e ∙ h) (ap some (left_end l g))))
            (λ (g : k < length i). record { alike = l; inside = g })

    pub nothing_left : b ≡ false → left k i v ≡ []
    nothing_left h = empty (left k i v) (sym e ∙ h)
      where
        empty : (l : List (ℕ × Float)) → some l ≡ false → l ≡ []
        empty [] n = refl
        empty (x ∷ l) n = absurd (not-both true refl n)

  -- ---- a step there
  pub entry_here : There → Some (get_or i k 0, get_or v k nan) ≡ first (left k i v)
  unfolding first
  entry_here t = sym (ap first (left_pair t.alike t.inside))

  pub entry_end : left k i v ≡ [] → None ≡ first (left k i v)
  unfolding first
  entry_end n = sym (ap first n)

  pub after_here : There → k + 1 ≡ after k i v
  unfolding after
  after_here t = sym (ap (λ (l : List (ℕ × Float)). cond (some l) (k + 1) k) (left_pair t.alike t.inside))

  pub after-end : left k i v ≡ [] → k ≡ after k i v
  unfolding after
  after-end n = sym (ap (λ (l : List (ℕ × Float)). cond (some l) (k + 1) k) n)

  pub length_here : There → length i - k ≡ length (left k i v)
  unfolding left
  length_here t = sym (ap (λ (l : List (ℕ × Float)). length (drop k l)) (given-same i v t.alike) ∙ length-drop k (pairs i v) ∙
      ap (λ (n : ℕ). n - k) (length_pairs i v t.alike))

  pub length-end : left k i v ≡ [] → 0 ≡ length (left k i v)
  length-end n = sym (ap length n)

-- ---- the walk: each step leaves the rest, and at the end nothing changes
left-rest : (k : ℕ) (l : List (ℕ × Float)) {e : ℕ × Float} {t : List (ℕ × Float)} → drop k l ≡ e ∷ t → drop (k + 1) l ≡ t
left-rest zero l q = ap (drop 1) q
left-rest (suc k) [] q = absurd (not-cons q)
left-rest (suc k) (x ∷ l) q = ap (λ (n : ℕ). drop n (x ∷ l)) (suc-add k 1) ∙ left-rest k l q

moved-rest : (w : ColumnEntries) {e : ℕ × Float} {t : List (ℕ × Float)} → walked w ≡ e ∷ t → walked (moved w) ≡ t
unfolding left after
moved-rest w q = ap (λ (n : ℕ). drop n (given w.i.now w.v.now)) (ap (λ (l : List (ℕ × Float)). cond (some l) (w.curr + 1) w.curr) q) ∙
    left-rest w.curr _ q

moved-end : (w : ColumnEntries) → walked w ≡ [] → walked (moved w) ≡ []
unfolding left after
moved-end w q = ap (λ (n : ℕ). drop n (given w.i.now w.v.now)) (ap (λ (l : List (ℕ × Float)). cond (some l) (w.curr + 1) w.curr) q) ∙ q

ends : (m : ℕ) (w : ColumnEntries) → walked w ≡ [] → gives m w ≡ replicate m None
unfolding gives first
ends zero w q = refl
ends (suc m) w q = rw (q, ends m (moved w) (moved-end w q))

all-given : (l : List (ℕ × Float)) (m : ℕ) (w : ColumnEntries) → walked w ≡ l → gives (length l + m) w ≡ map Some l ++ replicate m None
unfolding gives first
all-given [] m w q = ap (λ (n : ℕ). gives n w) (zero-add m) ∙ ends m w q
all-given (e ∷ l) m w q = ap (λ (n : ℕ). gives n w) (suc-add (length l) m) ∙ rw (q, all-given l m (moved w) (moved-rest w q))

-- ---- what is told: the first of what is left, and by n calls the first n
pub told-first : (l : List (ℕ × Float)) → told (first l) ≡ take 1 l
unfolding told first
told-first [] = refl
told-first (e ∷ l) = refl

-- a step as std's iterators say it: the first of what is left, and then the rest; at the end nothing, and nothing after it
pub walk-steps : (w : ColumnEntries) {r : Option (ℕ × Float)} {t : ColumnEntries} → r ≡ first (walked w) → t ≡ moved w → YieldsFirst walked w r t
unfolding first
walk-steps w e f = rw (e, f) (go (walked w) refl)
  where
    go : (l : List (ℕ × Float)) → walked w ≡ l → YieldsFirst walked w (first l) (moved w)
    go [] q = (q, moved-end w q)
    go (x ∷ l) q = q ∙ ap (λ (m : List (ℕ × Float)). x ∷ m) (sym (moved-rest w q))

pub walk-goes : (w : ColumnEntries) {r : Option (ℕ × Float)} {t : ColumnEntries} → r ≡ first (walked w) → t ≡ moved w
    → MakesProgress (λ _. ⊤) (item_count walked) w r t
unfolding first
walk-goes w e f = rw (e, f) (go (walked w) refl)
  where
    go : (l : List (ℕ × Float)) → walked w ≡ l → MakesProgress (λ _. ⊤) (item_count walked) w (first l) (moved w)
    go [] q = record { on = λ _. tt; keeps = tt; rests = λ _. tt }
    go (x ∷ l) q =
        let m : length (walked (moved w)) < length (walked w) = rw (q, moved-rest w q) (omega arith) in
        record { on = λ _. (tt, tt, m); keeps = tt; rests = λ _. tt }

-- no two entries tell the same
pub told_only : (r s : Option (ℕ × Float)) → told r ≡ told s → r ≡ s
unfolding told first
told_only r s e = sym (back r) ∙ ap first e ∙ back s
  where
    back : (r : Option (ℕ × Float)) → first (told r) ≡ r
    back (Some e) = refl
    back None = refl

tells-end : (n : ℕ) (w : ColumnEntries) → walked w ≡ [] → tells n w ≡ []
unfolding gives first told flatten
tells-end zero w q = refl
tells-end (suc n) w q = rw (q, tells-end n (moved w) (moved-end w q))

all_told : (l : List (ℕ × Float)) (n : ℕ) (w : ColumnEntries) → walked w ≡ l → tells n w ≡ take n l
unfolding gives first told flatten
all_told l zero w q = refl
all_told [] (suc n) w q = tells-end (suc n) w q
all_told (e ∷ l) (suc n) w q = rw (q, all_told l n (moved w) (moved-rest w q))

-- ---- a walker at the start
pub whole : (i : Bor (List ℕ)) (v : Bor (List Float)) → Whole i.now v.now (record { curr = 0; i = i; v = v })
unfolding left
whole i v =
    record {
      in_order = λ m. all-given (given i.now v.now) m (record { curr = 0; i = i; v = v }) refl;
      as_told = λ n. all_told (given i.now v.now) n (record { curr = 0; i = i; v = v }) refl;
      only_end = λ n. given-none i.now v.now (sym n);
      rows = λ n. let e = number_means i.now v.now n in ap (map (λ (e : ℕ × Float). e.0)) (given-same i.now v.now e) ∙ rows_back i.now v.now e;
      values = λ n. let e = number_means i.now v.now n in ap (map (λ (e : ℕ × Float). e.1)) (given-same i.now v.now e) ∙ values-back i.now v.now e;
    }

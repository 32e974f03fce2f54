-- Columns one behind another: how long they are, where each lies, and that they make a valid matrix. Assumes nothing.
use mathlib.Core.Path.{◌≡◌, refl, sym, ap, ◌∙◌}
use mathlib.Core.Bool.{Bool, true}
use mathlib.Core.List.{List, [], ◌++◌, map, append_assoc, append-nil}
use mathlib.Core.Logic.{⊎_elim}
use Prim.Native.Nat.{ℕ, zero, suc, ◌+◌, ◌-◌, ◌*◌, ◌≤◌, ◌<◌}
use native.Mathlib.Nat.{eq-or-lt_of_le}
use native.Mathlib.Numerals.{add-one}
use native.Mathlib.Omega.{arith}
use lib.Ieee.{Float}
use lib.ListN.{length, get_or, length-append, length-map, get_or-append}
use lib.Seq.{get_or-append-add}
use Rattle.lists.specs.Choices.{chosen}
use Rattle.lists.specs.Order.{rises}
use Rattle.lists.specs.Parts.{part}
use Rattle.lists.specs.Tables.{table}
use Rattle.lists.proofs.Bools.{le-or-lt}
use Rattle.lists.proofs.Chosen.{chosen-within, chosen_member, chosen_rising}
use Rattle.lists.proofs.Laying.{part_at}
use Rattle.lists.proofs.Ordering.{rising_rises}
use Rattle.lists.proofs.Spots.{member_at}
use Rattle.lists.proofs.Tables.{length-table, get_or-table}
use Rattle.cs_matrix.specs.Matrix.{column, Valid}
use Rattle.cs_columns.specs.Columns.{joined, with_columns, with_entries}

module _ {A : Type 0} (f : ℕ → List A) where
  pub joined-none : joined f 0 ≡ []
  unfolding joined
  joined-none = refl

  pub joined-more : (n : ℕ) → joined f (n + 1) ≡ joined f n ++ f n
  unfolding joined
  joined-more n = rw add-one

  pub length_more : (n : ℕ) → length (joined f (n + 1)) ≡ length (joined f n) + length (f n)
  length_more n = rw (joined-more n) (length-append (joined f n) (f n))

  -- the columns from j on
  record After (j n : ℕ) : Type 0 where
    rest : List A
    is : joined f n ≡ joined f j ++ rest

  after : (j n : ℕ) → j ≤ n → After j n
  unfolding joined
  after j zero h = let e : j ≡ 0 = omega arith in rw e (record { rest = []; is = refl })
  after j (suc n) h =
      ⊎_elim
      (λ (e : j ≡ suc n). rw e (record { rest = []; is = sym (append-nil (joined f (suc n))) }))
      (λ (l : j < suc n). let r = after j n (omega arith) in
      record { rest = r.rest ++ f n; is = ap (λ (t : List A). t ++ f n) r.is ∙ append_assoc (joined f j) r.rest (f n) })
      (eq-or-lt_of_le h)

  pub joined_grows : (j n : ℕ) → j ≤ n → length (joined f j) ≤ length (joined f n)
  joined_grows j n h = let r = after j n h in omega (arith, ap length r.is, length-append (joined f j) r.rest)

  -- column j lies between the lengths of the columns before it
  pub joined-part : (j n : ℕ) → j < n → part (length (joined f j)) (length (joined f (j + 1))) (joined f n) ≡ f j
  joined-part j n h =
      let r = after (j + 1) n (omega arith) in
      let e : joined f n ≡ joined f j ++ (f j ++ r.rest) = r.is ∙ (rw (joined-more j) (append_assoc (joined f j) (f j) r.rest)) in
      rw e (part_at (joined f j) (f j) r.rest (length (joined f j)) (length (joined f (j + 1))) refl (omega (arith, length_more j)))

  -- so many columns of so many items at most
  pub joined-within : (n : ℕ) → ((j : ℕ) → j < n → length (f j) ≤ 65535) → length (joined f n) ≤ 65535 * n
  unfolding joined
  joined-within zero h = omega arith
  joined-within (suc n) h = omega (arith, length-append (joined f n) (f n), h n (omega arith), joined-within n (λ j l. h j (omega arith)))

  -- no more than the steps of g, where each column is no longer than its step
  pub joined-steps : (g : ℕ → ℕ) (n : ℕ) → ((j : ℕ) → j < n → length (f j) + g j ≤ g (j + 1)) → length (joined f n) + g 0 ≤ g n
  unfolding joined
  joined-steps g zero h = omega arith
  joined-steps g (suc n) h =
      let s = rw add-one at (h n (omega arith)) in
      omega (arith, length-append (joined f n) (f n), s, joined-steps g n (λ j l. h j (omega arith)))

  -- what holds of every item of every column
  pub in-joined : (P : A → Type 0) (z : A) (n : ℕ) → ((j : ℕ) → j < n → (k : ℕ) → k < length (f j) → P (get_or (f j) k z)) → (q : ℕ) →
      q < length (joined f n) → P (get_or (joined f n) q z)
  unfolding joined
  in-joined P z zero h q l = absurd (omega arith)
  in-joined P z (suc n) h q l =
      ⊎_elim
      (λ (m : length (joined f n) ≤ q).
      let e : length (joined f n) + (q - length (joined f n)) ≡ q = omega arith in
      let g = rw e at (get_or-append-add (joined f n) (f n) (q - length (joined f n)) z) in
      rw g (h n (omega arith) (q - length (joined f n)) (omega (arith, length-append (joined f n) (f n)))))
      (λ (m : q < length (joined f n)). rw (get_or-append (joined f n) (f n) z q m) (in-joined P z n (λ j o. h j (omega arith)) q m))
      (le-or-lt (length (joined f n)) q)

-- as many items, whatever they are
pub joined_alike : {A B : Type 0} (f : ℕ → List A) (g : ℕ → List B) (n : ℕ) → ((j : ℕ) → j < n → length (f j) ≡ length (g j)) → length (joined f n)
    ≡ length (joined g n)
unfolding joined
joined_alike f g zero h = refl
joined_alike f g (suc n) h = omega (
  arith,
  length-append (joined f n) (f n),
  length-append (joined g n) (g n),
  h n (omega arith),
  joined_alike f g n (λ j l. h j (omega arith)),
)

-- columns that rise and stay below the row count
pub record Columns (nrows ncols : ℕ) (rows : ℕ → List ℕ) (vals : ℕ → List Float) : Type 0 where
  pub alike : (j : ℕ) → j < ncols → length (rows j) ≡ length (vals j)
  pub rise : (j : ℕ) → j < ncols → rises (rows j) ≡ true
  pub below : (j : ℕ) → j < ncols → (k : ℕ) → k < length (rows j) → get_or (rows j) k 0 < nrows

module _ {nrows ncols : ℕ} {rows : ℕ → List ℕ} {vals : ℕ → List Float} (c : Columns nrows ncols rows vals) where
  abbrev start : ℕ → ℕ
  start j = length (joined rows j)

  starts : (k : ℕ) → k ≤ ncols → get_or (table (ncols + 1) start) k 0 ≡ start k
  starts k h = get_or-table (ncols + 1) start k 0 (omega arith)

  column-is : (j : ℕ) → j < ncols → column (table (ncols + 1) start) j (joined rows ncols) ≡ rows j
  unfolding column
  column-is j h = rw (starts j (omega arith), starts (j + 1) (omega arith)) (joined-part rows j ncols h)

  last-start : get_or (table (ncols + 1) start) (length (table (ncols + 1) start) - 1) 0 ≡ length (joined rows ncols)
  last-start = let e : length (table (ncols + 1) start) - 1 ≡ ncols = omega (arith, length-table (ncols + 1) start) in
      rw e (starts ncols (omega arith))

  less : (k : ℕ) → k < length (table (ncols + 1) start) - 1 → k + 1 ≤ ncols
  less k h = omega (arith, length-table (ncols + 1) start)

  pub columns_valid : nrows ≤ 65535 → ncols ≤ 65535 → length (joined rows ncols) ≤ 4194304 → Valid (with_columns nrows ncols rows vals)
  unfolding with_columns
  columns_valid g h m =
      record {
        pattern = record {
          rows = g;
          cols = h;
          entries = m;
          p_long = length-table (ncols + 1) start;
          ptrs = record {
            first = starts 0 (omega arith) ∙ ap length (joined-none rows);
            last = last-start;
            climbs = λ k l. omega (arith, starts k (omega (arith, less k l)), starts (k + 1) (less k l), length_more rows k);
          };
          below = in-joined rows (λ (x : ℕ). x < nrows) 0 ncols c.below;
          rise = λ j l. rw (column-is j l) (c.rise j l);
        };
        v_long = joined_alike rows vals ncols c.alike;
      }

-- ---- the rows at which a test holds, each with its value
module _ (nrows ncols : ℕ) (f : ℕ → ℕ → Bool) (g : ℕ → ℕ → Float) where
  abbrev pub rows_of : ℕ → List ℕ
  rows_of j = chosen nrows (f j)

  abbrev pub vals_of : ℕ → List Float
  vals_of j = map (g j) (chosen nrows (f j))

  pub entries-columns : Columns nrows ncols rows_of vals_of
  entries-columns =
      record {
        alike = λ j h. sym (length-map (chosen nrows (f j)) (g j));
        rise = λ j h. rising_rises (chosen_rising (f j) nrows);
        below = λ j h k l. (chosen_member (f j) nrows (get_or (chosen nrows (f j)) k 0) (member_at (chosen nrows (f j)) k l)).below;
      }

  pub entries_valid : nrows ≤ 65535 → ncols ≤ 65535 → length (joined rows_of ncols) ≤ 4194304 → Valid (with_entries nrows ncols f g)
  unfolding with_entries
  entries_valid h k m = columns_valid entries-columns h k m

  pub entries-within : (j : ℕ) → nrows ≤ 65535 → length (joined rows_of j) ≤ 65535 * j
  entries-within j h = joined-within rows_of j (λ k l. omega (arith, chosen-within (f k) nrows))

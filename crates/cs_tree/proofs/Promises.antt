-- Everything that is promised of the tree, of U and of L (specs/Least.antt), for a matrix of at most `root` columns. That rows
-- rise and are below n is not needed. Assumes nothing.
use mathlib.Core.Path.{◌≡◌, refl, ◌∙◌}
use mathlib.Core.Logic.{inl, inr, ◌↔◌}
use mathlib.Core.List.Memᴰ
use mathlib.Core.List.{List, [], map}
use Prim.Native.Nat.{ℕ, ◌≤◌}
use native.Mathlib.Omega.{arith}
use native.Mathlib.Decide.{dec_lt}
use lib.ListN.{length, get_or, get_or-eq_default}
use Rattle.lists.specs.Order.{Rising, flat}
use Rattle.lists.proofs.Tables.{length-table}
use Rattle.cs_tree.specs.Tree.{root, tree}
use Rattle.cs_tree.specs.Pattern.{upper, across, transposed, lower}
use Rattle.cs_tree.specs.Least.{In, Fill, stored, cross, diag, Closed, IsParent, sorted, Promised}
use Rattle.cs_tree.proofs.Upper.{listed_filled, filled_listed, no_repeats}
use Rattle.cs_tree.proofs.Laws.{fill_least, fill_mono, fill_upper, tree-parent, upper-at, fill_upper-same, fill_into_upper}
use Rattle.cs_tree.proofs.Lower.{length-upper, lower-rises, lower_fill}
use Rattle.cs_tree.proofs.Count.{entries-lower}
use Rattle.cs_tree.proofs.Order.{upper_column_behind}
use Rattle.cs_tree.proofs.Sorting.{sorted-in, in-sorted, sorted_rises, sorted-at, length_sorts}
use Rattle.cs_tree.proofs.Reading.{tree-read, upper-read, column-none}

module _ (cols : List (List ℕ)) (fits : length cols ≤ root) where
  -- U lists what is filled
  pub filled : {i k : ℕ} → In (upper cols) i k → Fill cols i k
  filled {i} {k} m = listed_filled cols fits i k (rw (upper-at cols fits k) at m)

  pub listed : {i k : ℕ} → Fill cols i k → In (upper cols) i k
  listed {i} {k} f = rw (upper-at cols fits k) (filled_listed cols fits i k f)

  closed : Closed cols (upper cols)
  closed =
      record {
        stores = λ i k l m. listed (stored l m);
        crosses = λ i j k l l' a b. listed (cross i l l' (filled a) (filled b));
        diagonal = λ i k l a. listed (diag i refl l (filled a));
      }

  least : (ps : List (List ℕ)) → Closed cols ps → (i k : ℕ) → In (upper cols) i k → In ps i k
  least ps c i k m = fill_least cols (In ps) c.stores c.crosses c.diagonal (filled m)

  pub length-lower : length (lower cols) ≡ length cols
  unfolding lower transposed
  length-lower = length-table (length (upper cols)) (λ j. across j 0 (upper cols)) ∙ length-upper cols fits

  -- past the last column
  no_lower : (j : ℕ) → length cols ≤ j → get_or (lower cols) j [] ≡ []
  no_lower j h = get_or-eq_default (lower cols) [] (rw length-lower h)

  rise : (j : ℕ) → Rising 0 (get_or (lower cols) j [])
  rise j = elim (dec_lt j (length cols)) [ yes l ↦ lower-rises cols fits j l | no n ↦ rw (no_lower j (omega arith)) flat ]

  transposes : (j k : ℕ) → In (lower cols) k j ↔ In (upper cols) j k
  transposes j k = elim (dec_lt j (length cols)) [
    | yes l ↦ ((λ m. listed ((lower_fill cols fits k j l).0 m)), (λ m. (lower_fill cols fits k j l).1 (filled m)))
    | no n ↦ ((λ m. absurd (Memᴰ.not-nil (rw (no_lower j (omega arith)) at m))), (λ m. absurd (omega (arith, fill_upper cols (filled m)))))
  ]

  parent : (i : ℕ) → IsParent (In (upper cols)) i (get_or (tree cols) i root)
  unfolding IsParent
  parent i = elim (tree-parent cols fits i) [
    | inl q ↦ inl (q.0, λ k l m. q.1 k l (filled m))
    | inr q ↦ inr (q.0, listed q.1, λ k l m. q.2 k l (filled m))
  ]

more : (cols : List (List ℕ)) → length cols ≤ root → (bs : List (List ℕ)) → length bs ≡ length cols → ((i k : ℕ) → i ≤ k → In cols i k → In bs i k)
    → (i k : ℕ) → In (upper cols) i k → In (upper bs) i k
more cols fits bs e h i k m = listed bs (omega arith) (fill_mono cols bs h (filled cols fits m))

-- the pattern of U, its rows sorted
module _ (cols : List (List ℕ)) (fits : length cols ≤ root) where
  abbrev su : List (List ℕ)
  su = map sorted (upper cols)

  length_su : length su ≤ root
  length_su = rw (length_sorts (upper cols), length-upper cols fits) fits

  settled : (i k : ℕ) → In (upper su) i k ↔ In (upper cols) i k
  settled i k = (
    (λ m. listed cols fits (fill_upper-same cols fits
        (fill_mono su (upper cols) (λ i k l n. sorted-in i (get_or (upper cols) k []) (rw (sorted-at (upper cols) k) at n))
        (filled su length_su m)))),
    (λ m. listed su length_su (fill_mono (upper cols) su (λ i k l n. rw (sorted-at (upper cols) k) (in-sorted i (get_or (upper cols) k []) n))
        (fill_into_upper cols fits (filled cols fits m)))),
  )

  sorts : (k : ℕ) → Rising 0 (get_or su k [])
  sorts k = rw (sorted-at (upper cols) k, upper-at cols fits k) (sorted_rises (no_repeats cols fits k))

  pub promised : Promised cols (tree cols) (upper cols) (lower cols)
  promised =
      record {
        once = λ k. rw (upper-at cols fits k) (no_repeats cols fits k);
        closed = closed cols fits;
        least = least cols fits;
        settled = settled;
        sorts = sorts;
        more = more cols fits;
        parent = λ i l. parent cols fits i;
        order = λ k. rw (upper-at cols fits k) (upper_column_behind cols fits k);
        rise = rise cols fits;
        across = transposes cols fits;
        u_columns = length-upper cols fits;
        l_columns = length-lower cols fits;
        counts = entries-lower cols fits;
        empty = λ k h. upper-at cols fits k ∙ column-none cols k h;
        tree_reads = tree-read cols;
        u_reads = upper-read cols;
      }

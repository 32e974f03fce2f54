-- What the slices of a written analysis hold: the columns of U and of L again, with all that is promised of them. Assumes nothing.
use Rattle.std.proofs.Common.{◌≡◌, ℕ, ◌+◌, ◌-◌, ◌<◌, ◌≤◌, List, [], ◌∷◌, map, length, get_or, sym, refl, ap, ◌∙◌, arith, take_all}
use mathlib.Core.List.{flatten, Memᴰ}
use Rattle.lists.specs.Calls.{onto}
use Rattle.lists.specs.Order.{Rising}
use Rattle.lists.proofs.Laying.{take-onto, onto-whole}
use Rattle.lists.proofs.Ordering.{rising_rises}
use Rattle.lists.proofs.Parts.{get_or-onto-front}
use Rattle.lists.proofs.Tables.{is-table}
use Rattle.cs_matrix.specs.Matrix.{pattern, column, Pointers, ValidPattern}
use Rattle.cs_tree.specs.Tree.{tree}
use Rattle.cs_tree.specs.Pattern.{Analysis, analysed, upper, lower, starts, entries}
use Rattle.cs_tree.specs.Least.{sorted}
use Rattle.cs_tree.proofs.Count.{length-starts}
use Rattle.cs_tree.proofs.Laid.{length-laid, start-at, entries-more}
use Rattle.cs_tree.proofs.Laws.{fill_upper}
use Rattle.cs_tree.proofs.Lowering.{laid-below}
use Rattle.cs_tree.proofs.Promises.{promised, filled, length-lower}
use Rattle.cs_tree.proofs.Reread.{reread}
use Rattle.cs_tree.proofs.Sorting.{sorted-in, length-sorted, sorted-at, length_sorts}
use Rattle.cs_pattern.specs.Analyse.{written}
use Rattle.cs_pattern.specs.Columns.{columns}
use Rattle.cs_pattern.specs.Promise.{with_columns, Analysed}
use Rattle.cs_pattern.proofs.Columns.{columns_fit, columns_long, column-at}
use Rattle.cs_pattern.proofs.Filled.{tree-size, upper-size}

-- the columns that were written are those that are held
pub held : (us : List (List ℕ)) (n : ℕ) (d e : List ℕ) → length us ≡ n → columns (pattern n n (onto d (starts 0 us)) (onto e (flatten us))) ≡ us
unfolding columns column
held us n d e l = sym (is-table [] n (λ j. column (onto d (starts 0 us)) j (onto e (flatten us))) us l (λ k h. sym (reread us d e k (omega arith))))

-- ---- a pattern made of columns
entries_sorted : (us : List (List ℕ)) → entries (map sorted us) ≡ entries us
unfolding entries
entries_sorted [] = refl
entries_sorted (c ∷ cs) = omega (arith, length-sorted c, entries_sorted cs)

module _ (us : List (List ℕ)) (small : length us ≤ 65535) (few : entries us ≤ 4194304) (below : (k x : ℕ) → Memᴰ x (get_or us k []) → x < length us)
    (rise : (k : ℕ) → Rising 0 (get_or us k [])) where
  pointers : Pointers (starts 0 us) (length (flatten us))
  unfolding entries
  pointers =
      record {
        first = start-at us 0 (omega arith);
        last =
            let e : length (starts 0 us) - 1 ≡ length us = omega (arith, length-starts 0 us) in
            rw (e, length-laid us) (start-at us (length us) (omega arith) ∙ ap entries (take_all (length us) us (omega arith)));
        climbs = λ k h.
            let l : k < length us = omega (arith, length-starts 0 us) in
            omega (arith, start-at us k (omega arith), start-at us (k + 1) (omega arith), entries-more us k l);
      }

  again : columns (pattern (length us) (length us) (starts 0 us) (flatten us)) ≡ us
  again =
      ap (λ (p : List ℕ). columns (pattern (length us) (length us) p (flatten us))) (sym (onto-whole (starts 0 us) (starts 0 us) refl))
      ∙ ap (λ (i : List ℕ). columns (pattern (length us) (length us) (onto (starts 0 us) (starts 0 us)) i))
      (sym (onto-whole (flatten us) (flatten us) refl))
      ∙ held us (length us) (starts 0 us) (flatten us) refl

  pub columns_valid : ValidPattern (with_columns us)
  unfolding with_columns
  columns_valid =
      record {
        rows = small;
        cols = small;
        entries = omega (arith, length-laid us);
        p_long = omega (arith, length-starts 0 us);
        ptrs = pointers;
        below = laid-below us (length us) below;
        rise = λ j l. rw (← column-at (pattern (length us) (length us) (starts 0 us) (flatten us)) j l, again) (rising_rises (rise j));
      }

-- ---- the whole analysis, written
module _ {n : ℕ} {p i : List ℕ} (v : ValidPattern (pattern n n p i)) (old : Analysis) (few : entries (upper (columns (pattern n n p i))) ≤ 4194304)
  where
    abbrev C : List (List ℕ)
    C = columns (pattern n n p i)

    abbrev su : List (List ℕ)
    su = map sorted (upper C)

    lower-size : length (lower C) ≡ n
    lower-size = length-lower C (columns_fit v) ∙ sym (columns_long v)

    us_held : columns (pattern n n (onto old.up (starts 0 (upper C))) (onto old.ui (flatten (upper C)))) ≡ upper C
    us_held = held (upper C) n old.up old.ui (upper-size v)

    ls_held : columns (pattern n n (onto old.lp (starts 0 (lower C))) (onto old.li (flatten (lower C)))) ≡ lower C
    ls_held = held (lower C) n old.lp old.li lower-size

    last-is : (us : List (List ℕ)) (d : List ℕ) → length us ≡ n → get_or (onto d (starts 0 us)) n 0 ≡ entries us
    last-is us d e = get_or-onto-front d (starts 0 us) 0 n (omega (arith, length-starts 0 us)) ∙ start-at us n (omega arith) ∙
        ap entries (take_all n us (omega arith))

    in_su : (k x : ℕ) → Memᴰ x (get_or su k []) → x < length su
    in_su k x m =
        let t = sorted-in x (get_or (upper C) k []) (rw (sorted-at (upper C) k) at m) in
        omega (arith, fill_upper C (filled C (columns_fit v) t), length_sorts (upper C), upper-size v, columns_long v)

    su_valid : ValidPattern (with_columns su)
    su_valid =
        columns_valid su (omega (arith, length_sorts (upper C), upper-size v, v.cols)) (omega (arith, entries_sorted (upper C))) in_su
        (promised C (columns_fit v)).sorts

    pub analysed_holds : Analysed (pattern n n p i) (written (analysed C) old)
    unfolding written analysed
    analysed_holds =
        record {
          promised = rw (take-onto old.tree (tree C) n (tree-size v), us_held, ls_held) (promised C (columns_fit v));
          u_size = rw us_held (last-is (upper C) old.up (upper-size v));
          l_size = rw ls_held (last-is (lower C) old.lp lower-size);
          valid = rw us_held su_valid;
        }

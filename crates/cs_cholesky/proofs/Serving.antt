-- What is known where none of 1 to 8 applies. Assumes nothing.
use mathlib.Core.Path.{◌≡◌, sym, ap, ◌∙◌}
use mathlib.Core.Bool.{Bool, true, false, not, ◌&&◌}
use mathlib.Core.List.{List, [], ◌∷◌, ◌++◌, flatten}
use Prim.Native.Nat.{ℕ, ◌+◌, ◌≤◌, ◌<◌}
use native.Mathlib.Omega.{arith}
use lib.Dec.{ltb}
use lib.Ieee.{Float}
use lib.ListN.{length, get_or, drop, take-append-drop}
use borrow.Author.Tests.{ltb-false}
use Rattle.lists.specs.Calls.{lowest, onto, Scratch, narrow}
use Rattle.lists.specs.Parts.{part}
use Rattle.lists.proofs.Bools.{and-true, or-false, not_holds, passed_over}
use Rattle.lists.proofs.Calls.{Wide, not_narrow}
use Rattle.lists.proofs.Passing.{lowest-none}
use Rattle.lists.specs.Order.{starts_with}
use Rattle.lists.proofs.Matching.{begins, starts_long, starts-at}
use Rattle.cs_matrix.specs.Matrix.{pattern, Matrix, matrix, needed, Valid, judged_square_matrix}
use Rattle.cs_matrix.proofs.Squaring.{early_matrix, valid_matrix}
use Rattle.cs_tree.specs.Pattern.{Analysis, analysis, analysed, upper, lower, starts, entries}
use Rattle.cs_tree.specs.Tree.{tree, root}
use Rattle.cs_tree.proofs.Count.{length-starts}
use Rattle.cs_tree.proofs.Laid.{length-laid, start-at, entries-part, entries-more}
use Rattle.cs_tree.proofs.Lower.{length-upper}
use Rattle.cs_tree.proofs.Promises.{promised, length-lower}
use Rattle.cs_tree.proofs.Reread.{reread}
use Rattle.cs_pattern.specs.Columns.{columns}
use Rattle.cs_pattern.specs.Compare.{same, tight}
use Rattle.cs_pattern.proofs.Columns.{columns_fit, columns_long}
use Rattle.cs_cholesky.specs.Factor.{judged_factor}
use Rattle.cs_cholesky.specs.Served.{Laid, Served}

-- ---- columns that a lent slice starts with
-- a slice that starts with a list is that list, laid over the slice itself
fronts : (xs l : List ℕ) → starts_with xs l ≡ true → onto l xs ≡ l
unfolding onto
fronts xs l h = ap (λ (z : List ℕ). z ++ drop (length xs) l) (sym (begins xs l h)) ∙ take-append-drop (length xs) l

pub laid : (us : List (List ℕ)) (p i : List ℕ) → starts_with (starts 0 us) p ≡ true → starts_with (flatten us) i ≡ true → Laid us p i
laid us p i g h =
    record {
      pointed =
          record {
            long = omega (arith, starts_long (starts 0 us) p g, length-starts 0 us);
            at = λ k m. sym (starts-at (starts 0 us) p g k (omega (arith, length-starts 0 us))) ∙ start-at us k m;
          };
      inside = omega (arith, starts_long (flatten us) i h, length-laid us);
      column = λ k m. rw (fronts (starts 0 us) p g, fronts (flatten us) i h) at (reread us p i k m);
    }

-- ---- the columns, by their pointers
module _ {us : List (List ℕ)} {p i : List ℕ} (l : Laid us p i) {k a e : ℕ} (h : k < length us) (x : a ≡ get_or p k 0) (y : e ≡ get_or p (k + 1) 0)
  where
    pub laid-size : e ≡ a + length (get_or us k [])
    laid-size = omega (arith, l.pointed.at k (omega arith), l.pointed.at (k + 1) (omega arith), entries-more us k h)

    pub laid_end : e ≤ entries us
    laid_end = omega (arith, l.pointed.at (k + 1) (omega arith), entries-part us (k + 1))

    pub laid_inside : e ≤ length i
    laid_inside = omega (arith, laid_end, l.inside)

    pub laid_order : a ≤ e
    laid_order = omega (arith, laid-size)

    pub laid-part : part a e i ≡ get_or us k []
    laid-part = rw (x, y) (l.column k h)

-- ---- what is served
pub record Passed (nrows n : ℕ) (p i : List ℕ) (v : List Float) (up ui lp li : List ℕ) (room : ℕ) (old : Scratch) : Type 0 where
  pub served : Served n p i v up ui lp li room
  pub square : nrows ≡ n
  pub need : needed (pattern nrows n p i) ≡ n + 1
  pub wide : Wide (n + 1) old

module _ (nrows n : ℕ) (p i : List ℕ) (v : List Float) (tr up ui lp li : List ℕ) (room : ℕ) (old : Scratch) where
  abbrev a : Matrix
  a = matrix nrows n p i v

  abbrev C : List (List ℕ)
  C = columns (pattern n n p i)

  abbrev F : Analysis
  F = analysed (columns (pattern nrows n p i))

  -- 6, 7 and 8
  behind : List (ℕ × Bool)
  behind = (6, narrow (needed a.pattern) old) ∷ (7, tight room F) ∷ (8, not (same F (analysis tr up ui lp li))) ∷ []

  module _ {r : ℕ} (e : r ≡ lowest (judged_factor a (analysis tr up ui lp li) room old)) (h : r ≡ 0) where
    both-none : (lowest (judged_square_matrix a) ≡ 0) × (lowest behind ≡ 0)
    unfolding judged_factor behind
    both-none = lowest-none (judged_square_matrix a) behind (early_matrix a) (sym e ∙ h)

    late_none : (narrow (needed a.pattern) old ≡ false) × (tight room F ≡ false) × (same F (analysis tr up ui lp li) ≡ true)
    unfolding behind
    late_none =
        let x = passed_over (narrow (needed a.pattern) old) 5 _ both-none.1 in
        let y = passed_over (tight room F) 6 _ x.1 in
        (x.0, y.0, not_holds _ (passed_over _ 7 _ y.1).0)

    is-square : nrows ≡ n
    is-square = (valid_matrix a both-none.0).1

    is_valid : Valid (matrix n n p i v)
    is_valid = rw is-square at (valid_matrix a both-none.0).0

    need_is : needed a.pattern ≡ n + 1
    unfolding needed
    need_is = omega (arith, is-square)

    columns_are : columns (pattern nrows n p i) ≡ C
    columns_are = rw is-square

    fit : length C ≤ root
    fit = columns_fit is_valid.pattern

    starting : (starts_with (tree C) tr ≡ true) × (starts_with (starts 0 (upper C)) up ≡ true) × (starts_with (flatten (upper C)) ui ≡ true) ×
        (starts_with (starts 0 (lower C)) lp ≡ true) × (starts_with (flatten (lower C)) li ≡ true)
    unfolding same analysed
    starting =
        let z : same (analysed C) (analysis tr up ui lp li) ≡ true = rw columns_are at late_none.2 in
        let x = and-true (starts_with (tree C) tr && starts_with (starts 0 (upper C)) up && starts_with (flatten (upper C)) ui) _ z in
        let y = and-true (starts_with (tree C) tr && starts_with (starts 0 (upper C)) up) _ x.0 in
        let w = and-true (starts_with (tree C) tr) _ y.0 in
        let u = and-true (starts_with (starts 0 (lower C)) lp) _ x.1 in
        (w.0, w.1, y.1, u.0, u.1)

    sized : (entries (upper C) ≤ 4194304) × (entries (upper C) ≤ room)
    unfolding tight analysed
    sized =
        let z : tight room (analysed C) ≡ false = rw columns_are at late_none.1 in
        let x = or-false (ltb 4194304 (length (flatten (upper C)))) _ z in (
          omega (arith, ltb-false 4194304 (length (flatten (upper C))) x.0, length-laid (upper C)),
          omega (arith, ltb-false room (length (flatten (upper C))) x.1, length-laid (upper C)),
        )

    pub passed : Passed nrows n p i v up ui lp li room old
    passed =
        record {
          served =
              record {
                valid = is_valid;
                promised = promised C fit;
                u_long = length-upper C fit ∙ sym (columns_long is_valid.pattern);
                l_long = length-lower C fit ∙ sym (columns_long is_valid.pattern);
                u_laid = laid (upper C) up ui starting.1 starting.2;
                l_laid = laid (lower C) lp li starting.3 starting.4;
                few = sized.0;
                roomy = sized.1;
              };
          square = is-square;
          need = need_is;
          wide = not_narrow (n + 1) old (rw need_is at late_none.0);
        }

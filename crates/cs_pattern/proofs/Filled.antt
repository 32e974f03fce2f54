-- The steps of src/fill.rt: what each call in them is given, and what they leave. Assumes nothing.
use Rattle.std.proofs.Common.{◌≡◌, ℕ, ◌+◌, ◌<◌, ◌≤◌, Option, MatchOption, List, [], ◌∷◌, ◌++◌, length, get_or, take, sym, refl, ap, ◌∙◌, arith}
use mathlib.Core.List.{flatten}
use Rattle.lists.specs.Calls.{cleared}
use Rattle.lists.specs.Parts.{part, placed}
use Rattle.lists.specs.Sums.{counted}
use Rattle.lists.specs.Keeping.{Kept, Zeros}
use Rattle.lists.proofs.Clearing.{length-cleared, cleared-front}
use Rattle.lists.proofs.Laying.{placed-front, part_long, part-onto}
use Rattle.lists.proofs.Parts.{get_d_part}
use Rattle.lists.proofs.Keeping.{kept_then, kept-cleared, kept-placed}
use Rattle.cs_matrix.specs.Matrix.{pattern, ValidPattern}
use Rattle.cs_tree.specs.Pattern.{upper, lower, starts, entries}
use Rattle.cs_tree.specs.Steps.{Given, lengths, Whole}
use Rattle.cs_tree.specs.Tree.{tree}
use Rattle.cs_tree.proofs.Count.{length-starts}
use Rattle.cs_tree.proofs.Falling.{upper-once, upper-below}
use Rattle.cs_tree.proofs.Filling.{upper_long}
use Rattle.cs_tree.proofs.Growing.{tree_long}
use Rattle.cs_tree.proofs.Laid.{start-at, length-laid}
use Rattle.cs_tree.proofs.Lowering.{counted_are, rows_are}
use Rattle.cs_pattern.specs.Columns.{columns}
use Rattle.cs_pattern.specs.Steps.{Counted, Outlined}
use Rattle.cs_pattern.proofs.Columns.{columns_fit, columns_long, given}

pub zeros-front : (n : ℕ) (w : List ℕ) {v : List ℕ} → n ≤ length w → v ≡ cleared 0 n w → Zeros (part 0 n v)
zeros-front n w h e = rw e (record { at = at })
  where
    at : (q : ℕ) → q < length (part 0 n (cleared 0 n w)) → get_or (part 0 n (cleared 0 n w)) q 0 ≡ 0
    at q l =
        let m : q < n = omega (arith, part_long n (cleared 0 n w) (rw (length-cleared 0 n w) h)) in
        get_d_part 0 n (cleared 0 n w) q 0 (omega arith) ∙ cleared-front 0 n w (0 + q) (omega arith)

module _ {n : ℕ} {p i : List ℕ} (v : ValidPattern (pattern n n p i)) where
  abbrev C : List (List ℕ)
  C = columns (pattern n n p i)

  pub tree-size : length (tree C) ≡ n
  tree-size = tree_long C (columns_fit v) ∙ sym (columns_long v)

  pub upper-size : length (upper C) ≡ n
  upper-size = upper_long (given v refl) ∙ sym (columns_long v)

  pub tree-part : (w1 : List ℕ) {t : List ℕ} → t ≡ tree C → part 0 n (placed 0 n w1 t) ≡ tree C
  tree-part w1 e = ap (λ (y : List ℕ). part 0 n (placed 0 n w1 y)) e ∙ ap (part 0 n) (placed-front w1 (tree C) n tree-size) ∙
      part-onto n w1 (tree C) tree-size

  -- ---- `outline`
  module _ (w1 w2 w3 a : List ℕ) {t w2b : List ℕ} (l1 : n ≤ length w1) (l2 : n ≤ length w2) (l3 : n ≤ length w3) (e : t ≡ tree C)
      (f : length a ≡ length (part 0 n w2)) (g : w2b ≡ cleared 0 n (placed 0 n w2 a)) where
    a_long : length a ≡ n
    a_long = f ∙ part_long n w2 l2

    kept_a : Kept 0 n w2 (placed 0 n w2 a)
    kept_a = kept-placed n w2 a a_long l2

    kept_b : Kept 0 n w2 w2b
    kept_b = kept_then kept_a (kept-cleared n g)

    pub outline_asks : ValidPattern (pattern n n p i) × Given C (part 0 n (placed 0 n w1 t)) × (length (part 0 n w2b) ≡ n) × Zeros (part 0 n w2b) ×
        (n ≤ length w3)
    outline_asks = (v, given v (tree-part w1 e), part_long n w2b (rw kept_b.long l2), zeros-front n (placed 0 n w2 a) (rw kept_a.long l2) g, l3)

    pub outlined : {r : Option ℕ} (b : List ℕ) {c : List ℕ} → length b ≡ length (part 0 n w2b)
        → MatchOption r (4194304 < entries (upper C)) (Counted (upper C) w3 c) × Kept 0 n w3 c
        → Outlined C n r w1 (placed 0 n w1 t) w2 (placed 0 n w2b b) w3 c
    outlined b x z =
        let lb : n ≤ length w2b = rw kept_b.long l2 in
        record {
          count = z.0;
          tree_is = ap (placed 0 n w1) e ∙ placed-front w1 (tree C) n tree-size;
          kept2 = kept_then kept_b (kept-placed n w2b b (x ∙ part_long n w2b lb) lb);
          kept3 = z.1;
        }

  -- the lengths of L's columns and a zero behind them, where they are not too many
  whole : {t : ℕ} → t ≡ entries (upper C) → t ≤ 4194304 → Whole n t (starts 0 (upper C)) (flatten (upper C))
  whole e h =
      record {
        us = upper C;
        small = v.cols;
        count = upper-size;
        once = upper-once (given v refl);
        below = λ k x m. omega (arith, upper-below (given v refl) k x m, columns_long v);
        pointed = record { long = omega (arith, length-starts 0 (upper C)); at = λ k l. start-at (upper C) k l };
        size = e;
        few = h;
        room = omega (arith, length-laid (upper C));
        laid = λ q l. refl;
      }

  pub counts_there : {t : ℕ} {w3 w3' : List ℕ} (d : List ℕ) → Counted (upper C) w3 w3' t → w3 ≡ cleared 0 (n + 1) d → n + 1 ≤ length d →
      take (n + 1) w3' ≡ lengths (lower C) ++ (0 ∷ [])
  unfolding lower whole
  counts_there d B e l =
      let w = whole B.size B.few in
      ap (take (n + 1)) (B.are ∙ ap (counted (flatten (upper C))) e ∙
      ap (λ (k : List ℕ). counted k (cleared 0 (n + 1) d)) (sym (rows_are w)))
      ∙ counted_are w (n + 1) d refl l

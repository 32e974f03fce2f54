-- What `read_upper` tells, and what `decide` makes of it: each step, and each way out. Assumes nothing.
use Rattle.std.proofs.Common.{◌≡◌, ℕ, ◌+◌, ◌<◌, ◌≤◌, Bool, true, false, not, ◌&&◌, ltb, Option, List, [], ◌∷◌, length, get_or, sym, ap, ◌∙◌}
use Rattle.std.proofs.Common.{true≢false, arith, take_all, le-ltb, lt-ltb}
use mathlib.Core.List.{flatten}
use Rattle.lists.specs.Calls.{lowest, cleared}
use Rattle.lists.specs.Parts.{part, placed}
use Rattle.lists.specs.Keeping.{Kept, Zeros}
use Rattle.lists.proofs.Bools.{and-true, not-both, alike}
use Rattle.lists.proofs.Clearing.{length-cleared}
use Rattle.lists.proofs.Keeping.{kept_then, kept-wider, kept-cleared, kept-onto, kept-placed}
use Rattle.lists.proofs.Laying.{part_long}
use Rattle.lists.specs.Order.{starts_with}
use Rattle.lists.proofs.Matching.{starts_places, starts-at, starts_long}
use Rattle.cs_matrix.specs.Matrix.{pattern, ValidPattern}
use Rattle.cs_tree.specs.Backward.{Holds}
use Rattle.cs_tree.specs.Pattern.{Analysis, analysed, upper, lower, transposed, starts, entries}
use Rattle.cs_tree.specs.Steps.{Given, Whole}
use Rattle.cs_tree.specs.Tree.{tree}
use Rattle.cs_tree.proofs.Count.{length-starts}
use Rattle.cs_tree.proofs.Laid.{length-laid, start-at}
use Rattle.cs_tree.proofs.Laws.{fill_upper}
use Rattle.cs_tree.proofs.Promises.{promised, filled}
use Rattle.cs_pattern.specs.Columns.{columns}
use Rattle.cs_pattern.specs.Compare.{same, tight}
use Rattle.cs_pattern.specs.Steps.{Counted, Outlined, Known}
use Rattle.cs_pattern.proofs.Columns.{columns_fit, columns_long}
use Rattle.cs_pattern.proofs.Filled.{tree-size, upper-size, tree-part, outline_asks}

-- ---- what the slices hold, as records and as tests
module _ {n : ℕ} {p i : List ℕ} (v : ValidPattern (pattern n n p i)) (up ui : List ℕ) where
  abbrev U : List (List ℕ)
  U = upper (columns (pattern n n p i))

  starts-size : length (starts 0 U) ≡ n + 1
  starts-size = omega (arith, length-starts 0 U, upper-size v)

  module _ (d : Holds (columns (pattern n n p i)) up ui) where
    pub end_is : get_or up n 0 ≡ entries U
    end_is = d.pointed.at n (omega (arith, upper-size v)) ∙ ap entries (take_all n U (omega (arith, upper-size v)))

    pub up_long : n < length up
    up_long = omega (arith, d.pointed.long, upper-size v)

    up_same : starts_with (starts 0 U) up ≡ true
    up_same =
        starts_places (starts 0 U) up (omega (arith, length-starts 0 U, d.pointed.long))
        (λ k l. let m : k ≤ length U = omega (arith, length-starts 0 U) in start-at U k m ∙ sym (d.pointed.at k m))

    ui_same : starts_with (flatten U) ui ≡ true
    ui_same = starts_places (flatten U) ui (omega (arith, length-laid U, d.room)) (λ k l. sym (d.laid k (omega (arith, length-laid U))))

  holds : starts_with (starts 0 U) up ≡ true → starts_with (flatten U) ui ≡ true → Holds (columns (pattern n n p i)) up ui
  holds a b =
      record {
        pointed =
            record {
              long = omega (arith, starts_long (starts 0 U) up a, starts-size, upper-size v);
              at = λ k m. sym (starts-at (starts 0 U) up a k (omega (arith, starts-size, upper-size v))) ∙ start-at U k m;
            };
        room = omega (arith, starts_long (flatten U) ui b, length-laid U);
        laid = λ q m. sym (starts-at (flatten U) ui b q (omega (arith, length-laid U)));
      }

-- ---- `read_upper`
module _ {n : ℕ} {p i : List ℕ} (v : ValidPattern (pattern n n p i)) (tr up ui : List ℕ) where
  abbrev C : List (List ℕ)
  C = columns (pattern n n p i)

  abbrev Told : Type 0
  Told = Known C tr up ui

  pub untold : {w1 w1a w2 w2a : List ℕ} → (Told → ⊥) → Kept 0 n w1 w1a → Kept 0 n w2 w2a → (false ≡ true → Told) × (Told → false ≡ true) ×
      Kept 0 n w1 w1a × Kept 0 n w2 w2a
  untold d a b = (λ z. absurd (true≢false (sym z)), λ z. absurd (d z), a, b)

  pub up-short : length up ≤ n → Told → ⊥
  up-short h d = omega (arith, up_long v up ui d.holds)

  pub up_many : 4194304 < get_or up n 0 → Told → ⊥
  up_many h d = omega (arith, end_is v up ui d.holds, d.few)

  module _ (w1 w2 a : List ℕ) {t : List ℕ} (l1 : n ≤ length w1) (l2 : n ≤ length w2) (e : t ≡ tree C) (f : length a ≡ length (part 0 n w2)) where
    kept_1 : Kept 0 n w1 (placed 0 n w1 t)
    kept_1 = kept-placed n w1 t (ap length e ∙ tree-size v) l1

    kept_2 : Kept 0 n w2 (placed 0 n w2 a)
    kept_2 = kept-placed n w2 a (f ∙ part_long n w2 l2) l2

    module _ {r : Bool} (s : r ≡ starts_with (part 0 n (placed 0 n w1 t)) tr) where
      tree_is : starts_with (tree C) tr ≡ r
      tree_is = ap (λ (y : List ℕ). starts_with y tr) (sym (tree-part v w1 e)) ∙ sym s

      module _ {w2b : List ℕ} (g : w2b ≡ cleared 0 n (placed 0 n w2 a)) where
        pub told : {q : Bool} (b : List ℕ) → r ≡ true → length b ≡ length (part 0 n w2b) → get_or up n 0 ≤ 4194304 → (q ≡ true → Holds C up ui) ×
            (Holds C up ui → q ≡ true)
            → (q ≡ true → Told) × (Told → q ≡ true) × Kept 0 n w1 (placed 0 n w1 t) × Kept 0 n w2 (placed 0 n w2b b)
        told b h x few d =
            let m : n ≤ length w2b = rw (g, length-cleared 0 n (placed 0 n w2 a), kept_2.long) l2 in (
              λ z. record { tree_same = tree_is ∙ h; holds = d.0 z; few = omega (arith, end_is v up ui (d.0 z)) },
              λ z. d.1 z.holds,
              kept_1,
              kept_then kept_2 (kept_then (kept-cleared n g) (kept-placed n w2b b (x ∙ part_long n w2b m) m)),
            )

    pub read_asks : {w2b : List ℕ} → w2b ≡ cleared 0 n (placed 0 n w2 a) → n < length up
        → ValidPattern (pattern n n p i) × Given C (part 0 n (placed 0 n w1 t)) × (length (part 0 n w2b) ≡ n) × Zeros (part 0 n w2b) ×
        (n < length up)
    read_asks g u = let b = outline_asks v w1 w2 w1 a l1 l2 l1 e f g in (b.0, b.1, b.2, b.3, u)

-- ---- `decide`
module _ {n : ℕ} {p i : List ℕ} (v : ValidPattern (pattern n n p i)) (w1 w2 w3 : List ℕ) (l1 : n + 1 ≤ length w1) (l2 : n + 1 ≤ length w2)
    (l3 : n + 1 ≤ length w3) where
  abbrev D : List (List ℕ)
  D = columns (pattern n n p i)

  abbrev number : ℕ → Analysis → ℕ
  number room held = lowest ((7, tight room (analysed D)) ∷ (8, not (same (analysed D) held)) ∷ [])

  -- the tree and U are held
  module _ (room : ℕ) (held : Analysis) {t : ℕ} (e : t ≡ get_or held.up n 0) (T : Known D held.tree held.up held.ui) where
    size : t ≡ entries (upper D)
    size = e ∙ end_is v held.up held.ui T.holds

    whole : Whole n t held.up held.ui
    whole =
        record {
          us = upper D;
          small = v.cols;
          count = upper-size v;
          once = (promised D (columns_fit v)).once;
          below = λ k x m. omega (arith, fill_upper D (filled D (columns_fit v) m), columns_long v);
          pointed = T.holds.pointed;
          size = size;
          few = omega (arith, size, T.few);
          room = omega (arith, size, T.holds.room);
          laid = T.holds.laid;
        }

    wide_is : tight room (analysed D) ≡ ltb room t
    unfolding tight analysed
    wide_is = rw (length-laid (upper D), ← size, le-ltb 4194304 t (omega (arith, size, T.few)))

    same-is : same (analysed D) held ≡ (starts_with (starts 0 (lower D)) held.lp && starts_with (flatten (lower D)) held.li)
    unfolding same analysed
    same-is = rw (T.tree_same, up_same v held.up held.ui T.holds, ui_same v held.up held.ui T.holds)

    pub lower_asks : Whole n t held.up held.ui × (n ≤ length w3)
    lower_asks = (whole, omega arith)

    pub decided : {w1a w2a w3b : List ℕ} {r : ℕ} → Kept 0 n w1 w1a → Kept 0 n w2 w2a
        → ((w : Whole n t held.up held.ui) → r ≡ lowest ((7, ltb room t) ∷
        (8, not (starts_with (starts 0 (transposed w.us)) held.lp && starts_with (flatten (transposed w.us)) held.li)) ∷ [])) × Kept 0 n w3 w3b
        → (r ≡ number room held) × Kept 0 (n + 1) w1 w1a × Kept 0 (n + 1) w2 w2a × Kept 0 (n + 1) w3 w3b
    unfolding whole lower
    decided k1 k2 g = (
      rw (wide_is, same-is) (g.0 whole),
      kept-wider (n + 1) (omega arith) k1,
      kept-wider (n + 1) (omega arith) k2,
      kept-wider (n + 1) (omega arith) g.1,
    )

  -- they are not: U's entries are counted
  module _ {w1a w2a : List ℕ} (k1 : Kept 0 n w1 w1a) (k2 : Kept 0 n w2 w2a) where
    module _ (room : ℕ) (held : Analysis) {t : Option ℕ} {w1b w2b w3b : List ℕ} (B : Outlined D n t w1a w1b w2a w2b w3 w3b) where
      abbrev Answers : ℕ → Type 0
      Answers r = (r ≡ number room held) × Kept 0 (n + 1) w1 w1b × Kept 0 (n + 1) w2 w2b × Kept 0 (n + 1) w3 w3b

      answers : {r : ℕ} → r ≡ number room held → Answers r
      answers e = (
        e,
        kept-wider (n + 1) (omega arith) (kept_then k1
            (rw B.tree_is (kept-onto n w1a (tree D) (omega (arith, tree-size v)) (omega (arith, tree-size v, k1.long))))),
        kept-wider (n + 1) (omega arith) (kept_then k2 B.kept2),
        kept-wider (n + 1) (omega arith) B.kept3,
      )

      ui_size : length (analysed D).ui ≡ entries (upper D)
      unfolding analysed
      ui_size = length-laid (upper D)

      pub counted_many : 4194304 < entries (upper D) → Answers 7
      unfolding tight
      counted_many h = answers (rw (ui_size, lt-ltb 4194304 (entries (upper D)) h))

      module _ {m : ℕ} (C : Counted (upper D) w3 w3b m) where
        pub counted-tight : room < m → Answers 7
        unfolding tight
        counted-tight h = answers (rw (
          ui_size,
          le-ltb 4194304 (entries (upper D)) (omega (arith, C.size, C.few)),
          lt-ltb room (entries (upper D)) (omega (arith, C.size)),
        ))

        module _ (l : m ≤ room) {r : Bool} (z : r ≡ false) (d : Known D held.tree held.up held.ui → r ≡ true) where
          wide_enough : tight room (analysed D) ≡ false
          unfolding tight
          wide_enough = rw (
            ui_size,
            le-ltb 4194304 (entries (upper D)) (omega (arith, C.size, C.few)),
            le-ltb room (entries (upper D)) (omega (arith, C.size)),
          )

          known : same (analysed D) held ≡ true → Known D held.tree held.up held.ui
          unfolding same analysed
          known h =
              let a = (and-true (starts_with (tree D) held.tree && starts_with (starts 0 (upper D)) held.up &&
              starts_with (flatten (upper D)) held.ui) _ h).0 in
              let b = and-true (starts_with (tree D) held.tree && starts_with (starts 0 (upper D)) held.up) _ a in
              let g = and-true (starts_with (tree D) held.tree) _ b.0 in
              record { tree_same = g.0; holds = holds v held.up held.ui g.1 b.1; few = omega (arith, C.size, C.few) }

          differ : same (analysed D) held ≡ false
          differ = alike (same (analysed D) held) false (λ h. absurd (not-both _ (d (known h)) z)) (λ h. absurd (true≢false (sym h)))

          pub counted_differs : Answers 8
          counted_differs = answers (rw (wide_enough, differ))

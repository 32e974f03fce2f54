-- What `analyse` answers and leaves, at each of its ways out. Assumes nothing.
use Rattle.std.proofs.Common.{◌≡◌, ℕ, ◌+◌, ◌-◌, ◌^◌, ◌<◌, ◌≤◌, Option, Bool, true, false, cond, ◌||◌, eqb, ltb, List, [], ◌∷◌, ◌++◌, length, get_or}
use Rattle.std.proofs.Common.{sym, refl, ap, ◌∙◌, append_assoc, arith, ltb-false, lt-ltb, le-ltb}
use mathlib.Core.List.{flatten}
use lib.Ieee.{Float}
use Rattle.lists.specs.Calls.{lowest, onto, none, cleared, Scratch, scratch, wiped, narrow, Lent, lent, leaves}
use Rattle.lists.specs.Parts.{part, placed}
use Rattle.lists.specs.Keeping.{Kept, Zeros}
use Rattle.lists.specs.Sums.{sums}
use Rattle.lists.specs.Runs.{zipped}
use Rattle.lists.proofs.Runs.{zipped-values}
use Rattle.lists.proofs.Bools.{or-false}
use Rattle.lists.proofs.Calls.{first, then, early, late, done, wiped_each}
use Rattle.lists.proofs.Clearing.{length-cleared, cleared-again}
use Rattle.lists.proofs.Laying.{part-onto, part_long}
use Rattle.lists.proofs.Parts.{length_part, length-placed, get_d_part, length-onto, get_or-onto-front, get_or-onto-rest}
use Rattle.lists.proofs.Places.{placed-after}
use Rattle.lists.proofs.Keeping.{kept_then, kept-wider, kept-cleared, kept-onto, kept-placed, kept_clears}
use Rattle.cs_matrix.specs.Matrix.{Pattern, pattern, needed, ValidPattern, judged_square}
use Rattle.cs_matrix.proofs.Squaring.{judged6, early_6, Prepared, unprepared}
use Rattle.cs_tree.specs.Pattern.{Analysis, analysis, analysed, upper, lower, starts, entries}
use Rattle.cs_tree.specs.Steps.{Given}
use Rattle.cs_tree.specs.Falling.{Ending, Ample}
use Rattle.cs_tree.specs.Tree.{tree}
use Rattle.cs_tree.proofs.Count.{length-starts, entries-lower}
use Rattle.cs_tree.proofs.Laid.{length-laid, start-at}
use Rattle.cs_tree.proofs.Lowering.{fronts, sums_a, sums_b}
use Rattle.cs_tree.proofs.Promises.{length-lower}
use Rattle.cs_pattern.specs.Analyse.{short, written, number}
use Rattle.cs_pattern.specs.Columns.{columns}
use Rattle.cs_pattern.specs.Promise.{Analysed}
use Rattle.cs_pattern.specs.Steps.{Counted, Outlined, Ready}
use Rattle.cs_pattern.proofs.Columns.{columns_fit, columns_long, given}
use Rattle.cs_pattern.proofs.Filled.{tree-size, upper-size, zeros-front, counts_there}
use Rattle.cs_pattern.proofs.Promising.{analysed_holds}

-- ---- `fill`
module _ {n t : ℕ} {p i : List ℕ} (v : ValidPattern (pattern n n p i)) {w1 w2 w3 : List ℕ} {out : Analysis}
    (r : Ready (columns (pattern n n p i)) n t w1 w2 w3 out) where
  abbrev C : List (List ℕ)
  C = columns (pattern n n p i)

  abbrev L : List (List ℕ)
  L = lower C

  many : n + 1 ≡ length L + 1
  many = omega (arith, length-lower C (columns_fit v), columns_long v)

  small : entries L < 2 ^ 32
  small = omega (arith, entries-lower C (columns_fit v), r.size, r.few)

  -- what is summed up: the counts are where each column of L starts, and so are the pointers
  module _ {a : List ℕ} (x : a ≡ onto (part 0 (n + 1) w3) (sums 0 (fronts (n + 1) w3 out.lp))) where
    next_is : placed 0 (n + 1) w3 a ≡ onto w3 (starts 0 L)
    next_is = sums_a L (n + 1) w3 out.lp many r.w3_long r.lp_room r.lengths_are small x

    starts-size : length (starts 0 L) ≡ n + 1
    starts-size = omega (arith, length-starts 0 L, many)

    next_long : length (placed 0 (n + 1) w3 a) ≡ length w3
    next_long = rw next_is (length-onto w3 (starts 0 L) (omega (arith, starts-size, r.w3_long)))

    next-end : n + 1 ≤ length (placed 0 (n + 1) w3 a)
    next-end = rw next_long r.w3_long

    next-part : length (part 1 (n + 1) (placed 0 (n + 1) w3 a)) ≡ n
    next-part = length_part 1 (n + 1) (placed 0 (n + 1) w3 a) next-end ∙ (let z : n + 1 - 1 ≡ n = omega arith in z)

    ending : Ending L (part 1 (n + 1) (placed 0 (n + 1) w3 a))
    ending =
        record {
          long = omega (arith, next-part, many);
          at =
              λ j l.
              let e : 1 + j ≡ j + 1 = omega arith in
              get_d_part 1 (n + 1) (placed 0 (n + 1) w3 a) j 0 (omega (arith, many)) ∙ ap (λ (d : List ℕ). get_or d (1 + j) 0) next_is ∙
              ap (λ (q : ℕ). get_or (onto w3 (starts 0 L)) q 0) e
              ∙ get_or-onto-front w3 (starts 0 L) 0 (j + 1) (omega (arith, starts-size, many)) ∙ start-at L (j + 1) (omega arith);
        }

    pub fill_columns_asks : {w : List ℕ} → w ≡ cleared 0 n w2
        → ValidPattern (pattern n n p i) × Given C (part 0 n w1) × (length (part 0 n w) ≡ n) × Zeros (part 0 n w) ×
        Ample C t out.up out.ui (part 1 (n + 1) (placed 0 (n + 1) w3 a)) out.li
    fill_columns_asks {w = w} e = (
      v,
      given v r.tree_is,
      part_long n w (rw (e, length-cleared 0 n w2) r.w2_long),
      zeros-front n w2 r.w2_long e,
      record {
        size = r.size;
        few = r.few;
        up_room = omega (arith, columns_long v, r.up_room);
        ui_room = r.ui_room;
        li_room = r.li_room;
        ends = ending;
      },
    )

    -- the counts once they have been used up
    next-back : (ys : List ℕ) → length ys ≡ length (part 1 (n + 1) (placed 0 (n + 1) w3 a)) → length (placed 1 (n + 1) (placed 0 (n + 1) w3 a) ys)
        ≡ length w3
    next-back ys e = length-placed 1 (n + 1) (placed 0 (n + 1) w3 a) ys (omega arith) next-end (omega (arith, next-part)) ∙ next_long

    next-kept : (ys : List ℕ) → length ys ≡ length (part 1 (n + 1) (placed 0 (n + 1) w3 a)) →
        Kept 0 (n + 1) w3 (placed 1 (n + 1) (placed 0 (n + 1) w3 a) ys)
    next-kept ys e =
        record {
          long = next-back ys e;
          rest = λ q l. placed-after 0 1 (n + 1) (placed 0 (n + 1) w3 a) ys (omega arith) next-end (omega (arith, next-part)) q l ∙
              ap (λ (d : List ℕ). get_or d q 0) next_is
              ∙ get_or-onto-rest w3 (starts 0 L) 0 q (omega (arith, starts-size));
        }

  copy_asks : length (part 0 n w1) ≤ length out.tree
  copy_asks = rw (part_long n w1 r.w1_long) r.tree_room

  pub filled_out : {tr up ui li w2a a b : List ℕ} (ys zs : List ℕ) → tr ≡ zipped (λ _ v. v) out.tree (part 0 n w1)
      → (a ≡ onto (part 0 (n + 1) w3) (sums 0 (fronts (n + 1) w3 out.lp))) → (b ≡ onto (part 0 (n + 1) out.lp) (sums 0 (fronts (n + 1) w3 out.lp)))
      → (up ≡ onto out.up (starts 0 (upper C))) × (ui ≡ onto out.ui (flatten (upper C))) × (li ≡ onto out.li (flatten L))
      → length zs ≡ length (part 1 (n + 1) (placed 0 (n + 1) w3 a)) → w2a ≡ cleared 0 n w2 → length ys ≡ length (part 0 n w2a)
      → (analysis tr up ui (placed 0 (n + 1) out.lp b) li ≡ written (analysed C) out) × Kept 0 (n + 1) w2 (placed 0 n w2a ys) ×
      Kept 0 (n + 1) w3 (placed 1 (n + 1) (placed 0 (n + 1) w3 a) zs)
  unfolding written analysed
  filled_out {w2a = w2a} ys zs d x y g z h m =
      let l : n ≤ length w2a = rw (h, length-cleared 0 n w2) r.w2_long in
      let c = d ∙ zipped-values out.tree (part 0 n w1) copy_asks ∙ ap (onto out.tree) r.tree_is in
      let f = sums_b L (n + 1) w3 out.lp many r.w3_long r.lp_room r.lengths_are small y in (
        λ q. analysis (c q) (g.0 q) (g.1 q) (f q) (g.2 q),
        kept-wider (n + 1) (omega arith) (kept_then (kept-cleared n h) (kept-placed n w2a ys (m ∙ part_long n w2a l) l)),
        next-kept x zs z,
      )

-- ---- `analyse`
number_is : (a : Pattern) (old : Lent Analysis) → number a old ≡ lowest (judged6 a old.work ++ ((7, short (analysed (columns a)) old.out) ∷ []))
unfolding number
number_is a old = ap lowest (sym (append_assoc (judged_square a) ((6, narrow (needed a) old.work) ∷ [])
    ((7, short (analysed (columns a)) old.out) ∷ [])))

pub at-refused : (a : Pattern) (out : Analysis) (old s : Scratch) {r : ℕ} → (r ≡ lowest (judged6 a old)) ×
    (s ≡ cond (eqb r 0) (wiped (needed a) old) old) → (r ≡ 0 → ⊥)
    → (r ≡ number a (lent out old)) × (lent out s ≡ leaves r (needed a) (written (analysed (columns a)) out) (lent out old)) ×
    (r ≡ 0 → Analysed a out)
at-refused a out old s e h = (
  first (judged6 a old) _ e.0 h ∙ sym (number_is a (lent out old)),
  ap (lent out) (unprepared a old s e h) ∙ early (judged6 a old) (early_6 a old) (needed a) _ (lent out old) e.0 h,
  λ z. absurd (h z),
)

-- numbers 1 to 6 have passed
module _ {nrows n : ℕ} {p i w1 w2 w3 : List ℕ} {x : List Float} {old : Scratch} (P : Prepared (pattern nrows n p i) old (scratch w1 w2 w3 x)) where
  abbrev D : List (List ℕ)
  D = columns (pattern n n p i)

  pub square_valid : ValidPattern (pattern n n p i)
  square_valid =
      let v = P.valid in
      record {
        rows = v.cols;
        cols = v.cols;
        entries = v.entries;
        p_long = v.p_long;
        ptrs = v.ptrs;
        below = λ k l. omega (arith, v.below k l, P.square);
        rise = v.rise;
      }

  w1_is : w1 ≡ cleared 0 (n + 1) old.w1
  unfolding wiped
  w1_is = ap (λ (s : Scratch). s.w1) P.clear

  w2_is : w2 ≡ cleared 0 (n + 1) old.w2
  unfolding wiped
  w2_is = ap (λ (s : Scratch). s.w2) P.clear

  w3_is : w3 ≡ cleared 0 (n + 1) old.w3
  unfolding wiped
  w3_is = ap (λ (s : Scratch). s.w3) P.clear

  x_is : x ≡ cleared none (n + 1) old.x
  unfolding wiped
  x_is = ap (λ (s : Scratch). s.x) P.clear

  pub long1 : n + 1 ≤ length w1
  long1 = rw (w1_is, length-cleared 0 (n + 1) old.w1) P.wide.in_w1

  pub long2 : n + 1 ≤ length w2
  long2 = rw (w2_is, length-cleared 0 (n + 1) old.w2) P.wide.in_w2

  pub long3 : n + 1 ≤ length w3
  long3 = rw (w3_is, length-cleared 0 (n + 1) old.w3) P.wide.in_w3

  pub begin_asked : ValidPattern (pattern n n p i) × (n ≤ length w1) × (n ≤ length w2) × (n ≤ length w3)
  begin_asked = (square_valid, omega (arith, long1), omega (arith, long2), omega (arith, long3))

  -- once the scratch is cleared again
  pub cleared-up : {w1' w2' w3' : List ℕ} {s : Scratch} → Kept 0 (n + 1) w1 w1' → Kept 0 (n + 1) w2 w2' → Kept 0 (n + 1) w3 w3' →
      s ≡ wiped (n + 1) (scratch w1' w2' w3' x) → s ≡ wiped (n + 1) old
  unfolding wiped
  cleared-up a b c e =
      e
      ∙ wiped_each (n + 1) old
      (kept_clears a ∙ ap (cleared 0 (n + 1)) w1_is ∙ cleared-again 0 (n + 1) old.w1)
      (kept_clears b ∙ ap (cleared 0 (n + 1)) w2_is ∙ cleared-again 0 (n + 1) old.w2)
      (kept_clears c ∙ ap (cleared 0 (n + 1)) w3_is ∙ cleared-again 0 (n + 1) old.w3)
      (ap (cleared none (n + 1)) x_is ∙ cleared-again none (n + 1) old.x)

  module _ {o : Option ℕ} {w1' w2' w3' : List ℕ} (B : Outlined D n o w1 w1' w2 w2' w3 w3') where
    pub kept1 : Kept 0 (n + 1) w1 w1'
    kept1 = rw B.tree_is (kept-onto (n + 1) w1 (tree D) (omega (arith, tree-size square_valid)) (omega (arith, tree-size square_valid, long1)))

    pub kept2' : Kept 0 (n + 1) w2 w2'
    kept2' = kept-wider (n + 1) (omega arith) B.kept2

    pub kept3' : Kept 0 (n + 1) w3 w3'
    kept3' = kept-wider (n + 1) (omega arith) B.kept3

    module _ (out : Analysis) where
      abbrev E : ℕ
      E = entries (upper D)

      li_size : length (flatten (lower D)) ≡ E
      li_size = length-laid (lower D) ∙ entries-lower D (columns_fit square_valid)

      up-size : length (starts 0 (upper D)) ≡ n + 1
      up-size = omega (arith, length-starts 0 (upper D), upper-size square_valid)

      lp_size : length (starts 0 (lower D)) ≡ n + 1
      lp_size = omega (arith, length-starts 0 (lower D), length-lower D (columns_fit square_valid), columns_long square_valid)

      sizes : short (analysed D) out ≡ (ltb 4194304 E || ltb (length out.tree) n || ltb (length out.up) (n + 1) || ltb (length out.ui) E ||
          ltb (length out.lp) (n + 1) || ltb (length out.li) E)
      unfolding short analysed
      sizes = rw (length-laid (upper D), tree-size square_valid, up-size, lp_size, li_size)

      abbrev a : Pattern
      a = pattern nrows n p i

      abbrev Answers : ℕ → Analysis → Scratch → Type 0
      Answers r new s = (r ≡ number a (lent out old)) ×
          (lent new s ≡ leaves r (needed a) (written (analysed (columns a)) out) (lent out old)) × (r ≡ 0 → Analysed a new)

      answer : {b : Bool} → b ≡ short (analysed D) out → number a (lent out old) ≡ cond b 7 0
      unfolding columns
      answer {b = b} e =
          number_is a (lent out old) ∙ sym (then (judged6 a old) ((7, short (analysed (columns a)) out) ∷ []) (early_6 a old) P.none refl) ∙
          ap (λ (c : Bool). cond c 7 0) (sym e)

      pub at_7 : true ≡ short (analysed D) out → {s : Scratch} → s ≡ wiped (n + 1) (scratch w1' w2' w3' x) → Answers 7 out s
      at_7 e f = (
        sym (answer e),
        late 7 (needed a) _ (lent out old) (omega arith) (omega arith) (cleared-up kept1 kept2' kept3' f ∙ ap (λ (k : ℕ). wiped k old) (sym P.need)),
        λ z. absurd (omega arith),
      )

      -- too many entries
      pub many_7 : 4194304 < E → {s : Scratch} → s ≡ wiped (n + 1) (scratch w1' w2' w3' x) → Answers 7 out s
      many_7 h = at_7 (rw (sizes, lt-ltb 4194304 E h))

      analysed-as : Analysed (pattern n n p i) (written (analysed D) out) → Analysed a (written (analysed D) out)
      unfolding columns
      analysed-as q = record { promised = q.promised; u_size = q.u_size; l_size = q.l_size; valid = q.valid }

      same-columns : written (analysed (columns a)) out ≡ written (analysed D) out
      unfolding columns
      same-columns = refl

      -- t entries, and the outputs are long enough or not
      module _ {t : ℕ} (C : Counted (upper D) w3 w3' t) {b : Bool} (e : b ≡ (ltb (length out.tree) n || ltb (length out.up) (n + 1) ||
          ltb (length out.ui) t || ltb (length out.lp) (n + 1) || ltb (length out.li) t))
        where
          short-is : b ≡ short (analysed D) out
          short-is = e ∙ (rw (sizes, ← C.size, le-ltb 4194304 t C.few))

          pub short_7 : b ≡ true → {s : Scratch} → s ≡ wiped (n + 1) (scratch w1' w2' w3' x) → Answers 7 out s
          short_7 h = at_7 (sym h ∙ short-is)

          pub ready : b ≡ false → ValidPattern (pattern n n p i) × Ready D n t w1' w2' w3' out
          ready h =
              let q5 = or-false (ltb (length out.tree) n || ltb (length out.up) (n + 1) || ltb (length out.ui) t || ltb (length out.lp) (n + 1)) _
              (sym e ∙ h) in
              let q4 = or-false (ltb (length out.tree) n || ltb (length out.up) (n + 1) || ltb (length out.ui) t) _ q5.0 in
              let q3 = or-false (ltb (length out.tree) n || ltb (length out.up) (n + 1)) _ q4.0 in
              let q2 = or-false (ltb (length out.tree) n) _ q3.0 in (
                square_valid,
                record {
                  tree_is = rw B.tree_is (part-onto n w1 (tree D) (tree-size square_valid));
                  w1_long = omega (arith, kept1.long, long1);
                  w2_long = omega (arith, kept2'.long, long2);
                  w3_long = omega (arith, kept3'.long, long3);
                  lengths_are = counts_there square_valid old.w3 C w3_is P.wide.in_w3;
                  size = C.size;
                  few = C.few;
                  tree_room = ltb-false _ _ q2.0;
                  up_room = ltb-false _ _ q2.1;
                  ui_room = ltb-false _ _ q3.1;
                  lp_room = ltb-false _ _ q4.1;
                  li_room = ltb-false _ _ q5.1;
                },
              )

          pub at-end : {new : Analysis} {w2f w3f : List ℕ} → b ≡ false
              → (new ≡ written (analysed D) out) × Kept 0 (n + 1) w2' w2f × Kept 0 (n + 1) w3' w3f → {s : Scratch}
              → s ≡ wiped (n + 1) (scratch w1' w2f w3f x) → Answers 0 new s
          at-end h g f = (
            sym (answer short-is ∙ ap (λ (c : Bool). cond c 7 0) h),
            done (needed a) _ (lent out old) (g.0 ∙ sym same-columns) (cleared-up kept1 (kept_then kept2' g.1) (kept_then kept3' g.2) f ∙
                ap (λ (k : ℕ). wiped k old) (sym P.need)),
            λ z. rw g.0 (analysed-as (analysed_holds square_valid out (omega (arith, C.size, C.few)))),
          )

-- The loops of `count` and `fill`, and the ways out of `serve` and `product`. Assumes nothing.
use mathlib.Core.Path.{◌≡◌, refl, sym, ap as cong, ◌∙◌}
use mathlib.Core.Bool.{Bool, true, false, not, cond, ◌&&◌}
use mathlib.Core.List.{List, [], ◌∷◌, map}
use Prim.Native.Nat.{ℕ, ◌+◌, ◌-◌, ◌*◌, ◌≤◌, ◌<◌, min, max}
use native.Mathlib.Omega.{arith}
use lib.Dec.{ltb, eqb}
use lib.Ieee.{Float, nan}
use lib.ListN.{length, get_or, set, replicate, length-map, length-replicate, get_or-replicate}
use borrow.Author.Tests.{eqb-true}
use Rattle.lists.specs.Calls.{lowest, none, narrow, Scratch, scratch, cleared, wiped, Lent, lent, outputs, worked, leaves}
use Rattle.lists.specs.Choices.{chosen}
use Rattle.lists.specs.Parts.{part, placed}
use Rattle.lists.proofs.Bools.{not_holds, passed_over}
use Rattle.lists.proofs.Calls.{first, then, early, kept, left_alone, left-written, wiped_each, not_narrow}
use Rattle.lists.proofs.Clearing.{length-cleared, cleared-front, cleared-again}
use Rattle.lists.proofs.Laying.{part_long}
use Rattle.lists.proofs.Returning.{front-zeros, cleared-after}
use Rattle.lists.proofs.Tables.{length-table}
use Rattle.cs_matrix.specs.Matrix.{Matrix, Stored, stored, short, written, Valid}
use Rattle.cs_matrix.specs.Columns.{IsColumn}
use Rattle.cs_columns.specs.Columns.{joined, with_columns, with_entries, laid, judged_two, short_for}
use Rattle.cs_columns.proofs.Filling.{Filling, filling_start, filling_turn, filling_end, filling_at, filling_i, filling_v, room_i, room_v, room_p}
use Rattle.cs_columns.proofs.Filling.{room-all}
use Rattle.cs_matrix.proofs.Handing.{column-alike, column-few, column-below}
use Rattle.cs_columns.proofs.Joining.{joined-none, length_more, joined_alike, entries-within, entries_valid}
use Rattle.cs_columns.proofs.Judging.{alone_7, early_two, Passed, passed, Roomy, roomy, short_fewer, short_for_lem}
use Rattle.cs_product.specs.Product.{accumulated, remains, row_of, value_of, product, needed_two, number}
use Rattle.cs_product.specs.Steps.{column_of, Within, Spanned, size, Fresh, Starting, Column, Factors, Begun, Ready, Clean}
use Rattle.cs_product.proofs.Spanning.{column_few}

module _ (a b : Matrix) where
  abbrev nrows : ℕ
  nrows = a.pattern.nrows

  abbrev bncols : ℕ
  bncols = b.pattern.ncols

  abbrev bp : List ℕ
  bp = b.pattern.p

  abbrev bi : List ℕ
  bi = b.pattern.i

  abbrev bv : List Float
  bv = b.v

  abbrev rows : ℕ → List ℕ
  rows j = chosen nrows (row_of a b j)

  abbrev vals : ℕ → List Float
  vals j = map (value_of a b j) (rows j)

  size_is : size a b ≡ length (joined rows bncols)
  unfolding size
  size_is = refl

  -- ---- a column of B, handed on
  module _ (both : Factors a b) {j : ℕ} (h : j < bncols) {us : List ℕ} {ys : List Float} (d : IsColumn b j us ys) where
    below : (q : ℕ) → q < length us → get_or us q 0 < a.pattern.ncols
    below = rw both.inner (column-below both.second h d)

    few : length us ≤ 4194304
    few = omega (arith, column-few both.second h d, both.second.pattern.entries)

    starting : {stamp : ℕ} {mark met : List ℕ} {x : List Float} → Fresh nrows stamp mark met x → Starting a stamp us ys mark met x
    starting r = record { valid = both.first; alike = column-alike both.second h d; few = few; below = below; fresh = r }

    column-same : column_of a us ys ≡ accumulated a b j
    unfolding column_of accumulated
    column-same = rw (d.rows_are, d.vals_are)

    rows_are : chosen nrows (remains (column_of a us ys)) ≡ rows j
    unfolding row_of
    rows_are = cong (λ (w : List Float). chosen nrows (remains w)) column-same

    vals_are : map (λ (r : ℕ). get_or (column_of a us ys) r nan) (chosen nrows (remains (column_of a us ys))) ≡ vals j
    unfolding row_of value_of
    vals_are = cong (λ (w : List Float). map (λ (r : ℕ). get_or w r nan) (chosen nrows (remains w))) column-same

  -- ---- `count`
  pub record Tallying (mark met : List ℕ) (x : List Float) (entries j : ℕ) : Type 0 where
    pub begun : Begun a b (j + 1) mark met x
    pub within : j ≤ bncols
    pub is : entries ≡ length (joined rows j)

  pub tallying_start : {mark met : List ℕ} {x : List Float} → Begun a b 1 mark met x → Tallying mark met x 0 0
  tallying_start v = record { begun = v; within = omega arith; is = sym (cong length (joined-none rows)) }

  module _ {mark met : List ℕ} {x : List Float} {entries j : ℕ} (t : Tallying mark met x entries j) where
    module _ (h : j < bncols) {us : List ℕ} {ys : List Float} (d : IsColumn b j us ys) where
      pub tallying_asks : Starting a (j + 1) us ys mark met x
      tallying_asks = starting t.begun.factors h d t.begun.fresh

      module _ {r : ℕ} (k : r ≡ length (chosen nrows (remains (column_of a us ys)))) where
        next : entries + r ≡ length (joined rows (j + 1))
        next = omega (arith, t.is, k, cong length (rows_are t.begun.factors h d), length_more rows j)

        pub tallying_small : entries + r ≤ 4294901760
        tallying_small = omega (
          arith,
          next,
          entries-within nrows bncols (row_of a b) (value_of a b) (j + 1) t.begun.factors.first.pattern.rows,
          t.begun.factors.second.pattern.cols,
        )

        pub tallying_turn : {mark' met' : List ℕ} {x' : List Float} → Fresh nrows (j + 1 + 1) mark' met' x' →
            Tallying mark' met' x' (entries + r) (j + 1)
        tallying_turn u = record { begun = record { factors = t.begun.factors; fresh = u }; within = omega arith; is = next }

    pub tallying_done : bncols ≤ j → (entries ≡ size a b) × Fresh nrows (bncols + 1) mark met x
    tallying_done h =
        let e : j ≡ bncols = omega (arith, t.within) in
        let u = t.begun.fresh in
        (t.is ∙ cong (λ (k : ℕ). length (joined rows k)) e ∙ sym size_is, rw e at u)

  -- ---- `bound`
  pub record Bounding (most j : ℕ) : Type 0 where
    pub ask : Factors a b
    pub within : j ≤ bncols
    pub enough : length (joined rows j) ≤ most
    pub small : most ≤ 65535 * j

  pub bounding_start : Factors a b → Bounding 0 0
  bounding_start v = record { ask = v; within = omega arith; enough = omega (arith, cong length (joined-none rows)); small = omega arith }

  module _ {most j : ℕ} (t : Bounding most j) where
    module _ (h : j < bncols) {us : List ℕ} {ys : List Float} (d : IsColumn b j us ys) where
      pub bounding_asks : Within a.pattern us
      bounding_asks = record { valid = t.ask.first.pattern; few = few t.ask h d; below = below t.ask h d }

      module _ {lo hi work : ℕ} (q : Spanned a.pattern us lo hi work) {r : ℕ} (m : r ≡ min (hi - lo) work) where
        r_small : r ≤ 65535
        r_small = omega (arith, q.inside, t.ask.first.pattern.rows)

        pub bounding_small : most + r ≤ 4294901760
        bounding_small = omega (arith, r_small, t.small, t.ask.second.pattern.cols)

        pub bounding_turn : Bounding (most + r) (j + 1)
        bounding_turn =
            let w = column_few a q ys (column-alike t.ask.second h d) in
            record {
              ask = t.ask;
              within = omega arith;
              enough = omega (arith, w, t.enough, cong length (rows_are t.ask h d), length_more rows j);
              small = omega (arith, r_small, t.small);
            }

    pub bounding_done : bncols ≤ j → size a b ≤ most
    bounding_done h = let e : j ≡ bncols = omega (arith, t.within) in let l = t.enough in rw size_is (rw e at l)

  -- ---- `check_room`
  abbrev lacks : ℕ → ℕ → ℕ → Bool
  lacks p i w = short_for bncols (size a b) p i w

  module _ {mark met : List ℕ} {x : List Float} (v : Begun a b 1 mark met x) where
    later : Fresh nrows (bncols + 1) mark met x
    later = record {
      small = v.fresh.small;
      mark_long = v.fresh.mark_long;
      met_long = v.fresh.met_long;
      unmarked = λ r h. omega (arith, v.fresh.unmarked r h);
      zeros = v.fresh.zeros;
    }

    pub bound_fits : (p i w : ℕ) {most : ℕ} → size a b ≤ most → false ≡ short_for bncols most p i w → (0 ≡ lowest ((7, lacks p i w) ∷ [])) ×
        Fresh nrows (bncols + 1) mark met x
    bound_fits p i w {most = most} l e = (rw (short_fewer bncols most (size a b) p i w (sym e) l), later)

  pub room-counted : (p i w : ℕ) {t : Bool} {entries : ℕ} → entries ≡ size a b → t ≡ short_for bncols entries p i w →
      cond t 7 0 ≡ lowest ((7, lacks p i w) ∷ [])
  room-counted p i w f e = let g = rw f at e in rw g

  -- ---- `fill`
  pub record Writing (op₀ oi₀ : List ℕ) (ov₀ : List Float) (mark met spare : List ℕ) (x : List Float) (op oi : List ℕ) (ov : List Float)
      (at j : ℕ) : Type 0 where
    pub begun : Begun a b (j + 1) mark met x
    pub spare_long : length spare ≡ nrows
    pub few : length (joined rows bncols) ≤ 4194304
    pub filling : Filling nrows bncols rows vals op₀ oi₀ ov₀ op oi ov at j

  pub writing_start : {mark met spare : List ℕ} {x : List Float} {op oi : List ℕ} {ov : List Float} → Ready a b mark met spare x (stored op oi ov) →
      Writing op oi ov mark met spare x op oi ov 0 0
  unfolding size
  writing_start q =
      record {
        begun = q.begun;
        spare_long = q.spare_long;
        few = q.few;
        filling = filling_start nrows bncols rows vals (record {
          alike = λ j h. sym (length-map (rows j) (value_of a b j));
          in_p = q.in_p;
          in_i = q.in_i;
          in_v = q.in_v;
        });
      }

  module _ {op₀ oi₀ : List ℕ} {ov₀ : List Float} {mark met spare : List ℕ} {x : List Float} {op oi : List ℕ} {ov : List Float} {at j : ℕ}
      (w : Writing op₀ oi₀ ov₀ mark met spare x op oi ov at j) where
    pub writing_small : at ≤ 4194304
    writing_small = omega (arith, filling_at nrows bncols rows vals w.filling, w.few)

    pub writing_p : j < length op
    writing_p = room_p nrows bncols rows vals w.filling

    pub writing_last : bncols ≤ j → bncols < length op
    writing_last h = omega (arith, writing_p, w.filling.within)

    pub writing_i : length oi ≡ length oi₀
    writing_i = filling_i nrows bncols rows vals w.filling

    pub writing_v : length ov ≡ length ov₀
    writing_v = filling_v nrows bncols rows vals w.filling

    module _ (h : j < bncols) {us : List ℕ} {ys : List Float} (d : IsColumn b j us ys) where
      pub writing_asks : Column a (j + 1) us ys at mark met spare x oi ov
      writing_asks =
          let r = rows_are w.begun.factors h d in
          record {
            starting = starting w.begun.factors h d w.begun.fresh;
            spare_long = w.spare_long;
            few = rw r (omega (arith, room-all nrows bncols rows vals w.filling h, w.few));
            in_i = rw r (room_i nrows bncols rows vals w.filling h);
            in_v = rw r (room_v nrows bncols rows vals w.filling h);
          }

      pub writing_turn : {r : ℕ} {mark' met' spare' : List ℕ} {x' : List Float} {oi' : List ℕ} {ov' : List Float} → length spare' ≡ length spare
          → r ≡ at + length (chosen nrows (remains (column_of a us ys)))
          → oi' ≡ laid at oi (chosen nrows (remains (column_of a us ys)))
          → ov' ≡ laid at ov (map (λ (q : ℕ). get_or (column_of a us ys) q nan)
          (chosen nrows (remains (column_of a us ys))))
          → Fresh nrows (j + 1 + 1) mark' met' x' → Writing op₀ oi₀ ov₀ mark' met' spare' x' (set op j at) oi' ov' r (j + 1)
      writing_turn z k l m u =
          let r = rows_are w.begun.factors h d in
          record {
            begun = record { factors = w.begun.factors; fresh = u };
            spare_long = z ∙ w.spare_long;
            few = w.few;
            filling =
                filling_turn nrows bncols rows vals w.filling h
                (k ∙ cong (λ (q : List ℕ). at + length q) r)
                (l ∙ cong (laid at oi) r)
                (m ∙ cong (laid at ov) (vals_are w.begun.factors h d));
          }

    pub writing_done : bncols ≤ j → stored (set op bncols at) oi ov ≡ written (product a b) (stored op₀ oi₀ ov₀)
    unfolding product with_entries
    writing_done h = filling_end nrows bncols rows vals w.filling h

  -- ---- the lengths of the product
  p_long : length (product a b).pattern.p ≡ bncols + 1
  unfolding product with_entries with_columns
  p_long = length-table (bncols + 1) (λ j. length (joined rows j))

  i_long : length (product a b).pattern.i ≡ size a b
  unfolding product with_entries with_columns size
  i_long = refl

  v_long : length (product a b).v ≡ size a b
  unfolding product with_entries with_columns size
  v_long = sym (joined_alike rows vals bncols (λ j h. sym (length-map (rows j) (value_of a b j))))

  product_valid : nrows ≤ 65535 → bncols ≤ 65535 → size a b ≤ 4194304 → Valid (product a b)
  unfolding product size
  product_valid h k m = entries_valid nrows bncols (row_of a b) (value_of a b) h k m

  -- ---- the ways out of `serve`
  fresh_of : {mark met : List ℕ} {x : List Float} → nrows ≤ 65535 → length mark ≡ nrows → length met ≡ nrows →
      ((r : ℕ) → r < nrows → get_or mark r 0 ≡ 0) → x ≡ replicate nrows none → Fresh nrows 1 mark met x
  fresh_of s l m z x = record { small = s; mark_long = l; met_long = m; unmarked = λ r h. omega (arith, z r h); zeros = x }

  module _ {mark met spare : List ℕ} {x : List Float} (c : Clean a b mark met spare x) where
    pub clean_begun : Begun a b 1 mark met x
    clean_begun =
        record {
          factors = c.factors;
          fresh = fresh_of c.factors.first.pattern.rows (rw c.mark_is (length-replicate nrows 0)) c.met_long
              (λ r h. rw c.mark_is (get_or-replicate nrows r 0 0 h)) c.zeros;
        }

    module _ (old : Stored) {s : ℕ} (g : s ≡ lowest ((7, lacks (length old.p) (length old.i) (length old.v)) ∷ [])) where
      abbrev pub Served : ℕ → Stored → Type 0
      Served r new = (r ≡ lowest ((7, short (product a b) old) ∷ [])) × (new ≡ outputs r (written (product a b) old) old) ×
          (r ≡ 0 → Valid (product a b))

      short-is : s ≡ lowest ((7, short (product a b) old) ∷ [])
      short-is = g ∙ cong (λ (q : Bool). lowest ((7, q) ∷ [])) (sym (short_for_lem (product a b) old bncols (size a b) p_long i_long v_long))

      pub at_7 : (s ≡ 0 → ⊥) → Served s old
      at_7 h = (
        short-is,
        left_alone s _ old h (λ q. omega (arith, short-is, q, alone_7 (short (product a b) old))),
        λ q. absurd (h q),
      )

      module _ (h : s ≡ 0) where
        room-is : Roomy bncols (size a b) (length old.p) (length old.i) (length old.v)
        room-is = roomy bncols (size a b) (length old.p) (length old.i) (length old.v) (passed_over _ 6 0 (sym g ∙ h)).0

        pub ready : {stamp : ℕ} {mark₁ mark₂ met₁ spare₁ : List ℕ} {x₁ : List Float} → Fresh nrows stamp mark₁ met₁ x₁ →
            mark₂ ≡ cleared 0 nrows mark₁ → length spare₁ ≡ length spare → Ready a b mark₂ met₁ spare₁ x₁ old
        ready {mark₁ = mark₁} f k l =
            record {
              begun = record {
                factors = c.factors;
                fresh = fresh_of c.factors.first.pattern.rows (rw k (length-cleared 0 nrows mark₁ ∙ f.mark_long)) f.met_long
                    (λ r q. rw k (cleared-front 0 nrows mark₁ r q)) f.zeros;
              };
              spare_long = l ∙ c.spare_long;
              few = room-is.few;
              in_p = room-is.in_p;
              in_i = room-is.in_i;
              in_v = room-is.in_v;
            }

        pub at-end : {o : Stored} → o ≡ written (product a b) old → Served 0 o
        at-end f = (
          sym h ∙ short-is,
          left-written _ old f,
          λ q. product_valid c.factors.first.pattern.rows c.factors.second.pattern.cols room-is.few,
        )

-- ---- the scratch that a part was lent of
module _ (n need : ℕ) (g : n ≤ need) (work : Scratch) {t : Bool} (f : t ≡ narrow need work) (h : t ≡ false) {s : Scratch} (q : s ≡ wiped need work)
  where
    w1_is : s.w1 ≡ cleared 0 need work.w1
    unfolding wiped
    w1_is = cong (λ (z : Scratch). z.w1) q

    w2_is : s.w2 ≡ cleared 0 need work.w2
    unfolding wiped
    w2_is = cong (λ (z : Scratch). z.w2) q

    w3_is : s.w3 ≡ cleared 0 need work.w3
    unfolding wiped
    w3_is = cong (λ (z : Scratch). z.w3) q

    x_is : s.x ≡ cleared none need work.x
    unfolding wiped
    x_is = cong (λ (z : Scratch). z.x) q

    w1_long : need ≤ length s.w1
    w1_long = rw (w1_is, length-cleared 0 need work.w1) (not_narrow need work (sym f ∙ h)).in_w1

    w2_long : need ≤ length s.w2
    w2_long = rw (w2_is, length-cleared 0 need work.w2) (not_narrow need work (sym f ∙ h)).in_w2

    w3_long : need ≤ length s.w3
    w3_long = rw (w3_is, length-cleared 0 need work.w3) (not_narrow need work (sym f ∙ h)).in_w3

    x_long : need ≤ length s.x
    x_long = rw (x_is, length-cleared none need work.x) (not_narrow need work (sym f ∙ h)).in_x

    wiped-again : (y1 y2 y3 : List ℕ) (z : List Float) {s₂ : Scratch} → length y1 ≡ n → length y2 ≡ n → length y3 ≡ n → length z ≡ n
        → s₂ ≡ wiped need (scratch (placed 0 n s.w1 y1) (placed 0 n s.w2 y2) (placed 0 n s.w3 y3) (placed 0 n s.x z)) → s₂ ≡ wiped need work
    unfolding wiped
    wiped-again y1 y2 y3 z a b c d e =
        e
        ∙ wiped_each need work
        (cleared-after 0 n need s.w1 y1 g (omega (arith, g, w1_long)) a ∙ (rw w1_is (cleared-again 0 need work.w1)))
        (cleared-after 0 n need s.w2 y2 g (omega (arith, g, w2_long)) b ∙ (rw w2_is (cleared-again 0 need work.w2)))
        (cleared-after 0 n need s.w3 y3 g (omega (arith, g, w3_long)) c ∙ (rw w3_is (cleared-again 0 need work.w3)))
        (cleared-after none n need s.x z g (omega (arith, g, x_long)) d ∙ (rw x_is (cleared-again none need work.x)))

-- ---- the ways out of `product`
late_leaves : (need : ℕ) (w : Stored) (old : Lent Stored) (t : Bool) {r : ℕ} {new : Stored} {s : Scratch} → r ≡ lowest ((7, t) ∷ []) →
    new ≡ outputs r w old.out → s ≡ wiped need old.work → lent new s ≡ leaves r need w old
unfolding leaves worked
late_leaves need w old t e f g = rw (e, none_early t) (λ k. lent ((rw e at f) k) (g k))
  where
    none_early : (t : Bool) → (ltb 0 (cond t 7 0) && ltb (cond t 7 0) 7) ≡ false
    none_early true = refl
    none_early false = refl

module _ (a b : Matrix) (old : Lent Stored) where
  abbrev n : ℕ
  n = a.pattern.nrows

  abbrev m : ℕ
  m = a.pattern.ncols

  abbrev k : ℕ
  k = b.pattern.nrows

  abbrev l : ℕ
  l = b.pattern.ncols

  abbrev pub Answer : ℕ → Lent Stored → Type 0
  Answer r new = (r ≡ number a b old) × (new ≡ leaves r (needed_two a.pattern b.pattern) (written (product a b) old.out) old) ×
      (r ≡ 0 → Valid (product a b))

  module _ {r : ℕ} (c : r ≡ lowest (judged_two a b (not (eqb m k)))) where
    pub at_check : (r ≡ 0 → ⊥) → Answer r old
    unfolding number
    at_check h =
        let j = judged_two a b (not (eqb m k)) in
        (first j _ c h, early j (early_two a b _) _ _ old c h, λ z. absurd (h z))

    module _ (z : r ≡ 0) {m1 m2 m3 : ℕ} (f1 : m1 ≡ max n m) (f2 : m2 ≡ max m1 k) (f3 : m3 ≡ max m2 l) where
      pass : Passed a b (not (eqb m k))
      pass = passed a b (not (eqb m k)) c z

      both : Factors a b
      both = record { first = pass.first; second = pass.second; inner = eqb-true m k (not_holds (eqb m k) pass.agree) }

      pub m_small : m3 ≤ 65535
      m_small = omega (arith, f1, f2, f3, pass.first.pattern.rows, pass.first.pattern.cols, pass.second.pattern.rows, pass.second.pattern.cols)

      n_in : n ≤ m3 + 1
      n_in = omega (arith, f1, f2, f3)

      need_is : needed_two a.pattern b.pattern ≡ m3 + 1
      unfolding needed_two
      need_is = omega (arith, f1, f2, f3)

      module _ {t : Bool} (ft : t ≡ narrow (m3 + 1) old.work) where
        after_5 : lowest ((6, t) ∷ (7, short (product a b) old.out) ∷ []) ≡ number a b old
        unfolding number
        after_5 = rw (ft, ← need_is) (then (judged_two a b (not (eqb m k)))
            ((6, narrow (needed_two a.pattern b.pattern) old.work) ∷ (7, short (product a b) old.out) ∷ []) (early_two a b _) c z)

        pub at_6 : t ≡ true → Answer 6 old
        at_6 h = ((rw h at after_5), kept 6 _ _ old (omega arith) (omega arith), λ q. absurd (omega arith))

        module _ (h : t ≡ false) {s : Scratch} (q : s ≡ wiped (m3 + 1) old.work) where
          after_6 : lowest ((7, short (product a b) old.out) ∷ []) ≡ number a b old
          after_6 = rw h at after_5

          pub in_w1 : n ≤ length s.w1
          in_w1 = omega (arith, n_in, w1_long n (m3 + 1) n_in old.work ft h q)

          pub in_w2 : n ≤ length s.w2
          in_w2 = omega (arith, n_in, w2_long n (m3 + 1) n_in old.work ft h q)

          pub in_w3 : n ≤ length s.w3
          in_w3 = omega (arith, n_in, w3_long n (m3 + 1) n_in old.work ft h q)

          pub in_x : n ≤ length s.x
          in_x = omega (arith, n_in, x_long n (m3 + 1) n_in old.work ft h q)

          pub clean : Clean a b (part 0 n s.w1) (part 0 n s.w2) (part 0 n s.w3) (part 0 n s.x)
          clean =
              record {
                factors = both;
                mark_is = rw (w1_is n (m3 + 1) n_in old.work ft h q)
                    (front-zeros 0 n (m3 + 1) old.work.w1 n_in (not_narrow (m3 + 1) old.work (sym ft ∙ h)).in_w1);
                met_long = part_long n s.w2 in_w2;
                spare_long = part_long n s.w3 in_w3;
                zeros = rw (x_is n (m3 + 1) n_in old.work ft h q)
                    (front-zeros none n (m3 + 1) old.work.x n_in (not_narrow (m3 + 1) old.work (sym ft ∙ h)).in_x);
              }

          module _ (y1 y2 y3 : List ℕ) (y4 : List Float) (e1 : length y1 ≡ length (part 0 n s.w1)) (e2 : length y2 ≡ length (part 0 n s.w2))
              (e3 : length y3 ≡ length (part 0 n s.w3)) (e4 : length y4 ≡ length (part 0 n s.x))
              {s₂ : Scratch} (e : s₂ ≡ wiped (m3 + 1) (scratch (placed 0 n s.w1 y1) (placed 0 n s.w2 y2) (placed 0 n s.w3 y3) (placed 0 n s.x y4)))
            where
              work-wiped : s₂ ≡ wiped (m3 + 1) old.work
              work-wiped =
                  wiped-again n (m3 + 1) n_in old.work ft h q y1 y2 y3 y4
                  (e1 ∙ part_long n s.w1 in_w1)
                  (e2 ∙ part_long n s.w2 in_w2)
                  (e3 ∙ part_long n s.w3 in_w3)
                  (e4 ∙ part_long n s.x in_x)
                  e

              pub at_served : {u : ℕ} {new : Stored}
                  → (u ≡ lowest ((7, short (product a b) old.out) ∷ [])) × (new ≡ outputs u (written (product a b) old.out) old.out) ×
                  (u ≡ 0 → Valid (product a b))
                  → Answer u (lent new s₂)
              at_served sv = (
                sv.0 ∙ after_6,
                rw need_is (late_leaves (m3 + 1) (written (product a b) old.out) old (short (product a b) old.out) sv.0 sv.1 work-wiped),
                sv.2,
              )

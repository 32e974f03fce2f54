-- The loops of a column of U: the walk from one row with its marks, and row by row. Assumes nothing.
use mathlib.Core.Path.{◌≡◌, refl, sym, ap, ◌∙◌}
use mathlib.Core.Bool.{Bool, true, false, ◌||◌}
use mathlib.Core.List.Memᴰ
use mathlib.Core.List.{List, [], ◌∷◌, ◌++◌, append-nil, Memᴰ}
use mathlib.Core.Logic.{inl, inr, ⊎_elim, ◌≢◌}
use Prim.Native.Nat.{ℕ, zero, suc, ◌+◌, ◌≤◌, ◌<◌}
use native.Mathlib.Omega.{arith}
use lib.Dec.{eqb}
use lib.ListN.{length, get_or, set, drop, length-set, length-append}
use lib.Seq.{get_or-set_same, get_or-set_other, append_snoc}
use borrow.Author.Tests.{eq-eqb, ne_eqb}
use Rattle.lists.specs.Folds.{along}
use Rattle.lists.specs.Order.{lists}
use Rattle.lists.proofs.Bools.{eq-or-ne}
use Rattle.lists.proofs.Ordering.{member_lists}
use Rattle.lists.proofs.Members.{lists_other, lists-append, listed-or-not, get_d_any}
use Rattle.lists.proofs.Folds.{Along, along-start, along-turn, along-end}
use Rattle.cs_tree.specs.Tree.{root}
use Rattle.cs_tree.specs.Pattern.{path, paths}
use Rattle.cs_tree.specs.Steps.{Above, Marks, Walks, way, Walked}
use Rattle.cs_tree.proofs.Steps.{path-over, path_seen, path_new}

-- ---- marks
-- no index is listed yet in a column above all marks
pub marks_fresh : (k : ℕ) (mark : List ℕ) → ((i : ℕ) → i < length mark → get_or mark i 0 ≤ k) → Marks k mark []
unfolding lists
marks_fresh k mark h = record { at = λ i l. ne_eqb (get_or mark i 0) (k + 1) (λ e. omega (arith, h i l)); most = λ i l. omega (arith, h i l) }

pub marks-next : {k : ℕ} {mark listed : List ℕ} → Marks k mark listed → Marks (k + 1) mark []
marks-next {k = k} {mark = mark} v = marks_fresh (k + 1) mark v.most

-- one more
pub marks-more : {k : ℕ} {mark : List ℕ} (l acc : List ℕ) (i : ℕ) → i < length mark → Marks k mark (l ++ acc) →
    Marks k (set mark i (k + 1)) ((l ++ (i ∷ [])) ++ acc)
marks-more {k = k} {mark = mark} l acc i h v = record { at = at; most = most }
  where
    same : lists i ((l ++ (i ∷ [])) ++ acc) ≡ true
    same = member_lists i _ (mem l)
      where
        mem : (l : List ℕ) → Memᴰ i ((l ++ (i ∷ [])) ++ acc)
        mem [] = Memᴰ.head refl
        mem (x ∷ l) = Memᴰ.tail (mem l)

    other : (j : ℕ) → j ≢ i → lists j ((l ++ (i ∷ [])) ++ acc) ≡ lists j (l ++ acc)
    other j n = ap (lists j) (append_snoc l i acc) ∙ lists-append j l (i ∷ acc) ∙ ap (λ (b : Bool). lists j l || b) (lists_other j i acc n) ∙
        sym (lists-append j l acc)

    at : (j : ℕ) → j < length (set mark i (k + 1)) → eqb (get_or (set mark i (k + 1)) j 0) (k + 1) ≡ lists j ((l ++ (i ∷ [])) ++ acc)
    at j m =
        ⊎_elim
        (λ (e : j ≡ i). rw (e, get_or-set_same mark i (k + 1) 0 h, same) (eq-eqb (k + 1) (k + 1) refl))
        (λ (e : j ≡ i → ⊥). rw (get_or-set_other mark i j (k + 1) 0 e, other j e) (v.at j (omega (arith, length-set mark i (k + 1)))))
        (eq-or-ne j i)

    most : (j : ℕ) → j < length (set mark i (k + 1)) → get_or (set mark i (k + 1)) j 0 ≤ k + 1
    most j m =
        ⊎_elim
        (λ (e : j ≡ i). rw (e, get_or-set_same mark i (k + 1) 0 h) (omega arith))
        (λ (e : j ≡ i → ⊥). rw (get_or-set_other mark i j (k + 1) 0 e) (v.most j (omega (arith, length-set mark i (k + 1)))))
        (eq-or-ne j i)

-- ---- the walk from a row, with the list `older` before it
pub record Walking (s k : ℕ) (par : List ℕ) (row : ℕ) (older : List ℕ) (i len : ℕ) (mark : List ℕ) : Type 0 where
  pub fuel : ℕ
  pub done : List ℕ
  pub count : len ≡ length done
  pub goes : way k par row older ≡ done ++ path fuel par k i older
  pub enough : k < i + fuel
  pub low : (x : ℕ) → Memᴰ x done → x < i
  pub marks : Marks s mark (done ++ older)

pub walking_start : {s k : ℕ} {par : List ℕ} {row : ℕ} {older mark : List ℕ} → Marks s mark older → Walking s k par row older row 0 mark
walking_start {k = k} v = record {
  fuel = suc k;
  done = [];
  count = refl;
  goes = refl;
  enough = omega arith;
  low = λ x m. absurd (Memᴰ.not-nil m);
  marks = v;
}

module _ {s k : ℕ} {par : List ℕ} {row : ℕ} {older : List ℕ} {i len : ℕ} {mark : List ℕ} (v : Walking s k par row older i len mark) where
  ended : path v.fuel par k i older ≡ [] → Walked s k par row older len mark
  ended e =
      let g : way k par row older ≡ v.done = v.goes ∙ ap (λ (l : List ℕ). v.done ++ l) e ∙ append-nil v.done in
      record { is = rw g v.count; marks = rw g v.marks }

  pub walking_over : k < i → Walked s k par row older len mark
  walking_over h = ended (path-over v.fuel par k i older h)

  pub not_done : lists i (v.done ++ older) ≡ lists i older
  not_done = elim (listed-or-not i v.done) [
    | inl q ↦ absurd (omega (arith, v.low i q.1))
    | inr q ↦ lists-append i v.done older ∙ ap (λ (b : Bool). b || lists i older) q.0
  ]

  module _ (h : i ≤ k) (m : i < length mark) where
    pub walking_seen : get_or mark i 0 ≡ s + 1 → Walked s k par row older len mark
    walking_seen e = ended (path_seen v.fuel par k i older h (sym not_done ∙ sym (v.marks.at i m) ∙ eq-eqb (get_or mark i 0) (s + 1) e))

    pub walking_next : {n : ℕ} → Above par → i < length par → (get_or mark i 0 ≡ s + 1 → ⊥) → n ≡ get_or par i 0 →
        Walking s k par row older n (len + 1) (set mark i (s + 1))
    walking_next {n = n} a l e f = go v.fuel v.goes v.enough
      where
        new : lists i older ≡ false
        new = sym not_done ∙ sym (v.marks.at i m) ∙ ne_eqb (get_or mark i 0) (s + 1) e

        same : get_or par i root ≡ n
        same = get_d_any par i root 0 l ∙ sym f

        rise : i < n
        rise = omega (arith, a.up i l)

        go : (g : ℕ) → way k par row older ≡ v.done ++ path g par k i older → k < i + g → Walking s k par row older n (len + 1) (set mark i (s + 1))
        go zero p q = absurd (omega arith)
        go (suc g) p q =
            record {
              fuel = g;
              done = v.done ++ (i ∷ []);
              count = omega (arith, length-append v.done (i ∷ []), v.count);
              goes = p ∙ ap (λ (t : List ℕ). v.done ++ t) (path_new g par k i older h new ∙ ap (λ (x : ℕ). i ∷ path g par k x older) same) ∙
                  sym (append_snoc v.done i (path g par k n older));
              enough = omega (arith, rise);
              low = λ x t. elim (Memᴰ.append_cases v.done t) [
                | inl u ↦ omega (arith, v.low x u, rise)
                | inr u ↦ elim (Memᴰ.cases_cons u) [ inl w ↦ omega (arith, w, rise) | inr w ↦ absurd (Memᴰ.not-nil w) ]
              ];
              marks = marks-more v.done older i m v.marks;
            }

-- the loop of `walk`: it ends without the marks telling anything, and tells for every list that they may stand for
pub record Walk (s k : ℕ) (par : List ℕ) (row : ℕ) (mark₀ mark : List ℕ) (i len : ℕ) : Type 0 where
  pub asks : Walks k par mark
  pub same : length mark ≡ length mark₀
  pub paced : len ≤ i
  pub short : len ≤ k + 1
  pub tells : (older : List ℕ) → Marks s mark₀ older → Walking s k par row older i len mark

pub walk_start : {s k : ℕ} {par : List ℕ} {row i : ℕ} {mark : List ℕ} → Walks k par mark → i ≡ row → Walk s k par row mark mark i 0
walk_start v e = record { asks = v; same = refl; paced = omega arith; short = omega arith; tells = λ older m. rw e (walking_start m) }

module _ {s k : ℕ} {par : List ℕ} {row : ℕ} {mark₀ mark : List ℕ} {i len : ℕ} (v : Walk s k par row mark₀ mark i len) where
  module _ (h : i ≤ k) where
    in_par : i < length par
    in_par = omega (arith, v.asks.p_long)

    in_mark : i < length mark
    in_mark = omega (arith, v.asks.m_long)

    -- the parent is higher
    pub walk_up : i < get_or par i 0
    walk_up = v.asks.above.up i in_par

    pub walk_next : {n : ℕ} → (get_or mark i 0 ≡ s + 1 → ⊥) → n ≡ get_or par i 0 → Walk s k par row mark₀ (set mark i (s + 1)) n (len + 1)
    walk_next e f =
        record {
          asks = record { small = v.asks.small; p_long = v.asks.p_long; m_long = rw length-set v.asks.m_long; above = v.asks.above };
          same = length-set mark i (s + 1) ∙ v.same;
          paced = omega (arith, walk_up, v.paced);
          short = omega (arith, v.paced);
          tells = λ older m. walking_next (v.tells older m) h in_mark v.asks.above in_par e f;
        }

    pub walk_seen : get_or mark i 0 ≡ s + 1 → (len ≤ k + 1) × ((older : List ℕ) → Marks s mark₀ older → Walked s k par row older len mark)
    walk_seen e = (v.short, λ older m. walking_seen (v.tells older m) h in_mark e)

  pub walk_over : k < i → (len ≤ k + 1) × ((older : List ℕ) → Marks s mark₀ older → Walked s k par row older len mark)
  walk_over h = (v.short, λ older m. walking_over (v.tells older m) h)

-- ---- row by row
abbrev pub front : ℕ → List ℕ → ℕ → List ℕ → List ℕ
front k par i older = way k par i older ++ older

-- what is listed stays
longer : (k : ℕ) (par rows older : List ℕ) → length older ≤ length (along (front k par) rows older)
unfolding along
longer k par [] older = omega arith
longer k par (i ∷ is) older = omega (arith, longer k par is (front k par i older), length-append (way k par i older) older)

-- the rows below q are done, with `older` listed
pub record Listing (s k : ℕ) (par rows : List ℕ) (mark : List ℕ) (count q : ℕ) : Type 0 where
  pub older : List ℕ
  pub is : Along (front k par) rows [] older q
  pub marks : Marks s mark older
  pub counts : count ≡ length older

unfoldable pub listing_start : {s k : ℕ} {par : List ℕ} (rows : List ℕ) {mark : List ℕ} → Marks s mark [] → Listing s k par rows mark 0 0
listing_start {k = k} {par = par} rows v = record { older = []; is = along-start (front k par) rows []; marks = v; counts = refl }

module _ {s k : ℕ} {par rows mark : List ℕ} {count q : ℕ} (v : Listing s k par rows mark count q) where
  module _ {row : ℕ} (h : q < length rows) (e : row ≡ get_or rows q 0) where
    pub turned : Along (front k par) rows [] (front k par row v.older) (q + 1)
    turned = along-turn (front k par) rows 0 v.is h (ap (λ (r : ℕ). front k par r v.older) e)

    -- there is room for the new path
    pub listing_room : count + length (way k par row v.older) ≤ length (paths par k rows [])
    unfolding paths
    listing_room =
        omega (
          arith,
          ap length turned.rest,
          longer k par (drop (q + 1) rows) (front k par row v.older),
          length-append (way k par row v.older) v.older,
          v.counts,
        )

  module _ {row len : ℕ} {mark1 : List ℕ} (h : q < length rows) (e : row ≡ get_or rows q 0) (w : Walked s k par row v.older len mark1) where
    unfoldable pub listing_turn : {c : ℕ} → c ≡ count + len → Listing s k par rows mark1 c (q + 1)
    listing_turn f =
        record {
          older = front k par row v.older;
          is = turned h e;
          marks = w.marks;
          counts = omega (arith, length-append (way k par row v.older) v.older, w.is, v.counts);
        }

  pub listing_done : length rows ≤ q → (count ≡ length (paths par k rows [])) × Marks s mark (paths par k rows [])
  unfolding paths
  listing_done h = let e = along-end (front k par) rows v.is h in (rw (← e) v.counts, rw (← e) v.marks)

  pub listing_all : length rows ≤ q → v.older ≡ paths par k rows []
  unfolding paths
  listing_all h = along-end (front k par) rows v.is h

-- a slice of marks comes back as long as it was
pub walks_on : {k : ℕ} {par mark mark1 : List ℕ} → Walks k par mark → length mark1 ≡ length mark → Walks k par mark1
walks_on v e = record { small = v.small; p_long = v.p_long; m_long = omega (arith, v.m_long, e); above = v.above }

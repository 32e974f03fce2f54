-- The loops that hold columns of U against what is lent: each way up the tree is read from its far end down to its stored row, and
-- no column is worked out. Assumes nothing.
use mathlib.Core.Path.{◌≡◌, refl, sym, ap, ◌∙◌}
use mathlib.Core.Bool.{false}
use mathlib.Core.List.{List, [], ◌∷◌, ◌++◌, flatten}
use mathlib.Core.Logic.{⊎_elim}
use Prim.Native.Nat.{ℕ, zero, suc, ◌+◌, ◌-◌, ◌≤◌, ◌<◌, min}
use native.Mathlib.Omega.{arith}
use lib.ListN.{length, get_or, set, take, drop, length-set, take-append-drop}
use lib.Seq.{drop-length, take_all}
use borrow.Author.Tests.{eq-eqb, ne_eqb}
use Rattle.lists.specs.Order.{lists}
use Rattle.lists.specs.Parts.{part}
use Rattle.lists.proofs.Bools.{or-false, le-or-lt}
use Rattle.lists.proofs.Folds.{Along, along-turn, along-end}
use Rattle.lists.proofs.Laying.{part-front, part_long}
use Rattle.lists.proofs.Members.{lists-append, get_d_any}
use Rattle.lists.proofs.Parts.{left_at, length_part, get_d_part}
use Rattle.cs_tree.specs.Tree.{root}
use Rattle.cs_tree.specs.Pattern.{path, paths, upper, entries}
use Rattle.lists.specs.Keeping.{Zeros}
use Rattle.cs_tree.specs.Steps.{Marks, Walks, Given, way}
use Rattle.cs_tree.specs.Backward.{Stops, Read, Holds}
use Rattle.cs_tree.proofs.Filling.{given-column, upper_long}
use Rattle.cs_tree.proofs.Laid.{entries-more, laid-at}
use Rattle.cs_tree.proofs.Steps.{path-over, path_seen, path_new}
use Rattle.cs_tree.proofs.Walking.{marks_fresh, marks-next, marks-more, walks_on, front}

-- ---- `stops`
module _ {k : ℕ} {par mark : List ℕ} {c j above : ℕ} (w : Walks k par mark) (l : c ≤ k) (i : j ≡ c) (e : above ≡ get_or par j 0) where
  parent : get_or par c 0 ≡ above
  parent = ap (λ (x : ℕ). get_or par x 0) (sym i) ∙ sym e

  pub stops-over : k < above → Stops k par mark c
  stops-over h = record { low = l; none = λ older m f. path-over f par k (get_or par c 0) older (omega (arith, parent)) }

  pub stops_seen : {a : ℕ} → above ≤ k → a ≡ above → get_or mark a 0 ≡ k + 1 → Stops k par mark c
  stops_seen {a = a} h g s =
      let p : get_or par c 0 ≡ a = parent ∙ sym g in
      record {
        low = l;
        none = λ older m f. rw p (path_seen f par k a older (omega arith) (sym (m.at a (omega (arith, w.m_long))) ∙
            eq-eqb (get_or mark a 0) (k + 1) s));
      }

-- ---- `descend`: from t on the way is read, the last of it has the parent `above` or is below it
pub record Descending (k : ℕ) (par held mark₀ mark : List ℕ) (above t : ℕ) : Type 0 where
  pub asks : Walks k par mark
  pub same : length mark ≡ length mark₀
  pub within : t ≤ length held
  pub short : length held - t + min above (k + 1) ≤ k + 1
  pub goes : (older : List ℕ) → Marks k mark₀ older → (f : ℕ) → path (f + (length held - t)) par k above older ≡ drop t held
  pub marks : (older : List ℕ) → Marks k mark₀ older → Marks k mark (drop t held ++ older)

pub descending_start : {k : ℕ} {par held mark : List ℕ} {above t c j : ℕ} → Walks k par mark → Stops k par mark c → j ≡ c → above ≡ get_or par j 0 →
    t ≡ length held → Descending k par held mark mark above t
descending_start {par = par} {held = held} {above = above} {c = c} w s i e z =
    let d : get_or par c 0 ≡ above = ap (λ (x : ℕ). get_or par x 0) (sym i) ∙ sym e in
    let n : drop (length held) held ≡ [] = drop-length held in
    rw z
    (record {
      asks = w;
      same = refl;
      within = omega arith;
      short = omega arith;
      goes = λ older m f. rw (n, ← d) (s.none older m (f + (length held - length held)));
      marks = λ older m. rw n m;
    })

module _ {k : ℕ} {par held mark₀ mark : List ℕ} {above t b j : ℕ} (v : Descending k par held mark₀ mark above t) (h : 0 < t)
    (e : b ≡ get_or held (t - 1) 0) (l : b ≤ k) (i : j ≡ b) where
  pub in_par : j < length par
  in_par = omega (arith, v.asks.p_long)

  pub in_mark : j < length mark
  in_mark = omega (arith, v.asks.m_long)

  back : drop (t - 1) held ≡ b ∷ drop t held
  back =
      let z : t - 1 + 1 ≡ t = omega arith in
      left_at held (t - 1) 0 (omega (arith, v.within)) ∙ ap (λ (x : ℕ). x ∷ drop (t - 1 + 1) held) (sym e) ∙ ap (λ (x : ℕ). b ∷ drop x held) z

  module _ (p : get_or par j 0 ≡ above) (n : get_or mark j 0 ≡ k + 1 → ⊥) where
    new : (older : List ℕ) → Marks k mark₀ older → lists b older ≡ false
    new older m =
        let g = (v.marks older m).at j in_mark in
        let f : lists j (drop t held ++ older) ≡ false = sym g ∙ ne_eqb (get_or mark j 0) (k + 1) n in
        rw (← i) (or-false (lists j (drop t held)) (lists j older) (sym (lists-append j (drop t held) older) ∙ f)).1

    up : get_or par b root ≡ above
    up = ap (λ (x : ℕ). get_or par x root) (sym i) ∙ get_d_any par j root 0 in_par ∙ p

    on : (older : List ℕ) → Marks k mark₀ older → (f : ℕ) → path (f + (length held - (t - 1))) par k b older ≡ drop (t - 1) held
    on older m f =
        let z : f + (length held - (t - 1)) ≡ suc (f + (length held - t)) = omega (arith, v.within) in
        rw (z, back) (path_new (f + (length held - t)) par k b older l (new older m) ∙
        ap (λ (x : ℕ). b ∷ path (f + (length held - t)) par k x older) up ∙ ap (λ (x : List ℕ). b ∷ x) (v.goes older m f))

    pub descending_turn : Descending k par held mark₀ (set mark j (k + 1)) b (t - 1)
    descending_turn =
        let r : j < get_or par j 0 = v.asks.above.up j in_par in
        record {
          asks = walks_on v.asks (length-set mark j (k + 1));
          same = length-set mark j (k + 1) ∙ v.same;
          within = omega (arith, v.within);
          short = omega (arith, v.short, v.within, r, p, i);
          goes = on;
          marks = λ older m. rw (back, ← i) (marks-more [] (drop t held ++ older) j in_mark (v.marks older m));
        }

    pub descending_found : {row : ℕ} → b ≡ row → (older : List ℕ) → Marks k mark₀ older → t - 1 ≤ length held →
        Read k par row older held (t - 1) (set mark j (k + 1))
    descending_found f older m q =
        let d = descending_turn in
        let z : suc k - (length held - (t - 1)) + (length held - (t - 1)) ≡ suc k = omega (arith, d.short, l) in
        rw (← f) (record {
          is = ap (λ (x : ℕ). path x par k b older) (sym z) ∙ d.goes older m (suc k - (length held - (t - 1)));
          marks = d.marks older m;
        })

-- ---- `read_row`: a row that is listed already
module _ {k : ℕ} {par : List ℕ} {row : ℕ} {held mark : List ℕ} where
  nothing : (older : List ℕ) → Marks k mark older → way k par row older ≡ [] → Read k par row older held (length held) mark
  nothing older m e = let n : drop (length held) held ≡ [] = drop-length held in record { is = rw n e; marks = rw n m }

  pub read-listed : {j : ℕ} → Walks k par mark → row ≤ k → j ≡ row → get_or mark j 0 ≡ k + 1 → (older : List ℕ) → Marks k mark older →
      length held ≤ length held → Read k par row older held (length held) mark
  read-listed {j = j} w h i s older m l =
      let g : get_or mark row 0 ≡ k + 1 = ap (λ (x : ℕ). get_or mark x 0) (sym i) ∙ s in
      nothing older m (path_seen (suc k) par k row older h (sym (m.at row (omega (arith, w.m_long))) ∙ eq-eqb (get_or mark row 0) (k + 1) g))

-- ---- `read_column`
drop-part : (r t : ℕ) (l : List ℕ) → r ≤ t → drop r (take t l) ++ drop t l ≡ drop r l
drop-part zero t l h = take-append-drop t l
drop-part (suc r) zero l h = absurd (omega arith)
drop-part (suc r) (suc t) [] h = refl
drop-part (suc r) (suc t) (x ∷ l) h = drop-part r t l (omega arith)

pub record Backing (k : ℕ) (par rows held mark₀ mark : List ℕ) (top q : ℕ) : Type 0 where
  pub asks : Walks k par mark
  pub same : length mark ≡ length mark₀
  pub within : top ≤ length held
  pub is : Along (front k par) rows [] (drop top held) q
  pub marks : Marks k mark (drop top held)

module _ {k : ℕ} {par rows held mark₀ mark : List ℕ} {top q : ℕ} (v : Backing k par rows held mark₀ mark top q) where
  pub backing_turn : {r : ℕ} {mark1 : List ℕ} → q < length rows → length mark1 ≡ length mark
      → ((older : List ℕ) → Marks k mark older → r ≤ length (part 0 top held) → Read k par (get_or rows q 0) older (part 0 top held) r mark1) →
      r ≤ top → Backing k par rows held mark₀ mark1 r (q + 1)
  backing_turn {r = r} h e w l =
      let d = w (drop top held) v.marks (omega (arith, part_long top held v.within)) in
      let z : drop r (part 0 top held) ++ drop top held ≡ drop r held = ap (λ (x : List ℕ). drop r x ++ drop top held) (part-front top held) ∙
      drop-part r top held l in
      let s : drop r held ≡ front k par (get_or rows q 0) (drop top held) = sym z ∙ ap (λ (x : List ℕ). x ++ drop top held) (sym d.is) in
      record {
        asks = walks_on v.asks e;
        same = e ∙ v.same;
        within = omega (arith, v.within);
        is = along-turn (front k par) rows 0 v.is h s;
        marks = rw (← z) d.marks;
      }

  pub backing_done : length rows ≤ q → top ≡ 0 → (held ≡ paths par k rows []) × Marks k mark held
  unfolding paths
  backing_done h z =
      let e = along-end (front k par) rows v.is h in
      let m = v.marks in
      (rw z at e, rw z at m)

-- ---- `read_columns`
pub record Reading (cols : List (List ℕ)) (up ui mark : List ℕ) (k : ℕ) : Type 0 where
  pub within : k ≤ length cols
  pub m_long : length mark ≡ length cols
  pub fresh : Marks k mark []
  pub room : entries (take k (upper cols)) ≤ length ui
  pub at : (j : ℕ) → j ≤ k → get_or up j 0 ≡ entries (take j (upper cols))
  pub laid : (q : ℕ) → q < entries (take k (upper cols)) → get_or ui q 0 ≡ get_or (flatten (upper cols)) q 0

pub reading_start : {cols : List (List ℕ)} {up : List ℕ} (ui : List ℕ) {mark : List ℕ} → length mark ≡ length cols → Zeros mark → get_or up 0 0 ≡ 0
    → Reading cols up ui mark 0
unfolding entries
reading_start {up = up} ui {mark = mark} a h z =
    record {
      within = omega arith;
      m_long = a;
      fresh = marks_fresh 0 mark (λ i l. omega (arith, h.at i l));
      room = omega arith;
      at = λ j l. let e : j ≡ 0 = omega arith in rw e z;
      laid = λ q l. absurd (omega arith);
    }

module _ {cols : List (List ℕ)} {par up ui mark : List ℕ} {k : ℕ} (g : Given cols par) (v : Reading cols up ui mark k) where
  module _ {rows mark1 : List ℕ} {b f : ℕ} (h : k < length cols) (e : rows ≡ get_or cols k []) (x : b ≡ get_or up k 0) (y : f ≡ get_or up (k + 1) 0)
      (o : b ≤ f) (r : f ≤ length ui) (n : length mark1 ≡ length mark)
      (w : (part b f ui ≡ paths par k rows []) × Marks k mark1 (part b f ui)) where
    abbrev us : List (List ℕ)
    us = upper cols

    column : part b f ui ≡ get_or us k []
    column = w.0 ∙ given-column g k e

    start : b ≡ entries (take k us)
    start = x ∙ v.at k (omega arith)

    size : f ≡ b + length (get_or us k [])
    size = omega (arith, length_part b f ui r, ap length column)

    end : f ≡ entries (take (k + 1) us)
    end = omega (arith, size, start, entries-more us k (omega (arith, upper_long g)))

    at : (j : ℕ) → j ≤ k + 1 → get_or up j 0 ≡ entries (take j us)
    at j l = ⊎_elim (λ (m : j ≤ k). v.at j m) (λ (m : k < j). let z : j ≡ k + 1 = omega arith in rw z (sym y ∙ end)) (le-or-lt j k)

    laid : (q : ℕ) → q < entries (take (k + 1) us) → get_or ui q 0 ≡ get_or (flatten us) q 0
    laid q l =
        ⊎_elim (λ (m : b ≤ q). here m) (λ (m : q < b). v.laid q (omega (arith, start))) (le-or-lt b q)
      where
        here : b ≤ q → get_or ui q 0 ≡ get_or (flatten us) q 0
        here m =
            let c = q - b in
            let s : b + c ≡ q = omega arith in
            let t : entries (take k us) + c ≡ q = omega (arith, start) in
            let d : get_or (part b f ui) c 0 ≡ get_or ui (b + c) 0 = get_d_part b f ui c 0 (omega (arith, end)) in
            ap (λ (z : ℕ). get_or ui z 0) (sym s) ∙ sym d ∙ ap (λ (z : List ℕ). get_or z c 0) column ∙
            sym (laid-at us k c (omega (arith, end, size))) ∙ ap (λ (z : ℕ). get_or (flatten us) z 0) t

    pub reading_turn : Reading cols up ui mark1 (k + 1)
    reading_turn = record { within = omega arith; m_long = n ∙ v.m_long; fresh = marks-next w.1; room = omega (arith, end); at = at; laid = laid }

  pub reading_done : length cols ≤ k → length cols < length up → Holds cols up ui
  reading_done h l =
      let z : take k (upper cols) ≡ upper cols = take_all k (upper cols) (omega (arith, upper_long g)) in
      let r = v.room in
      let d = v.laid in
      record {
        pointed = record { long = omega (arith, upper_long g); at = λ j m. v.at j (omega (arith, upper_long g, v.within)) };
        room = rw z at r;
        laid = rw z at d;
      }

-- The loops that hold columns of U against what is lent, told the other way: where what is lent is right, no test of theirs fails.
-- Assumes nothing.
use mathlib.Core.Path.{◌≡◌, refl, sym, ap, ap₂, ◌∙◌}
use mathlib.Core.Bool.{true, false, ◌||◌}
use mathlib.Core.List.{List, [], ◌∷◌, ◌++◌, append_assoc, Memᴰ}
use mathlib.Core.Logic.{◌⊎◌, inl, inr, ⊎_elim}
use Prim.Native.Nat.{ℕ, zero, suc, ◌+◌, ◌-◌, ◌≤◌, ◌<◌}
use native.Mathlib.Omega.{arith}
use native.Mathlib.Decide.{dec_le}
use lib.Dec.{eqb}
use lib.ListN.{length, get_or, take, drop, length-append, length-drop}
use lib.Seq.{get_or-drop, drop_at, take_at, ext_get_or}
use borrow.Author.Tests.{eq-eqb, ne_eqb}
use Rattle.lists.specs.Folds.{along}
use Rattle.lists.specs.Order.{lists}
use Rattle.lists.specs.Parts.{part}
use Rattle.lists.proofs.Bools.{eq-or-ne, not-both}
use Rattle.lists.proofs.Folds.{along-end}
use Rattle.lists.proofs.Laying.{part-front, part_long}
use Rattle.lists.proofs.Members.{lists-append, listed-or-not, get_d_any}
use Rattle.lists.proofs.Parts.{left_at}
use Rattle.lists.proofs.Spots.{spot}
use Rattle.cs_tree.specs.Tree.{root}
use Rattle.cs_tree.specs.Pattern.{path, paths, upper, entries}
use Rattle.cs_tree.specs.Steps.{Above, Marks, Walks, Given, way}
use Rattle.cs_tree.specs.Backward.{Holds}
use Rattle.cs_tree.specs.Ending.{Unlisted, Ending}
use Rattle.cs_tree.proofs.Backward.{Descending, Backing}
use Rattle.cs_tree.proofs.Between.{between_order, between-last, between_long, between-size, between_keyed}
use Rattle.cs_tree.proofs.Filling.{given-column, upper_long}
use Rattle.cs_tree.proofs.Laid.{laid-at}
use Rattle.cs_tree.proofs.Steps.{path-over, path_seen, path_new}
use Rattle.cs_tree.proofs.Walking.{front}

-- ---- a way up the tree, place by place
path-first : (f : ℕ) (par : List ℕ) (k i : ℕ) (older : List ℕ) → 0 < length (path f par k i older) → get_or (path f par k i older) 0 0 ≡ i
unfolding path
path-first zero par k i older h = absurd (omega arith)
path-first (suc f) par k i older h = go (dec_le i k) (listed-or-not i older) h
  where
    go : Dec (i ≤ k) → ((lists i older ≡ true) × Memᴰ i older) ⊎ ((lists i older ≡ false) × ¬ Memᴰ i older) →
        0 < length (path (suc f) par k i older) → get_or (path (suc f) par k i older) 0 0 ≡ i
    go (no n) d h = absurd (omega (arith, ap length (path-over (suc f) par k i older (omega arith))))
    go (yes l) (inl d) h = absurd (omega (arith, ap length (path_seen (suc f) par k i older l d.0)))
    go (yes l) (inr d) h = rw (path_new f par k i older l d.0)

-- a way that is empty where it could go on is empty
path-none : (f : ℕ) (par : List ℕ) (k c : ℕ) (older : List ℕ) → k < c + f → length (path f par k c older) ≡ 0 →
    (k < c) ⊎ ((c ≤ k) × (lists c older ≡ true))
path-none zero par k c older e h = inl (omega arith)
path-none (suc f) par k c older e h = go (dec_le c k) (listed-or-not c older)
  where
    go : Dec (c ≤ k) → ((lists c older ≡ true) × Memᴰ c older) ⊎ ((lists c older ≡ false) × ¬ Memᴰ c older) →
        (k < c) ⊎ ((c ≤ k) × (lists c older ≡ true))
    go (no n) d = inl (omega arith)
    go (yes l) (inl d) = inr (l, d.0)
    go (yes l) (inr d) = absurd (omega (arith, ap length (path_new f par k c older l d.0)))

record At (par : List ℕ) (k : ℕ) (older w : List ℕ) (s : ℕ) : Type 0 where
  low : get_or w s 0 ≤ k
  new : lists (get_or w s 0) older ≡ false
  next : suc s < length w → get_or par (get_or w s 0) root ≡ get_or w (suc s) 0
  last : suc s ≡ length w → (k < get_or par (get_or w s 0) root) ⊎ ((get_or par (get_or w s 0) root ≤ k) ×
      (lists (get_or par (get_or w s 0) root) older ≡ true))

module _ (par : List ℕ) (k : ℕ) (older : List ℕ) (a : Above par) (long : k < length par) where
  up : (i : ℕ) → i ≤ k → i < get_or par i root
  up i l = omega (arith, a.up i (omega arith), get_d_any par i root 0 (omega arith))

  path-at : (f i s : ℕ) → k < i + f → s < length (path f par k i older) → At par k older (path f par k i older) s
  unfolding path
  path-at zero i s e h = absurd (omega arith)
  path-at (suc f) i s e h = go (dec_le i k) (listed-or-not i older) s h (λ q. path-at f (get_or par i root) q)
    where
      go : Dec (i ≤ k) → ((lists i older ≡ true) × Memᴰ i older) ⊎ ((lists i older ≡ false) × ¬ Memᴰ i older) → (s : ℕ) →
          s < length (path (suc f) par k i older)
          → ((q : ℕ) → k < get_or par i root + f → q < length (path f par k (get_or par i root) older) →
          At par k older (path f par k (get_or par i root) older) q) → At par k older (path (suc f) par k i older) s
      go (no n) d s h ih = absurd (omega (arith, ap length (path-over (suc f) par k i older (omega arith))))
      go (yes l) (inl d) s h ih = absurd (omega (arith, ap length (path_seen (suc f) par k i older l d.0)))
      go (yes l) (inr d) zero h ih =
          rw (path_new f par k i older l d.0)
          (record {
            low = l;
            new = d.0;
            next = λ m. sym (path-first f par k (get_or par i root) older (omega arith));
            last = λ m. path-none f par k (get_or par i root) older (omega (arith, up i l)) (omega arith);
          })
      go (yes l) (inr d) (suc s) h ih =
          let n = path_new f par k i older l d.0 in
          let t = ih s (omega (arith, up i l)) (omega (arith, ap length n)) in
          rw n (record { low = t.low; new = t.new; next = λ m. t.next (omega arith); last = λ m. t.last (omega arith) })

-- ---- `stops`
module _ {k : ℕ} {par mark : List ℕ} {c j above : ℕ} (w : Walks k par mark) (i : j ≡ c) (e : above ≡ get_or par j 0) where
  -- the way ends at c, and c's parent is at most k: it is marked
  pub stops-marked : {a : ℕ} → above ≤ k → a ≡ above → (older : List ℕ) → Marks k mark older → path (suc k) par k (get_or par c 0) older ≡ [] →
      eqb (get_or mark a 0) (k + 1) ≡ true
  stops-marked {a = a} h g older m n =
      let p : get_or par c 0 ≡ a = ap (λ (x : ℕ). get_or par x 0) (sym i) ∙ sym e ∙ sym g in
      m.at a (omega (arith, w.m_long))
      ∙ ⊎_elim (λ (z : k < a). absurd (omega arith)) (λ z. z.1)
      (path-none (suc k) par k a older (omega arith) (ap length (ap (λ (x : ℕ). path (suc k) par k x older) (sym p) ∙ n)))

-- ---- `descend`: what is held ends with the way from m on
module _ {k : ℕ} {par mark older held : List ℕ} {row m : ℕ} (w : Walks k par mark) (e : Ending k par row older held m) where
  abbrev W : List ℕ
  W = way k par row older

  size : length held - m ≡ length W
  size = sym (length-drop m held) ∙ ap length e.is

  at : (t : ℕ) → m ≤ t → get_or held t 0 ≡ get_or W (t - m) 0
  at t h = let z : m + (t - m) ≡ t = omega arith in ap (λ (x : ℕ). get_or held x 0) (sym z) ∙ sym (get_or-drop m held (t - m) 0) ∙
      ap (λ (x : List ℕ). get_or x (t - m) 0) e.is

  here : (t : ℕ) → m ≤ t → t < length held → At par k older W (t - m)
  here t h l = path-at par k older w.above w.p_long (suc k) row (t - m) (omega arith) (omega (arith, size))

  aim_first : m < length held → get_or held m 0 ≡ row
  aim_first h = let z : m - m ≡ 0 = omega arith in at m (omega arith) ∙ ap (λ (x : ℕ). get_or W x 0) z ∙
      path-first (suc k) par k row older (omega (arith, size))

  module _ {t : ℕ} (h : m ≤ t) (l : t < length held) where
    aim_low : get_or held t 0 ≤ k
    aim_low = omega (arith, at t h, (here t h l).low)

    aim_new : lists (get_or held t 0) older ≡ false
    aim_new = rw (at t h) (here t h l).new

    to_zero : get_or par (get_or held t 0) root ≡ get_or par (get_or held t 0) 0
    to_zero = get_d_any par (get_or held t 0) root 0 (omega (arith, aim_low, w.p_long))

    aim_next : suc t < length held → get_or par (get_or held t 0) 0 ≡ get_or held (suc t) 0
    aim_next g =
        let z : suc (t - m) ≡ suc t - m = omega arith in
        sym to_zero ∙ ap (λ (x : ℕ). get_or par x root) (at t h) ∙ (here t h l).next (omega (arith, size)) ∙ ap (λ (x : ℕ). get_or W x 0) z ∙
        sym (at (suc t) (omega arith))

    aim_last : suc t ≡ length held → path (suc k) par k (get_or par (get_or held t 0) 0) older ≡ []
    aim_last g =
        rw (← to_zero, at t h)
        (⊎_elim (λ z. path-over (suc k) par k _ older z) (λ z. path_seen (suc k) par k _ older z.0 z.1) ((here t h l).last (omega (arith, size))))

  aim_apart : (t u : ℕ) → m ≤ t → t < u → u < length held → get_or held t 0 < get_or held u 0
  aim_apart t zero h l n = absurd (omega arith)
  aim_apart t (suc u) h l n =
      let s : get_or held u 0 < get_or held (suc u) 0 = rw (← aim_next {t = u} (omega arith) (omega arith) n)
      (w.above.up (get_or held u 0) (omega (arith, aim_low {t = u} (omega arith) (omega arith), w.p_long))) in
      ⊎_elim (λ (z : t ≡ u). rw z s) (λ (z : t ≡ u → ⊥). omega (arith, s, aim_apart t u h (omega arith) (omega arith))) (eq-or-ne t u)

  -- what is read already does not hold an earlier place
  aim_apart-from : {t : ℕ} → m ≤ t → t < length held → lists (get_or held t 0) (drop (suc t) held ++ older) ≡ false
  aim_apart-from {t = t} h l = lists-append (get_or held t 0) (drop (suc t) held) older ∙
      ap₂ ◌||◌ (⊎_elim (λ z. absurd (hit z.1)) (λ z. z.0) (listed-or-not (get_or held t 0) (drop (suc t) held))) (aim_new h l)
    where
      hit : Memᴰ (get_or held t 0) (drop (suc t) held) → ⊥
      hit d =
          let p = spot d in
          omega (
            arith,
            p.is,
            get_or-drop (suc t) held p.at 0,
            aim_apart t (suc t + p.at) h (omega arith) (omega (arith, p.inside, length-drop (suc t) held)),
          )

  module _ (u : Unlisted k mark row) (g : Marks k mark older) where
    not_listed : lists row older ≡ false
    not_listed = sym (g.at row (omega (arith, w.m_long, u.low))) ∙ ne_eqb (get_or mark row 0) (k + 1) u.new

    pub aiming_some : m < length held
    aiming_some = omega (arith, size, ap length (path_new k par k row older u.low not_listed))

    -- the way ends in the last place
    pub aiming_stops : {last t : ℕ} → t ≡ length held → last ≡ get_or held (t - 1) 0 → (last ≤ k) ×
        (path (suc k) par k (get_or par last 0) older ≡ [])
    aiming_stops {t = t} z l =
        let s = aiming_some in
        rw l (aim_low {t = t - 1} (omega arith) (omega arith), aim_last {t = t - 1} (omega arith) (omega arith) (omega arith))

-- where what is held ends with the way from a row, the way's place m is not reached at t, and the entry in front of t has the parent
-- `above`
pub record Aiming (k : ℕ) (par : List ℕ) (row : ℕ) (held mark₀ : List ℕ) (above t : ℕ) : Type 0 where
  pub tells : (older : List ℕ) → Marks k mark₀ older → (m : ℕ) → Ending k par row older held m → (m < t) ×
      (get_or par (get_or held (t - 1) 0) 0 ≡ above)

pub aiming_start : {k : ℕ} {par mark held : List ℕ} {row last j above t : ℕ} → Walks k par mark → Unlisted k mark row → last ≡ get_or held (t - 1) 0
    → j ≡ last → above ≡ get_or par j 0 → t ≡ length held → Aiming k par row held mark above t
aiming_start {par = par} {held = held} w u l i e z =
    record { tells = λ older g m d. (rw z (aiming_some w d u g), ap (λ (x : ℕ). get_or par x 0) (sym l ∙ sym i) ∙ sym e) }

module _ {k : ℕ} {par held mark₀ mark : List ℕ} {row above t : ℕ} (v : Descending k par held mark₀ mark above t)
    (q : Aiming k par row held mark₀ above t) (h : 0 < t) {older : List ℕ} (g : Marks k mark₀ older) {m : ℕ} (d : Ending k par row older held m) where
  ahead : m ≤ t - 1
  ahead = omega (arith, (q.tells older g m d).0)

  inside : t - 1 < length held
  inside = omega (arith, v.within)

  pub aiming_low : get_or held (t - 1) 0 ≤ k
  aiming_low = aim_low v.asks d ahead inside

  pub aiming_parent : {j : ℕ} → j ≡ get_or held (t - 1) 0 → get_or par j 0 ≡ above
  aiming_parent i = ap (λ (x : ℕ). get_or par x 0) i ∙ (q.tells older g m d).1

  pub aiming_new : {j : ℕ} → j ≡ get_or held (t - 1) 0 → get_or mark j 0 ≡ k + 1 → ⊥
  aiming_new {j = j} i s =
      let z : suc (t - 1) ≡ t = omega arith in
      let l : j < length mark = omega (arith, aiming_low, v.asks.m_long) in
      let n = aim_apart-from v.asks d ahead inside in
      let o : lists j (drop t held ++ older) ≡ false = rw i (rw z at n) in
      not-both (lists j (drop t held ++ older)) (sym ((v.marks older g).at j l) ∙ eq-eqb (get_or mark j 0) (k + 1) s) o

  next : {b : ℕ} → b ≡ get_or held (t - 1) 0 → (b ≡ row → ⊥) → (m < t - 1) × (get_or par (get_or held (t - 1 - 1) 0) 0 ≡ b)
  next e n =
      let o = ahead in
      let i = inside in
      let x : m < t - 1 = ⊎_elim (λ (z : m ≡ t - 1). absurd (n (e ∙ ap (λ (y : ℕ). get_or held y 0) (sym z) ∙ aim_first v.asks d (omega arith))))
      (λ (z : m ≡ t - 1 → ⊥). omega arith) (eq-or-ne m (t - 1)) in
      let y : suc (t - 1 - 1) ≡ t - 1 = omega arith in
      (x, aim_next v.asks d {t = t - 1 - 1} (omega arith) (omega arith) (omega arith) ∙ ap (λ (z : ℕ). get_or held z 0) y ∙ sym e)

pub aiming_turn : {k : ℕ} {par held mark₀ mark : List ℕ} {row above t b : ℕ} → Descending k par held mark₀ mark above t →
    Aiming k par row held mark₀ above t → 0 < t → b ≡ get_or held (t - 1) 0 → (b ≡ row → ⊥) → Aiming k par row held mark₀ b (t - 1)
aiming_turn v q h e n = record { tells = λ older g m d. next v q h g d e n }

-- ---- `read_column`: where the whole is right, so is each of its steps
grown : (k : ℕ) (par rows older : List ℕ) → (x : List ℕ) × (along (front k par) rows older ≡ x ++ older)
unfolding along
grown k par [] older = ([], refl)
grown k par (i ∷ is) older =
    let r = grown k par is (front k par i older) in
    (r.0 ++ way k par i older, r.1 ∙ sym (append_assoc r.0 (way k par i older) older))

module _ {k : ℕ} {par rows held mark₀ mark : List ℕ} {top q : ℕ} (v : Backing k par rows held mark₀ mark top q) (e : held ≡ paths par k rows []) where
  pub backing_none : length rows ≤ q → eqb top 0 ≡ true
  unfolding paths
  backing_none h = eq-eqb top 0 (omega (arith, v.within, ap length (e ∙ sym (along-end (front k par) rows v.is h)), length-drop top held))

  module _ (h : q < length rows) where
    abbrev row : ℕ
    row = get_or rows q 0

    abbrev older : List ℕ
    older = drop top held

    rest : (x : List ℕ) × (held ≡ x ++ (way k par row older ++ older))
    unfolding paths along
    rest =
        let r = grown k par (drop (q + 1) rows) (front k par row older) in
        (r.0, e ∙ v.is.rest ∙ ap (λ (l : List ℕ). along (front k par) l older) (left_at rows q 0 h) ∙ r.1)

    ending : Ending k par row older (part 0 top held) (length rest.0)
    ending =
        let x = rest.0 in
        let w = way k par row older in
        let a : held ≡ (x ++ w) ++ older = rest.1 ∙ sym (append_assoc x w older) in
        let l : length (x ++ w) ≡ top = omega (arith, ap length a, length-append (x ++ w) older, length-drop top held, v.within) in
        let f : part 0 top held ≡ x ++ w = part-front top held ∙ ap (take top) a ∙ take_at (x ++ w) older top l in
        record { is = rw f (drop_at x w (length x) refl) }

    pub backing_reads : {r : ℕ} → ((older : List ℕ) → Marks k mark older → (m : ℕ) → Ending k par (get_or rows q 0) older (part 0 top held) m →
        r ≤ length (part 0 top held)) → r ≤ top
    backing_reads b = omega (arith, b older v.marks (length rest.0) ending, part_long top held v.within)

-- ---- `read_columns`: a column that is held as it should be
pub holds_first : {cols : List (List ℕ)} {up ui : List ℕ} → Holds cols up ui → get_or up 0 0 ≡ 0
unfolding entries
holds_first d = d.pointed.at 0 (omega arith)

module _ {cols : List (List ℕ)} {par up ui : List ℕ} {k : ℕ} (g : Given cols par) (d : Holds cols up ui) (h : k < length cols) {b f : ℕ}
    (x : b ≡ get_or up k 0) (y : f ≡ get_or up (k + 1) 0) where
  abbrev us : List (List ℕ)
  us = upper cols

  in_us : k < length us
  in_us = omega (arith, upper_long g)

  pub holds_order : b ≤ f
  holds_order = between_order d.pointed in_us x y

  pub holds_inside : f ≤ length ui
  holds_inside = omega (arith, between-last d.pointed in_us x y, d.room)

  long : length (part b f ui) ≡ length (get_or us k [])
  long = omega (arith, between_long d.pointed in_us x y ui d.room d.laid, between-size d.pointed in_us x y)

  pub holds_column : {rows : List ℕ} → rows ≡ get_or cols k [] → part b f ui ≡ paths par k rows []
  holds_column e =
      ext_get_or 0 (part b f ui) (get_or us k []) long (λ q m. sym (between_keyed d.pointed in_us x y ui d.room d.laid q m) ∙
      laid-at us k q (omega (arith, long)))
      ∙ sym (given-column g k e)

-- The loops that write a column of U: the walk from one row, which lists as it goes; the way moved up to where it belongs; and row
-- by row. Assumes nothing.
use mathlib.Core.Path.{◌≡◌, refl, sym, ap, ◌∙◌}
use mathlib.Core.Bool.{true, false}
use mathlib.Core.List.{List, [], ◌∷◌, ◌++◌, append-nil, append_assoc}
use Prim.Native.Nat.{ℕ, zero, suc, ◌+◌, ◌-◌, ◌≤◌, ◌<◌}
use native.Mathlib.Omega.{arith}
use lib.ListN.{length, get_or, set, take, drop, length-set, length-append, take-append-drop}
use lib.Seq.{get_or-set_same, get_or-set_other, drop-set-lt, drop_at, length-take-le, take-append-le}
use borrow.Author.Tests.{ne_eqb}
use Rattle.lists.specs.Order.{lists, rises}
use Rattle.lists.specs.Parts.{part, placed}
use Rattle.lists.proofs.Laying.{part-front}
use Rattle.lists.proofs.Members.{get_d_any}
use Rattle.lists.proofs.Parts.{left_at, written-more, length_part, length-placed}
use Rattle.cs_tree.specs.Tree.{root}
use Rattle.cs_tree.specs.Pattern.{path, paths}
use Rattle.cs_tree.specs.Steps.{Marks, Walks, Walked, way, Roomy, Traced}
use Rattle.cs_tree.specs.Falling.{Reached}
use Rattle.cs_tree.proofs.Past.{listing_past}
use Rattle.cs_tree.proofs.Steps.{path_new}
use Rattle.cs_tree.proofs.Walking.{Walk, walk_start, walk_up, walk_next, walk_seen, walk_over, not_done, walks_on, Listing, listing_start}
use Rattle.cs_tree.proofs.Walking.{listing_room, listing_turn, listing_done, listing_all}

nothing : (l : List ℕ) → length l ≡ 0 → l ≡ []
nothing [] e = refl
nothing (x ∷ l) e = absurd (omega arith)

-- ---- `trace`: len of the way stand in the front of out, and the rest of it starts at c
pub record Onward (k : ℕ) (par : List ℕ) (row : ℕ) (older out : List ℕ) (c len : ℕ) : Type 0 where
  pub fuel : ℕ
  pub goes : way k par row older ≡ take len out ++ path fuel par k c older
  pub enough : k < c + fuel

pub record Tracing (s k : ℕ) (par : List ℕ) (row : ℕ) (mark₀ mark out₀ out : List ℕ) (c len : ℕ) : Type 0 where
  pub walk : Walk s k par row mark₀ mark c len
  pub long : length out ≡ length out₀
  pub inside : len ≤ length out
  pub given : Roomy s k par row mark₀ out₀
  pub tells : (o : Roomy s k par row mark₀ out₀) → Onward k par row o.older out c len

pub tracing_start : {s k : ℕ} {par : List ℕ} {row : ℕ} {mark out : List ℕ} → Walks k par mark → Roomy s k par row mark out →
    Tracing s k par row mark mark out out row 0
tracing_start {k = k} v o =
    record {
      walk = walk_start v refl;
      long = refl;
      inside = omega arith;
      given = o;
      tells = λ t. record { fuel = suc k; goes = refl; enough = omega arith };
    }

module _ {s k : ℕ} {par : List ℕ} {row : ℕ} {mark₀ mark out₀ out : List ℕ} {c len : ℕ} (v : Tracing s k par row mark₀ mark out₀ out c len) where
  told : (o : Roomy s k par row mark₀ out₀) → Walked s k par row o.older len mark → Traced s k par row o.older len mark out
  told o w =
      let t = v.tells o in
      let rest = path t.fuel par k c o.older in
      let z : length rest ≡ 0 = omega (arith, ap length t.goes, length-append (take len out) rest, length-take-le len out v.inside, w.is) in
      record { walked = w; listed = sym (t.goes ∙ ap (λ (l : List ℕ). take len out ++ l) (nothing rest z) ∙ append-nil (take len out)) }

  module _ {i : ℕ} (h : c ≤ k) (f : i ≡ c) where
    pub trace_in_par : i < length par
    trace_in_par = omega (arith, v.walk.asks.p_long)

    pub trace_in_mark : i < length mark
    trace_in_mark = omega (arith, v.walk.asks.m_long)

    pub trace_up : c < get_or par i 0
    trace_up = rw f (walk_up v.walk h)

    module _ (e : get_or mark i 0 ≡ s + 1 → ⊥) where
      new : (o : Roomy s k par row mark₀ out₀) → lists c o.older ≡ false
      new o =
          let w = v.walk.tells o.older o.marks in
          let z : get_or mark c 0 ≡ s + 1 → ⊥ = rw f at e in
          sym (not_done w) ∙ sym (w.marks.at c (omega (arith, v.walk.asks.m_long))) ∙ ne_eqb (get_or mark c 0) (s + 1) z

      up : get_or par c root ≡ get_or par i 0
      up = rw f (get_d_any par c root 0 (omega (arith, v.walk.asks.p_long)))

      on : (o : Roomy s k par row mark₀ out₀) (g : ℕ) → path (suc g) par k c o.older ≡ c ∷ path g par k (get_or par i 0) o.older
      on o g = path_new g par k c o.older h (new o) ∙ ap (λ (x : ℕ). c ∷ path g par k x o.older) up

      -- there is room for one more
      pub trace_room : len < length out
      trace_room = go v.given (v.tells v.given).fuel (v.tells v.given).goes (v.tells v.given).enough
        where
          go : (o : Roomy s k par row mark₀ out₀) (g : ℕ) → way k par row o.older ≡ take len out ++ path g par k c o.older → k < c + g →
              len < length out
          go o zero p q = absurd (omega arith)
          go o (suc g) p q =
              omega (
                arith,
                ap length (p ∙ ap (λ (t : List ℕ). take len out ++ t) (on o g)),
                length-append (take len out) (c ∷ path g par k (get_or par i 0) o.older),
                length-take-le len out v.inside,
                o.room,
                v.long,
              )

      pub tracing_turn : Tracing s k par row mark₀ (set mark i (s + 1)) out₀ (set out len c) (get_or par i 0) (len + 1)
      tracing_turn =
          record {
            walk = rw (← f) at (walk_next v.walk h (rw f at e) (ap (λ (x : ℕ). get_or par x 0) f));
            long = length-set out len c ∙ v.long;
            inside = omega (arith, length-set out len c, trace_room);
            given = v.given;
            tells = λ o. go o (v.tells o).fuel (v.tells o).goes (v.tells o).enough;
          }
        where
          go : (o : Roomy s k par row mark₀ out₀) (g : ℕ) → way k par row o.older ≡ take len out ++ path g par k c o.older → k < c + g →
              Onward k par row o.older (set out len c) (get_or par i 0) (len + 1)
          go o zero p q = absurd (omega arith)
          go o (suc g) p q =
              record {
                fuel = g;
                goes = p ∙ ap (λ (t : List ℕ). take len out ++ t) (on o g) ∙
                    sym (written-more out len c (path g par k (get_or par i 0) o.older) trace_room);
                enough = omega (arith, trace_up);
              }

    pub trace_seen : get_or mark i 0 ≡ s + 1 → (o : Roomy s k par row mark₀ out₀) → Traced s k par row o.older len mark out
    trace_seen e o = told o ((walk_seen v.walk h (rw f at e)).1 o.older o.marks)

  pub trace_over : k < c → (o : Roomy s k par row mark₀ out₀) → Traced s k par row o.older len mark out
  trace_over h o = told o ((walk_over v.walk h).1 o.older o.marks)

-- ---- `shift`: from t on the elements are moved
pub record Shifting (len top low : ℕ) (out₀ out : List ℕ) (t : ℕ) : Type 0 where
  pub long : length out ≡ length out₀
  pub ends : low + len ≡ top
  pub inside : top ≤ length out₀
  pub within : t ≤ len
  pub front : (q : ℕ) → q < t → get_or out q 0 ≡ get_or out₀ q 0
  pub back : drop (low + t) out ≡ part t len out₀ ++ drop top out₀

pub shifting_start : {len top low : ℕ} {out : List ℕ} → low ≡ top - len → len ≤ top → top ≤ length out → Shifting len top low out out len
shifting_start {len = len} {top = top} {low = low} e h g =
    let z : len - len ≡ 0 = omega arith in
    let n : low + len ≡ top = omega arith in
    record { long = refl; ends = n; inside = g; within = omega arith; front = λ q l. refl; back = rw (z, n) }

module _ {len top low : ℕ} {out₀ out : List ℕ} {t : ℕ} (v : Shifting len top low out₀ out t) where
  module _ (h : 0 < t) where
    pub shift_from : t - 1 < length out
    shift_from = omega (arith, v.long, v.inside, v.within, v.ends)

    pub shift_to : low + (t - 1) < length out
    shift_to = omega (arith, v.long, v.inside, v.within, v.ends)

    pub shifting_turn : Shifting len top low out₀ (set out (low + (t - 1)) (get_or out (t - 1) 0)) (t - 1)
    shifting_turn =
        let j = low + (t - 1) in
        let x = get_or out (t - 1) 0 in
        let f : x ≡ get_or out₀ (t - 1) 0 = v.front (t - 1) (omega arith) in
        let n : j + 1 ≡ low + t = omega arith in
        let m : t - 1 + 1 ≡ t = omega arith in
        let a : drop j (set out j x) ≡ x ∷ drop (low + t) out =
        left_at (set out j x) j 0 (omega (arith, length-set out j x, shift_to))
        ∙ (rw (get_or-set_same out j x 0 shift_to, n, drop-set-lt (low + t) out j x (omega arith))) in
        let b : part (t - 1) len out₀ ≡ get_or out₀ (t - 1) 0 ∷ part t len out₀ =
        let k : len - (t - 1) ≡ suc (len - t) = omega (arith, v.within) in
        rw (k, left_at out₀ (t - 1) 0 (omega (arith, shift_from, v.long)), m) in
        record {
          long = length-set out j x ∙ v.long;
          ends = v.ends;
          inside = v.inside;
          within = omega (arith, v.within);
          front = λ q l. get_or-set_other out j q x 0 (λ e. omega arith) ∙ v.front q (omega arith);
          back = a ∙ ap (λ (l : List ℕ). x ∷ l) v.back ∙ (rw (f, b));
        }

  pub shifting_done : t ≡ 0 → drop low out ≡ take len out₀ ++ drop top out₀
  shifting_done e =
      let z : low + 0 ≡ low = omega arith in
      (rw (e, z, part-front len out₀) at v.back)

-- where they end there already nothing moves
pub shift_none : {len top low : ℕ} (out : List ℕ) → low ≡ top - len → len ≤ top → low ≡ 0 → (low + len ≡ top) ×
    (drop low out ≡ take len out ++ drop top out)
shift_none {len = len} {top = top} {low = low} out e h z =
    let n : len ≡ top = omega arith in
    (omega arith, rw (z, n) (sym (take-append-drop top out)))

-- ---- `lay`, row by row: what is listed ends where the column is to end, and behind that nothing changes
pub record Reaching (s k : ℕ) (par rows mark₀ mark out₀ out : List ℕ) (end top q : ℕ) : Type 0 where
  pub asks : Walks k par mark
  pub same : length mark ≡ length mark₀
  pub long : length out ≡ length out₀
  pub inside : end ≤ length out
  pub room : length (paths par k rows []) ≤ end
  pub count : ℕ
  pub rest : top + count ≡ end
  pub is : Listing s k par rows mark count q
  pub back : drop top out ≡ is.older ++ drop end out₀

pub reaching_start : {s k : ℕ} {par : List ℕ} (rows : List ℕ) {mark : List ℕ} (out : List ℕ) {end : ℕ} → Walks k par mark → Marks s mark [] →
    end ≤ length out → length (paths par k rows []) ≤ end
    → Reaching s k par rows mark mark out out end end 0
unfolding listing_start
reaching_start rows out v m i e =
    record { asks = v; same = refl; long = refl; inside = i; room = e; count = 0; rest = omega arith; is = listing_start rows m; back = refl }

module _ {s k : ℕ} {par rows mark₀ mark out₀ out : List ℕ} {end top q : ℕ} (v : Reaching s k par rows mark₀ mark out₀ out end top q) where
  pub reaching_end : top ≤ length out
  reaching_end = omega (arith, v.rest, v.inside)

  module _ (h : q < length rows) where
    -- what `trace` asks of the free front
    pub reaching_roomy : Roomy s k par (get_or rows q 0) mark (part 0 top out)
    reaching_roomy =
        record {
          older = v.is.older;
          marks = v.is.marks;
          room = omega (arith, length_part 0 top out reaching_end, listing_room v.is h refl, v.rest, v.room);
        }

    module _ {len : ℕ} {mark1 ys : List ℕ} (e : length mark1 ≡ length mark) (g : length ys ≡ length (part 0 top out))
        (w : (o : Roomy s k par (get_or rows q 0) mark (part 0 top out)) → Traced s k par (get_or rows q 0) o.older len mark1 ys) where
      traced : Traced s k par (get_or rows q 0) v.is.older len mark1 ys
      unfolding reaching_roomy
      traced = w reaching_roomy

      ys_long : length ys ≡ top
      ys_long = omega (arith, g, length_part 0 top out reaching_end)

      filled_long : length (placed 0 top out ys) ≡ length out
      filled_long = length-placed 0 top out ys (omega arith) reaching_end (omega (arith, ys_long))

      pub reaching_room : len ≤ top
      reaching_room = omega (arith, traced.walked.is, listing_room v.is h refl, v.rest, v.room)

      pub reaching_shift : top ≤ length (placed 0 top out ys)
      reaching_shift = omega (arith, filled_long, reaching_end)

      behind : drop top (placed 0 top out ys) ≡ drop top out
      behind = let z : top - 0 ≡ top = omega arith in rw z (drop_at ys (drop top out) top ys_long)

      ahead : take len (placed 0 top out ys) ≡ take len ys
      ahead = take-append-le len ys (drop (top - 0) (drop 0 out)) (omega (arith, ys_long, reaching_room))

      pub reaching_turn : {low : ℕ} {out2 : List ℕ} → length out2 ≡ length (placed 0 top out ys) → (low + len ≡ top) ×
          (drop low out2 ≡ take len (placed 0 top out ys) ++ drop top (placed 0 top out ys))
          → Reaching s k par rows mark₀ mark1 out₀ out2 end low (q + 1)
      unfolding listing_turn
      reaching_turn a b =
          record {
            asks = walks_on v.asks e;
            same = e ∙ v.same;
            long = a ∙ filled_long ∙ v.long;
            inside = omega (arith, a, filled_long, v.inside);
            room = v.room;
            count = v.count + len;
            rest = omega (arith, v.rest, b.0);
            is = listing_turn v.is h refl traced.walked refl;
            back = b.1 ∙ (rw (ahead, behind, traced.listed, v.back)) ∙
                sym (append_assoc (way k par (get_or rows q 0) v.is.older) v.is.older (drop end out₀));
          }

  pub reaching_done : length rows ≤ q → Reached s k par rows end out₀ top mark out
  reaching_done h =
      let d = listing_done v.is h in
      record { size = omega (arith, d.0, v.rest); back = v.back ∙ ap (λ (l : List ℕ). l ++ drop end out₀) (listing_all v.is h); marks = d.1 }

  -- the rows rise, and the next one is past k
  pub reaching_past : rises rows ≡ true → k < get_or rows q 0 → Reached s k par rows end out₀ top mark out
  unfolding listing_past
  reaching_past r h =
      let l = listing_past v.is r h in
      let d = listing_done l (omega arith) in
      record { size = omega (arith, d.0, v.rest); back = v.back ∙ ap (λ (o : List ℕ). o ++ drop end out₀) (listing_all l (omega arith)); marks = d.1 }

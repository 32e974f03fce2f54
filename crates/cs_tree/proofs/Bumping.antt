-- The loops that count the entries of each row of U: the walk from one row, which counts as it marks, row by row, and column by
-- column. Assumes nothing.
use mathlib.Core.Path.{◌≡◌, refl, sym, ap, ◌∙◌}
use mathlib.Core.Bool.{true, false}
use mathlib.Core.List.{List, [], ◌∷◌, ◌++◌, flatten}
use Prim.Native.Nat.{ℕ, zero, suc, ◌+◌, ◌*◌, ◌≤◌, ◌<◌, ◌%◌, ◌^◌}
use native.Mathlib.Numerals.{add-one}
use native.Mathlib.Omega.{arith}
use lib.ListN.{length, get_or, set, take, length-set}
use lib.Seq.{get_or-set_other, take-suc, take_all}
use borrow.Author.Tests.{eq-eqb, ne_eqb}
use Rattle.lists.specs.Keeping.{Kept}
use Rattle.lists.specs.Order.{lists, rises}
use Rattle.lists.specs.Sums.{bumped, counted}
use Rattle.lists.proofs.Keeping.{kept-all, kept_then, kept-wider}
use Rattle.lists.proofs.Members.{get_d_any}
use Rattle.lists.proofs.Recounting.{counted-append, counted-front, counted_none, counted-one}
use Rattle.cs_tree.specs.Tree.{root}
use Rattle.cs_tree.specs.Pattern.{path, paths, upper, entries}
use Rattle.lists.specs.Keeping.{Zeros}
use Rattle.cs_tree.specs.Steps.{Marks, Walks, way, Given}
use Rattle.cs_tree.specs.Bumps.{Bumped, Tallied}
use Rattle.cs_tree.proofs.Filling.{given-column, column-short, upper_long}
use Rattle.lists.proofs.Positions.{flatten_last}
use Rattle.cs_tree.proofs.Laid.{entries-more, entries-part}
use Rattle.cs_tree.proofs.Past.{listing_past}
use Rattle.cs_tree.proofs.Steps.{path-over, path_seen, path_new}
use Rattle.cs_tree.proofs.Walking.{marks_fresh, marks-next, Walk, walk_start, walk_up, walk_next, walk_seen, walk_over, not_done, walks_on, Listing}
use Rattle.cs_tree.proofs.Walking.{listing_start, listing_turn, listing_done, listing_all}

-- ---- the walk from a row: what is left of the way gives, from the counts of now, what the whole way gives
pub record Bumps (k : ℕ) (par : List ℕ) (row : ℕ) (older counts₀ counts : List ℕ) (i : ℕ) : Type 0 where
  pub fuel : ℕ
  pub goes : counted (way k par row older) counts₀ ≡ counted (path fuel par k i older) counts
  pub enough : k < i + fuel

pub record Bumping (k : ℕ) (par : List ℕ) (row : ℕ) (mark₀ mark counts₀ counts : List ℕ) (i len : ℕ) : Type 0 where
  pub walk : Walk k k par row mark₀ mark i len
  pub wide : k < length counts
  pub kept : Kept 0 (k + 1) counts₀ counts
  pub tells : (older : List ℕ) → Marks k mark₀ older → Bumps k par row older counts₀ counts i

pub bumping_start : {k : ℕ} {par : List ℕ} {row i : ℕ} {mark counts : List ℕ} → Walks k par mark → k < length counts → i ≡ row →
    Bumping k par row mark mark counts counts i 0
bumping_start {k = k} {counts = counts} v h e =
    record {
      walk = walk_start v e;
      wide = h;
      kept = kept-all (k + 1) counts;
      tells = λ older m. rw e (record { fuel = suc k; goes = refl; enough = omega arith });
    }

module _ {k : ℕ} {par : List ℕ} {row : ℕ} {mark₀ mark counts₀ counts : List ℕ} {i len : ℕ} (v : Bumping k par row mark₀ mark counts₀ counts i len)
  where
    ended : (older : List ℕ) (m : Marks k mark₀ older) → path (v.tells older m).fuel par k i older ≡ []
        → counts ≡ counted (way k par row older) counts₀
    ended older m e = sym ((v.tells older m).goes ∙ ap (λ (l : List ℕ). counted l counts) e ∙ counted_none counts)

    module _ (h : i ≤ k) where
      in_par : i < length par
      in_par = omega (arith, v.walk.asks.p_long)

      in_mark : i < length mark
      in_mark = omega (arith, v.walk.asks.m_long)

      pub bump_up : i < get_or par i 0
      bump_up = walk_up v.walk h

      seen_as : (older : List ℕ) (m : Marks k mark₀ older) → get_or mark i 0 ≡ k + 1 → path (v.tells older m).fuel par k i older ≡ []
      seen_as older m e =
          let w = v.walk.tells older m in
          path_seen (v.tells older m).fuel par k i older h (sym (not_done w) ∙ sym (w.marks.at i in_mark) ∙ eq-eqb (get_or mark i 0) (k + 1) e)

      pub bumping_seen : get_or mark i 0 ≡ k + 1 → Bumped k par row len mark₀ mark counts₀ counts
      bumping_seen e = let w = walk_seen v.walk h e in (w.0, v.kept, λ older m. (w.1 older m, ended older m (seen_as older m e)))

      pub bumping_next : {n x : ℕ} → (get_or mark i 0 ≡ k + 1 → ⊥) → n ≡ get_or par i 0 → x ≡ (get_or counts i 0 + 1) % 2 ^ 32 →
          Bumping k par row mark₀ (set mark i (k + 1)) counts₀ (set counts i x) n (len + 1)
      unfolding bumped
      bumping_next {n = n} {x = x} e f g =
          record {
            walk = walk_next v.walk h e f;
            wide = rw length-set v.wide;
            kept = kept_then v.kept (record { long = length-set counts i x; rest = λ q l. get_or-set_other counts i q x 0 (λ y. omega arith) });
            tells = λ older m. go older m (v.tells older m).fuel (v.tells older m).goes (v.tells older m).enough;
          }
        where
          new : (older : List ℕ) → Marks k mark₀ older → lists i older ≡ false
          new older m = let w = v.walk.tells older m in sym (not_done w) ∙ sym (w.marks.at i in_mark) ∙ ne_eqb (get_or mark i 0) (k + 1) e

          same : get_or par i root ≡ n
          same = get_d_any par i root 0 in_par ∙ sym f

          go : (older : List ℕ) → Marks k mark₀ older → (d : ℕ) → counted (way k par row older) counts₀ ≡ counted (path d par k i older) counts →
              k < i + d → Bumps k par row older counts₀ (set counts i x) n
          go older m zero p q = absurd (omega arith)
          go older m (suc d) p q =
              record {
                fuel = d;
                goes = p ∙ ap (λ (l : List ℕ). counted l counts) (path_new d par k i older h (new older m) ∙
                    ap (λ (y : ℕ). i ∷ path d par k y older) same) ∙ counted-one i (path d par k n older) counts
                    ∙ ap (λ (y : ℕ). counted (path d par k n older) (set counts i y)) (sym g);
                enough = omega (arith, bump_up);
              }

    pub bumping_over : k < i → Bumped k par row len mark₀ mark counts₀ counts
    bumping_over h = let w = walk_over v.walk h in
        (w.0, v.kept, λ older m. (w.1 older m, ended older m (path-over (v.tells older m).fuel par k i older h)))

-- ---- row by row
pub record Rowing (k : ℕ) (par rows mark₀ mark counts₀ counts : List ℕ) (count q : ℕ) : Type 0 where
  pub asks : Walks k par mark
  pub same : length mark ≡ length mark₀
  pub wide : k < length counts
  pub kept : Kept 0 (k + 1) counts₀ counts
  pub fits : count ≤ q * 65536
  pub is : Listing k k par rows mark count q
  pub are : counts ≡ counted is.older counts₀

pub rowing_start : {k : ℕ} {par : List ℕ} (rows : List ℕ) {mark counts : List ℕ} → Walks k par mark → Marks k mark [] → k < length counts →
    Rowing k par rows mark mark counts counts 0 0
unfolding listing_start
rowing_start {k = k} rows {counts = counts} v m h =
    record {
      asks = v;
      same = refl;
      wide = h;
      kept = kept-all (k + 1) counts;
      fits = omega arith;
      is = listing_start rows m;
      are = sym (counted_none counts);
    }

module _ {k : ℕ} {par rows mark₀ mark counts₀ counts : List ℕ} {count q : ℕ} (v : Rowing k par rows mark₀ mark counts₀ counts count q) where
  pub rowing_turn : {len : ℕ} {mark1 counts1 : List ℕ} → q < length rows → length mark1 ≡ length mark →
      Bumped k par (get_or rows q 0) len mark mark1 counts counts1
      → Rowing k par rows mark₀ mark1 counts₀ counts1 (count + len) (q + 1)
  unfolding listing_turn
  rowing_turn h e w =
      let o = v.is.older in
      let z = w.2 o v.is.marks in
      record {
        asks = walks_on v.asks e;
        same = e ∙ v.same;
        wide = omega (arith, w.1.long, v.wide);
        kept = kept_then v.kept w.1;
        fits = omega (arith, v.fits, v.asks.small, w.0);
        is = listing_turn v.is h refl z.0 refl;
        are = z.1 ∙ ap (counted (way k par (get_or rows q 0) o)) v.are ∙ sym (counted-front (way k par (get_or rows q 0) o) o counts₀);
      }

  pub rowing_done : length rows ≤ q → Tallied k par rows count mark counts₀ counts
  rowing_done h =
      let d = listing_done v.is h in
      record { size = d.0; marks = d.1; kept = v.kept; are = v.are ∙ ap (λ (l : List ℕ). counted l counts₀) (listing_all v.is h) }

  -- the rows rise, and the next one is past k
  pub rowing_past : rises rows ≡ true → k < get_or rows q 0 → Tallied k par rows count mark counts₀ counts
  unfolding listing_past
  rowing_past r h =
      let l = listing_past v.is r h in
      let d = listing_done l (omega arith) in
      record { size = d.0; marks = d.1; kept = v.kept; are = v.are ∙ ap (λ (o : List ℕ). counted o counts₀) (listing_all l (omega arith)) }

-- ---- column by column
pub record Totting (cols : List (List ℕ)) (counts₀ mark counts : List ℕ) (total k : ℕ) : Type 0 where
  pub within : k ≤ length cols
  pub m_long : length mark ≡ length cols
  pub wide : length cols ≤ length counts
  pub kept : Kept 0 (length cols) counts₀ counts
  pub fresh : Marks k mark []
  pub few : total ≤ 4194304
  pub sum : total ≡ entries (take k (upper cols))
  pub are : counts ≡ counted (flatten (take k (upper cols))) counts₀

pub totting_start : {cols : List (List ℕ)} {mark counts : List ℕ} → length mark ≡ length cols → length cols ≤ length counts → Zeros mark →
    Totting cols counts mark counts 0 0
unfolding entries flatten
totting_start {cols = cols} {mark = mark} {counts = counts} a b h =
    record {
      within = omega arith;
      m_long = a;
      wide = b;
      kept = kept-all (length cols) counts;
      fresh = marks_fresh 0 mark (λ i l. omega (arith, h.at i l));
      few = omega arith;
      sum = refl;
      are = sym (counted_none counts);
    }

module _ {cols : List (List ℕ)} {par counts₀ mark counts : List ℕ} {total k : ℕ} (g : Given cols par) (v : Totting cols counts₀ mark counts total k)
  where
    module _ {rows : List ℕ} {c : ℕ} {mark1 counts1 : List ℕ} (h : k < length cols) (e : rows ≡ get_or cols k []) (l : length mark1 ≡ length mark)
        (r : Tallied k par rows c mark1 counts counts1) where
      column-is : paths par k rows [] ≡ get_or (upper cols) k []
      column-is = given-column g k e

      count_is : c ≡ length (get_or (upper cols) k [])
      count_is = r.size ∙ ap length column-is

      pub tot_small : c ≤ 65535
      tot_small = omega (arith, count_is, column-short g k, g.small)

      more : total + c ≡ entries (take (k + 1) (upper cols))
      more = omega (arith, v.sum, count_is, entries-more (upper cols) k (rw (upper_long g) h))

      pub tot_kept : Kept 0 (length cols) counts₀ counts1
      tot_kept = kept_then v.kept (kept-wider (length cols) (omega arith) r.kept)

      counts_are : counts1 ≡ counted (flatten (take (k + 1) (upper cols))) counts₀
      counts_are =
          let s : take (k + 1) (upper cols) ≡ take k (upper cols) ++ (get_or (upper cols) k [] ∷ []) =
          rw add-one (take-suc (upper cols) k [] (rw (upper_long g) h)) in
          r.are ∙ ap (λ (d : List ℕ). counted d counts) column-is ∙ ap (counted (get_or (upper cols) k [])) v.are
          ∙ sym (counted-append (flatten (take k (upper cols))) (get_or (upper cols) k []) counts₀)
          ∙ ap (λ (d : List ℕ). counted d counts₀) (sym (ap flatten s ∙ flatten_last (take k (upper cols)) (get_or (upper cols) k [])))

      pub totting_turn : total + c ≤ 4194304 → Totting cols counts₀ mark1 counts1 (total + c) (k + 1)
      totting_turn f =
          record {
            within = omega arith;
            m_long = l ∙ v.m_long;
            wide = omega (arith, r.kept.long, v.wide);
            kept = tot_kept;
            fresh = marks-next r.marks;
            few = f;
            sum = more;
            are = counts_are;
          }

      pub totting_stop : 4194304 < total + c → 4194304 < entries (upper cols)
      totting_stop f = omega (arith, more, entries-part (upper cols) (k + 1))

    pub totting_done : length cols ≤ k → (total ≡ entries (upper cols)) × Kept 0 (length cols) counts₀ counts ×
        (counts ≡ counted (flatten (upper cols)) counts₀)
    totting_done h =
        let t : take k (upper cols) ≡ upper cols = take_all k (upper cols) (omega (arith, v.within, upper_long g)) in
        (v.sum ∙ ap entries t, v.kept, v.are ∙ ap (λ (d : List (List ℕ)). counted (flatten d) counts₀) t)

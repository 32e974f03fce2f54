-- The loops that look for U's entries by their rows in what is lent as L: one column, column by column, and what is known at the
-- end. Assumes nothing.
use mathlib.Core.Path.{◌≡◌, sym, ap, ◌∙◌}
use mathlib.Core.List.{List, flatten}
use Prim.Native.Nat.{ℕ, suc, ◌+◌, ◌-◌, ◌≤◌, ◌<◌}
use native.Mathlib.Omega.{arith}
use lib.ListN.{length, get_or, set, take, length-set}
use Rattle.lists.specs.Parts.{part}
use Rattle.lists.proofs.Standing.{Standing, standing_turn, standing_starts, standing_done}
use Rattle.cs_tree.specs.Pattern.{starts, entries, transposed}
use Rattle.cs_tree.specs.Steps.{numbers, Whole}
use Rattle.cs_tree.specs.Backward.{Among, Stood}
use Rattle.cs_tree.proofs.Between.{between_start, between-end, between_order, between-last, between_long, between_keyed, between_numbered}
use Rattle.cs_tree.proofs.Count.{length-starts}
use Rattle.cs_tree.proofs.Laid.{length-laid, laid-transposed, transposed-start}
use Rattle.cs_tree.proofs.Lowering.{items_long, named, lower_long}

-- ---- `look_column`
pub record Looking (k : ℕ) (rows li next₀ next : List ℕ) (q : ℕ) : Type 0 where
  pub few : length li ≤ 4194304
  pub same : length next ≡ length next₀
  pub low : (m : ℕ) → m < length rows → get_or rows m 0 < length next₀
  pub within : q ≤ length rows
  pub tells : Stood k rows li next₀ next q

module _ {k : ℕ} {rows li next₀ next : List ℕ} {q : ℕ} (v : Looking k rows li next₀ next q) where
  module _ (h : q < length rows) {j : ℕ} (e : j ≡ get_or rows q 0) where
    pub looking_turn : {t : ℕ} → t ≡ get_or next j 0 → get_or li t 0 ≡ k → Looking k rows li next₀ (set next j (get_or next j 0 + 1)) (q + 1)
    looking_turn {t = t} f g =
        record {
          few = v.few;
          same = length-set next j (get_or next j 0 + 1) ∙ v.same;
          low = v.low;
          within = omega arith;
          tells = λ n keys xs held at a s.
              let z : at + (q + 1) ≡ at + q + 1 = omega arith in
              rw z (standing_turn (v.tells n keys xs held at a s) a.alike (omega (arith, a.end)) (omega (arith, a.wide, v.same)) (a.keyed q h ∙
              sym e) (ap (λ (y : ℕ). get_or li y 0) (sym f) ∙ g ∙ sym (a.numbered q h)));
        }

-- ---- `look_columns`
-- the columns below k are seen
pub record Seen (n : ℕ) (up ui li next₀ next : List ℕ) (k : ℕ) : Type 0 where
  pub tells : (w : Whole n (length li) up ui) (held : List ℕ) → Standing 0 n (flatten w.us) (numbers 0 w.us) held li next₀ 0
      → Standing 0 n (flatten w.us) (numbers 0 w.us) held li next (entries (take k w.us))

pub seen_start : {n : ℕ} {up ui li next : List ℕ} → Seen n up ui li next next 0
unfolding entries
seen_start = record { tells = λ w held s. s }

module _ {n t : ℕ} {up ui : List ℕ} (w : Whole n t up ui) {k : ℕ} (h : k < n) where
  in_us : k < length w.us
  in_us = rw w.count h

  module _ {b f : ℕ} (x : b ≡ get_or up k 0) (y : f ≡ get_or up (k + 1) 0) where
    room : entries w.us ≤ length ui
    room = omega (arith, w.size, w.room)

    pub seen_order : b ≤ f
    seen_order = between_order w.pointed in_us x y

    pub seen_inside : f ≤ length ui
    seen_inside = omega (arith, between-last w.pointed in_us x y, room)

    long : length (part b f ui) ≡ f - b
    long = between_long w.pointed in_us x y ui room w.laid

    end : entries (take k w.us) + length (part b f ui) ≡ entries (take (k + 1) w.us)
    end = omega (arith, long, between_start w.pointed in_us x y, between-end w.pointed in_us x y, seen_order)

    inside : entries (take k w.us) + length (part b f ui) ≤ length (flatten w.us)
    inside = omega (arith, end, between-end w.pointed in_us x y, between-last w.pointed in_us x y, length-laid w.us)

    pub seen_low : (m : ℕ) → m < length (part b f ui) → get_or (part b f ui) m 0 < n
    seen_low m l = rw (← between_keyed w.pointed in_us x y ui room w.laid m l) (named w (entries (take k w.us) + m) (omega (arith, inside)))

    among : {next : List ℕ} → n ≤ length next → Among k (part b f ui) n (flatten w.us) (numbers 0 w.us) next (entries (take k w.us))
    among l =
        record {
          alike = items_long w;
          wide = l;
          end = inside;
          keyed = between_keyed w.pointed in_us x y ui room w.laid;
          numbered = between_numbered w.pointed in_us x y ui room w.laid;
        }

pub seen_turn : {n : ℕ} {up ui li next₀ next next1 : List ℕ} {k b f : ℕ} → Seen n up ui li next₀ next k → k < n → n ≤ length next →
    b ≡ get_or up k 0 → f ≡ get_or up (k + 1) 0
    → Stood k (part b f ui) li next next1 (length (part b f ui)) → Seen n up ui li next₀ next1 (k + 1)
seen_turn {n = n} {k = k} v h l x y d =
    record {
      tells = λ w held s. rw (← end w h x y) (d n (flatten w.us) (numbers 0 w.us) held (entries (take k w.us)) (among w h x y l)
          (v.tells w held s));
    }

-- ---- the whole of L
module _ {n t : ℕ} {up ui : List ℕ} (w : Whole n t up ui) {lp li next : List ℕ} (v : Standing 0 n (flatten w.us) (numbers 0 w.us) lp li next
    (entries w.us))
    (none : get_or lp 0 0 ≡ 0) (used : (r : ℕ) → r < n → get_or next r 0 ≡ get_or lp (suc r) 0) where
  all : length (flatten w.us) ≤ entries w.us
  all = omega (arith, length-laid w.us)

  pub seen_starts : (k : ℕ) → k < length (starts 0 (transposed w.us)) → get_or (starts 0 (transposed w.us)) k 0 ≡ get_or lp k 0
  seen_starts k l =
      let m : k ≤ n = omega (arith, length-starts 0 (transposed w.us), lower_long w) in
      transposed-start w.us w.once k (omega (arith, w.count)) ∙ sym (standing_starts v (items_long w) all none used k m)

  pub seen_places : (q : ℕ) → q < length (flatten (transposed w.us)) → get_or (flatten (transposed w.us)) q 0 ≡ get_or li q 0
  seen_places q l =
      let e = laid-transposed w.us w.once in
      let f = rw w.count at e in
      rw f (sym (standing_done v (items_long w) all none used q (rw f at l)))

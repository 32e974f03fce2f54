-- The loops that fill U and L from the last column to the first: the rows of a column put into L, and column by column. Assumes
-- nothing.
use mathlib.Core.Path.{◌≡◌, refl, sym, ap, ◌∙◌}
use mathlib.Core.List.{List, [], ◌++◌, append_assoc, flatten, Memᴰ}
use mathlib.Core.Logic.{⊎_elim}
use Prim.Native.Nat.{ℕ, suc, ◌+◌, ◌-◌, ◌≤◌, ◌<◌}
use native.Mathlib.Numerals.{add-one}
use native.Mathlib.Omega.{arith}
use lib.ListN.{length, get_or, set, take, drop, length-set}
use lib.Seq.{get_or-set_same, get_or-set_other, take_all, take_at, drop-set-lt}
use Rattle.lists.specs.Calls.{onto}
use Rattle.lists.specs.Keys.{by_key}
use Rattle.lists.specs.Order.{Once}
use Rattle.lists.specs.Parts.{part}
use Rattle.lists.proofs.Bools.{eq-or-ne}
use Rattle.lists.proofs.Keys.{keys-whole}
use Rattle.lists.proofs.Parts.{front, left_at, left-none}
use Rattle.lists.proofs.Receding.{Ends, Receding, receding_start, receding_some, receding_in_out, receding_turn, receding_done}
use Rattle.cs_tree.specs.Pattern.{paths, upper, lower, transposed, starts, entries}
use Rattle.lists.specs.Keeping.{Zeros}
use Rattle.cs_tree.specs.Steps.{Marks, Walks, Given, numbers}
use Rattle.cs_tree.specs.Falling.{Reached, Last, Left, Ending, Ample}
use Rattle.cs_tree.proofs.Count.{length-starts}
use Rattle.cs_tree.proofs.Filling.{fits, given_walks, given-column, upper_long}
use Rattle.cs_tree.proofs.Laid.{entries-more, entries-part, start-at, length-laid, length-numbers, laid-at, numbered_at, length-transposed}
use Rattle.cs_tree.proofs.Laid.{laid-transposed, transposed-start}
use Rattle.cs_tree.proofs.Laws.{fill_upper}
use Rattle.cs_tree.proofs.Lowering.{laid-below}
use Rattle.cs_tree.proofs.Promises.{promised, filled}
use Rattle.cs_tree.proofs.Walking.{marks_fresh, marks-next}

-- ---- one column's rows put into L, the last first; for whatever they stand among
abbrev pub Putting : (k : ℕ) (rows next₀ li₀ next li : List ℕ) (q : ℕ) → Type 0
Putting k rows next₀ li₀ next li q = (s : Last k rows next₀ li₀) → Left k rows next₀ li₀ s next li q

module _ {k : ℕ} {rows next₀ li₀ next li : List ℕ} {q : ℕ} (v : Putting k rows next₀ li₀ next li q) (h : 0 < q) (b : q ≤ length rows) {j : ℕ}
    (e : j ≡ get_or rows (q - 1) 0) where
  module _ (s : Last k rows next₀ li₀) where
    abbrev at : ℕ
    at = s.at + (q - 1)

    less : s.at + q ≡ suc at
    less = omega arith

    row : get_or s.keys at 0 ≡ j
    row = s.keyed (q - 1) (omega arith) ∙ sym e

    pub putting_some : 0 < get_or next j 0
    putting_some = rw (← row) (receding_some (v s) at less)

    pub putting_place : get_or next j 0 - 1 < length li
    putting_place = rw (← row) (receding_in_out (v s) at less)

  pub putting_turn : {t : ℕ} → t ≡ get_or next j 0 - 1 → Putting k rows next₀ li₀ (set next j (get_or next j 0 - 1)) (set li t k) (q - 1)
  putting_turn e s = rw (e, ← s.numbered (q - 1) (omega arith), ← row s) (receding_turn (v s) (at s) (less s))

-- ---- column by column: from k on they are laid, and start at top
pub record Falling (cols : List (List ℕ)) (up₀ ui₀ next₀ li₀ mark up ui next li : List ℕ) (top k : ℕ) : Type 0 where
  pub within : k ≤ length cols
  pub m_long : length mark ≡ length cols
  pub fresh : Marks (length cols - k) mark []
  pub top_is : top ≡ entries (take k (upper cols))
  pub up_room : length cols < length up₀
  pub up_long : length up ≡ length up₀
  pub up_at : (j : ℕ) → k ≤ j → j ≤ length cols → get_or up j 0 ≡ entries (take j (upper cols))
  pub up_rest : (j : ℕ) → length cols < j → get_or up j 0 ≡ get_or up₀ j 0
  pub ui_room : entries (upper cols) ≤ length ui₀
  pub ui_long : length ui ≡ length ui₀
  pub ui_back : drop top ui ≡ flatten (drop k (upper cols)) ++ drop (entries (upper cols)) ui₀
  pub put : Receding 0 (length cols) (flatten (upper cols)) (numbers 0 (upper cols)) next₀ li₀ next li (entries (take k (upper cols)))

module _ {cols : List (List ℕ)} {par : List ℕ} (g : Given cols par) where
  abbrev us : List (List ℕ)
  us = upper cols

  abbrev n : ℕ
  n = length cols

  pub upper-once : (k : ℕ) → Once (get_or us k [])
  upper-once = (promised cols (fits g)).once

  pub upper-below : (k x : ℕ) → Memᴰ x (get_or us k []) → x < n
  upper-below k x m = omega (arith, fill_upper cols (filled cols (fits g) m))

  alike : length (numbers 0 us) ≡ length (flatten us)
  alike = length-numbers 0 us ∙ sym (length-laid us)

  named : (q : ℕ) → q < length (flatten us) → get_or (flatten us) q 0 < n
  named = laid-below us n upper-below

  lower-size : length (transposed us) ≡ n
  lower-size = length-transposed us upper-once ∙ upper_long g

  whole-front : length (by_key n (flatten us) (numbers 0 us)) ≡ entries us
  whole-front = keys-whole n (flatten us) (numbers 0 us) alike named ∙ length-laid us

  ends : {next li : List ℕ} → Ending (transposed us) next → entries us ≤ length li → Ends n (flatten us) (numbers 0 us) next li
  ends e r =
      record {
        alike = alike;
        named = named;
        w_long = omega (arith, e.long, lower-size);
        ends =
            λ j l.
            e.at j (omega (arith, lower-size)) ∙ ap (λ (x : ℕ). entries (take x (transposed us))) (add-one j) ∙
            sym (start-at (transposed us) (suc j) (omega (arith, lower-size)))
            ∙ transposed-start us upper-once (suc j) (omega (arith, upper_long g));
        room = omega (arith, whole-front);
      }

  all : take n us ≡ us
  all = take_all n us (omega (arith, upper_long g))

  started : {t : ℕ} {mark up ui next li : List ℕ} → length mark ≡ n → Zeros mark → Ample cols t up ui next li →
      Falling cols (set up n t) ui next li mark (set up n t) ui next li t n
  unfolding flatten lower
  started {t = t} {mark = mark} {up = up} {ui = ui} a z r =
      let e = r.size in
      let d : n - n ≡ 0 = omega arith in
      let s : t ≡ entries (take n us) = e ∙ ap entries (sym all) in
      let l : length (flatten us) ≡ entries (take n us) = length-laid us ∙ ap entries (sym all) in
      record {
        within = omega arith;
        m_long = a;
        fresh = rw d (marks_fresh 0 mark (λ i m. omega (arith, z.at i m)));
        top_is = s;
        up_room = omega (arith, r.up_room, length-set up n t);
        up_long = refl;
        up_at = λ j x y. let q : j ≡ n = omega arith in rw q (get_or-set_same up n t 0 (omega (arith, r.up_room)) ∙ s);
        up_rest = λ j x. refl;
        ui_room = omega (arith, r.ui_room);
        ui_long = refl;
        ui_back = rw (e, left-none us n (omega (arith, upper_long g)));
        put = rw (← l) (receding_start (ends r.ends (omega (arith, r.li_room))));
      }

  pub falling_start : {t k : ℕ} {mark up ui next li : List ℕ} → k ≡ n → length mark ≡ n → Zeros mark → Ample cols t up ui next li →
      Falling cols (set up k t) ui next li mark (set up k t) ui next li t k
  falling_start e a z r = rw e (started a z r)

  module _ {up₀ ui₀ next₀ li₀ mark up ui next li : List ℕ} {top k : ℕ} (v : Falling cols up₀ ui₀ next₀ li₀ mark up ui next li top k) where
    pub fall_inside : top ≤ length ui
    fall_inside = omega (arith, v.top_is, entries-part us k, v.ui_room, v.ui_long)

    pub fall_few : entries us ≤ 4194304 → top ≤ 4194304
    fall_few h = omega (arith, v.top_is, entries-part us k)

    module _ (j s : ℕ) {rows : List ℕ} (e : k ≡ suc j) (f : s ≡ n - k) (x : rows ≡ get_or cols j []) where
      j_in : j < n
      j_in = omega (arith, v.within)

      pub fall_walks : Walks j par mark
      fall_walks = given_walks g j_in v.m_long

      pub fall_fresh : Marks s mark []
      fall_fresh = rw f v.fresh

      abbrev col : List ℕ
      col = get_or us j []

      column-is : paths par j rows [] ≡ col
      column-is = given-column g j x

      more : top ≡ entries (take j us) + length col
      more = let z : k ≡ j + 1 = omega arith in
          omega (arith, v.top_is, ap (λ (q : ℕ). entries (take q us)) z, entries-more us j (rw (upper_long g) j_in))

      pub fall_room : length (paths par j rows []) ≤ top
      fall_room = omega (arith, ap length column-is, more)

      module _ {low : ℕ} {mark1 ui1 : List ℕ} (l : length ui1 ≡ length ui) (r : Reached s j par rows top ui low mark1 ui1) where
        low_is : low ≡ entries (take j us)
        low_is = omega (arith, r.size, ap length column-is, more)

        pub fall_order : low ≤ top
        fall_order = omega (arith, r.size)

        pub fall_end : top ≤ length ui1
        fall_end = omega (arith, fall_inside)

        part-is : part low top ui1 ≡ col
        part-is = ap (take (top - low)) (r.back ∙ ap (λ (y : List ℕ). y ++ drop top ui) column-is) ∙
            take_at col (drop top ui) (top - low) (omega (arith, more, low_is))

        pub fall_last : Last j (part low top ui1) next li
        fall_last =
            let z : entries (take j us) + length (part low top ui1) ≡ entries (take k us) = omega (arith, ap length part-is, more, v.top_is) in
            record {
              n = n;
              keys = flatten us;
              xs = numbers 0 us;
              next₀ = next₀;
              li₀ = li₀;
              at = entries (take j us);
              is = rw z v.put;
              keyed = λ q m. laid-at us j q (omega (arith, ap length part-is)) ∙ ap (λ (y : List ℕ). get_or y q 0) (sym part-is);
              numbered = λ q m. numbered_at 0 us j q (omega (arith, ap length part-is)) ∙ (let y : 0 + j ≡ j = omega arith in y);
            }

        pub falling_turn : {next1 li1 : List ℕ} → length mark1 ≡ length mark →
            ((a : Last j (part low top ui1) next li) → Left j (part low top ui1) next li a next1 li1 0)
            → Falling cols up₀ ui₀ next₀ li₀ mark1 (set up j low) ui1 next1 li1 low j
        unfolding flatten fall_last
        falling_turn a w =
            let z : entries (take j us) + 0 ≡ entries (take j us) = omega arith in
            let d : s + 1 ≡ n - j = omega (arith, v.within) in
            let y : k ≡ j + 1 = omega arith in
            record {
              within = omega (arith, v.within);
              m_long = a ∙ v.m_long;
              fresh = rw d at (marks-next r.marks);
              top_is = low_is;
              up_room = v.up_room;
              up_long = length-set up j low ∙ v.up_long;
              up_at =
                  λ i b c.
                  ⊎_elim
                  (λ (q : i ≡ j). rw (q, get_or-set_same up j low 0 (omega (arith, v.up_long, v.up_room, j_in))) low_is)
                  (λ (q : i ≡ j → ⊥). get_or-set_other up j i low 0 q ∙ v.up_at i (omega arith) c)
                  (eq-or-ne i j);
              up_rest = λ i b. get_or-set_other up j i low 0 (λ q. omega (arith, j_in)) ∙ v.up_rest i b;
              ui_room = v.ui_room;
              ui_long = l ∙ v.ui_long;
              ui_back =
                  r.back
                  ∙ (rw (column-is, v.ui_back, y))
                  ∙ sym (append_assoc col (flatten (drop (j + 1) us)) (drop (entries us) ui₀))
                  ∙ ap (λ (q : List (List ℕ)). flatten q ++ drop (entries us) ui₀) (sym (left_at us j [] (rw (upper_long g) j_in)));
              put = rw z at (w fall_last);
            }

    done : k ≡ 0 → (up ≡ onto up₀ (starts 0 us)) × (ui ≡ onto ui₀ (flatten us)) × (li ≡ onto li₀ (flatten (lower cols)))
    unfolding onto entries lower
    done e =
        let t : top ≡ 0 = v.top_is ∙ ap (λ (q : ℕ). entries (take q us)) e in
        let b = v.ui_back in
        let p = v.put in
        let z = length-starts 0 us in
        let o : li ≡ onto li₀ (by_key n (flatten us) (numbers 0 us)) = receding_done (rw e at p) in (
          front 0 (starts 0 us) up up₀ (omega (arith, z, upper_long g, v.up_room)) v.up_long
              (λ q l. v.up_at q (omega arith) (omega (arith, z, upper_long g)) ∙ sym (start-at us q (omega (arith, z))))
              (λ q l. v.up_rest q (omega (arith, z, upper_long g))),
          (rw (t, e, ← length-laid us) at b),
          o ∙ ap (onto li₀) (ap (λ (q : ℕ). by_key q (flatten us) (numbers 0 us)) (sym (upper_long g)) ∙ sym (laid-transposed us upper-once)),
        )

  -- the last pointer was written first
  over_last : (up : List ℕ) (m t : ℕ) → m ≡ n → onto (set up m t) (starts 0 us) ≡ onto up (starts 0 us)
  unfolding onto
  over_last up m t e = ap (λ (d : List ℕ). starts 0 us ++ d)
      (drop-set-lt (length (starts 0 us)) up m t (omega (arith, length-starts 0 us, upper_long g)))

  pub falling_done : (up₀ : List ℕ) (t : ℕ) {m : ℕ} {ui₀ next₀ li₀ mark up ui next li : List ℕ} {top k : ℕ} → m ≡ n →
      Falling cols (set up₀ m t) ui₀ next₀ li₀ mark up ui next li top k → k ≡ 0
      → (up ≡ onto up₀ (starts 0 us)) × (ui ≡ onto ui₀ (flatten us)) × (li ≡ onto li₀ (flatten (lower cols)))
  falling_done up₀ t {m = m} e v h = let d = done v h in (d.0 ∙ over_last up₀ m t e, d.1, d.2)

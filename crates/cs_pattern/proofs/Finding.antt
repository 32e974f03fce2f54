-- What the steps of src/look.rt tell: a column, column by column, and the whole with each way out. Assumes nothing.
use Rattle.std.proofs.Common.{◌≡◌, ℕ, suc, ◌+◌, ◌<◌, ◌≤◌, Bool, true, false, ◌&&◌, List, length, get_or, take, sym, ap, ◌∙◌, true≢false, arith}
use Rattle.std.proofs.Common.{take_all}
use mathlib.Core.List.{flatten}
use Rattle.lists.specs.Calls.{onto}
use Rattle.lists.specs.Keys.{by_key}
use Rattle.lists.specs.Parts.{part, placed}
use Rattle.lists.specs.Keeping.{Kept}
use Rattle.lists.specs.Runs.{zipped}
use Rattle.lists.proofs.Bools.{and-true, not-both, alike}
use Rattle.lists.proofs.Keeping.{kept_then, kept-onto, kept-placed}
use Rattle.lists.proofs.Keys.{start-more}
use Rattle.lists.proofs.Laying.{placed-front, part-front, part-onto, part_long}
use Rattle.lists.proofs.Runs.{zipped-values}
use Rattle.lists.proofs.Parts.{length_part, get_d_part, get_or-onto-front}
use Rattle.lists.proofs.Standing.{Standing, standing_start}
use Rattle.lists.specs.Order.{starts_with}
use Rattle.lists.proofs.Matching.{starts-at, starts_long, starts-not, starts_places, starts-take}
use Rattle.cs_tree.specs.Pattern.{transposed, starts, entries}
use Rattle.cs_tree.specs.Steps.{numbers, Spread, Spreads, Whole}
use Rattle.cs_tree.proofs.Count.{length-starts}
use Rattle.cs_tree.proofs.Laid.{length-laid, laid-transposed, transposed-start}
use Rattle.cs_tree.proofs.Looking.{seen_starts, seen_places}
use Rattle.cs_tree.proofs.Lowering.{items_long, named, lower_long, entries-lower}
use Rattle.cs_tree.proofs.Spreading.{Going, going_holds, going_place, going_place-in, Columns, columns-turn, spreads_column, column_among}
use Rattle.cs_pattern.specs.Steps.{Looked}

-- ---- `look_column`
module _ {k : ℕ} {rows next₀ li next : List ℕ} {q : ℕ} (v : Going k rows next₀ li next li q) (h : q < length rows) {j t : ℕ}
    (e : j ≡ get_or rows q 0) (f : t ≡ get_or next j 0) where
  -- the place is past the end
  pub looked_past : length li ≤ t → (s : Spread k rows next₀ li) → Looked s false next li
  looked_past d s = absurd (omega (arith, going_place v h e s))

  pub looked_differs : (get_or li t 0 ≡ k → ⊥) → (s : Spread k rows next₀ li) → Looked s false next li
  looked_differs d s =
      record {
        agrees = λ z. absurd (true≢false (sym z));
        differs = λ z.
            starts-not (by_key s.n s.keys s.xs) li t (rw f (going_place-in v h e s))
            (λ y. d (sym y ∙ ap (λ (a : ℕ). get_or (by_key s.n s.keys s.xs) a 0) f ∙ going_holds v h e s));
      }

-- ---- `look_columns`
module _ {n : ℕ} {up ui next₀ li next next1 : List ℕ} {k b f : ℕ} (v : Columns n up ui next₀ li next li k) (h : k < n) (x : b ≡ get_or up k 0)
    (y : f ≡ get_or up (k + 1) 0)
    {r : Bool} (w : (s : Spread k (part b f ui) next li) → Looked s r next1 li) where
  pub lower-turn : r ≡ true → Columns n up ui next₀ li next1 li (k + 1)
  lower-turn z = columns-turn v h x y (λ s. (w s).agrees z)

  pub lower_stop : r ≡ false → (s : Spreads n up ui next₀ li) → false ≡ starts_with (by_key n (flatten s.us) (numbers 0 s.us)) li
  lower_stop z s =
      let d = (w (spreads_column s h x y v)).differs z in
      rw (column_among s h x y v) at d

-- ---- `look`
module _ {n t : ℕ} {up ui : List ℕ} (lp li : List ℕ) where
  abbrev pub Told : Whole n t up ui → Bool
  Told u = starts_with (starts 0 (transposed u.us)) lp && starts_with (flatten (transposed u.us)) li

  pub unseen : {w w1 : List ℕ} → ((u : Whole n t up ui) → Told u ≡ true → ⊥) → Kept 0 n w w1 → ((u : Whole n t up ui) → false ≡ Told u) ×
      Kept 0 n w w1
  unseen d k = (λ u. alike false (Told u) (λ z. absurd (true≢false (sym z))) (λ z. absurd (d u z)), k)

  -- where L is held
  module _ (u : Whole n t up ui) (h : Told u ≡ true) where
    abbrev ls : List (List ℕ)
    ls = transposed u.us

    abbrev ks : List ℕ
    ks = flatten u.us

    abbrev xs : List ℕ
    xs = numbers 0 u.us

    lp_is : starts_with (starts 0 ls) lp ≡ true
    lp_is = (and-true (starts_with (starts 0 ls) lp) (starts_with (flatten ls) li) h).0

    li_is : starts_with (flatten ls) li ≡ true
    li_is = (and-true (starts_with (starts 0 ls) lp) (starts_with (flatten ls) li) h).1

    size : length (flatten ls) ≡ t
    size = length-laid ls ∙ entries-lower u

    lp_at : (r : ℕ) → r ≤ n → get_or lp r 0 ≡ length (by_key r ks xs)
    lp_at r m = sym (starts-at (starts 0 ls) lp lp_is r (omega (arith, length-starts 0 ls, lower_long u))) ∙
        transposed-start u.us u.once r (omega (arith, u.count))

    pub lp_long : n < length lp
    lp_long = omega (arith, starts_long (starts 0 ls) lp lp_is, length-starts 0 ls, lower_long u)

    pub lp_first : get_or lp 0 0 ≡ 0
    unfolding by_key
    lp_first = lp_at 0 (omega arith)

    pub li_long : t ≤ length li
    li_long = omega (arith, starts_long (flatten ls) li li_is, size)

    laid : by_key n ks xs ≡ flatten ls
    laid = ap (λ (m : ℕ). by_key m ks xs) (sym u.count) ∙ sym (laid-transposed u.us u.once)

    module _ {next : List ℕ} (l : length next ≡ n) (b : (r : ℕ) → r < n → get_or next r 0 ≡ get_or lp r 0) where
      spreads : Spreads n up ui next (part 0 t li)
      spreads =
          record {
            us = u.us;
            count = u.count;
            pointed = u.pointed;
            few = omega (arith, u.size, u.few);
            room = omega (arith, u.size, u.room);
            laid = u.laid;
            ready =
                record {
                  alike = items_long u;
                  named = named u;
                  w_long = omega arith;
                  starts = λ r m. b r m ∙ lp_at r (omega arith);
                  room = omega (arith, ap length laid, size, part_long t li li_long);
                };
          }

      pub no_stop : ((s : Spreads n up ui next (part 0 t li)) → false ≡ starts_with (by_key n (flatten s.us) (numbers 0 s.us)) (part 0 t li)) → ⊥
      unfolding spreads
      no_stop d =
          let g = d spreads in
          let e : starts_with (by_key n ks xs) (part 0 t li) ≡ true =
          rw (laid, part-front t li, starts-take (flatten ls) li t (omega (arith, size))) li_is in
          not-both (starts_with (by_key n ks xs) (part 0 t li)) e (sym g)

    -- each column's places are used up
    pub used_up : {out ys : List ℕ} → Standing 0 n ks xs lp out ys (entries u.us) → (r : ℕ) → r < n → get_or ys r 0 ≡ get_or lp (suc r) 0
    used_up v r m =
        let tk : take (entries u.us) ks ≡ ks = take_all (entries u.us) ks (omega (arith, length-laid u.us)) in
        let tx : take (entries u.us) xs ≡ xs = take_all (entries u.us) xs (omega (arith, length-laid u.us, items_long u)) in
        let e = v.next_is r m in
        let f = rw (tk, tx) at e in
        omega (arith, f, lp_at r (omega arith), lp_at (suc r) m, start-more ks xs r)

module _ (n t : ℕ) (up ui lp li : List ℕ) where
  module _ (w : List ℕ) (l : n ≤ length w) (a : n < length lp) {w1 : List ℕ} (copied : w1 ≡ zipped (λ _ v. v) w (part 0 n lp)) where
    front_long : length (part 0 n lp) ≡ n
    front_long = part_long n lp (omega arith)

    c : w1 ≡ onto w (part 0 n lp)
    c = copied ∙ zipped-values w (part 0 n lp) (omega (arith, front_long))

    kept_1 : Kept 0 n w w1
    kept_1 = rw c (kept-onto n w (part 0 n lp) (omega (arith, front_long)) (omega (arith, front_long)))

    long_1 : n ≤ length w1
    long_1 = omega (arith, kept_1.long)

    begun : (r : ℕ) → r < n → get_or (part 0 n w1) r 0 ≡ get_or lp r 0
    begun r h = rw c (ap (λ (x : List ℕ). get_or x r 0) (part-onto n w (part 0 n lp) front_long) ∙ get_d_part 0 n lp r 0 (omega arith) ∙
        (let z : 0 + r ≡ r = omega arith in ap (λ (x : ℕ). get_or lp x 0) z))

    module _ (o : t ≤ length li) where
      module _ (ys : List ℕ) (e : length ys ≡ length (part 0 n w1)) where
        ys_long : length ys ≡ n
        ys_long = e ∙ part_long n w1 long_1

        kept_2 : Kept 0 n w (placed 0 n w1 ys)
        kept_2 = kept_then kept_1 (kept-placed n w1 ys ys_long long_1)

        pub look_unseen : {r : Bool} → r ≡ false
            → (r ≡ false → (s : Spreads n up ui (part 0 n w1) (part 0 t li)) → false ≡ starts_with (by_key n (flatten s.us) (numbers 0 s.us))
            (part 0 t li))
            → ((u : Whole n t up ui) → false ≡ Told lp li u) × Kept 0 n w (placed 0 n w1 ys)
        look_unseen z d = unseen lp li (λ u h. no_stop lp li u h (part_long n w1 long_1) begun (d z)) kept_2

        at : (r : ℕ) → r < n → get_or (placed 0 n w1 ys) r 0 ≡ get_or ys r 0
        at r m = ap (λ (x : List ℕ). get_or x r 0) (placed-front w1 ys n ys_long) ∙ get_or-onto-front w1 ys 0 r (omega (arith, ys_long))

        behind : (r : ℕ) → r < n → get_or (part 1 (n + 1) lp) r 0 ≡ get_or lp (suc r) 0
        behind r m = let z : 1 + r ≡ suc r = omega arith in get_d_part 1 (n + 1) lp r 0 (omega arith) ∙ ap (λ (x : ℕ). get_or lp x 0) z

        behind_long : length (part 1 (n + 1) lp) ≡ n
        behind_long = omega (arith, length_part 1 (n + 1) lp (omega arith))

        module _ (u : Whole n t up ui) (v : Standing 0 n (flatten u.us) (numbers 0 u.us) lp (part 0 t li) ys (entries u.us)) where
          no_differ : Told lp li u ≡ true → starts_with (part 1 (n + 1) lp) (placed 0 n w1 ys) ≡ true
          no_differ h =
              starts_places (part 1 (n + 1) lp) (placed 0 n w1 ys) (omega (arith, behind_long, kept_2.long))
              (λ r m. (let q : r < n = omega (arith, behind_long) in behind r q ∙ sym (used_up lp li u h v r q) ∙ sym (at r q)))

          module _ (z : get_or lp 0 0 ≡ 0) (h : starts_with (part 1 (n + 1) lp) (placed 0 n w1 ys) ≡ true) where
            used : (r : ℕ) → r < n → get_or ys r 0 ≡ get_or lp (suc r) 0
            used r m = sym (sym (behind r m) ∙ starts-at (part 1 (n + 1) lp) (placed 0 n w1 ys) h r (omega (arith, behind_long)) ∙ at r m)

            lp_same : starts_with (starts 0 (transposed u.us)) lp ≡ true
            lp_same = starts_places (starts 0 (transposed u.us)) lp (omega (arith, length-starts 0 (transposed u.us), lower_long u))
                (seen_starts u v z used)

            li_same : starts_with (flatten (transposed u.us)) li ≡ true
            li_same =
                let s : length (flatten (transposed u.us)) ≡ t = length-laid (transposed u.us) ∙ entries-lower u in
                starts_places (flatten (transposed u.us)) li (omega (arith, s))
                (λ k m. seen_places u v z used k m ∙ get_d_part 0 t li k 0 (omega (arith, s)) ∙
                (let y : 0 + k ≡ k = omega arith in ap (λ (x : ℕ). get_or li x 0) y))

            both-same : Told lp li u ≡ true
            both-same = rw (lp_same, li_same)

        pub look_told : {r q : Bool} → get_or lp 0 0 ≡ 0
            → (r ≡ true → (u : Whole n (length (part 0 t li)) up ui) (held : List ℕ) →
            Standing 0 n (flatten u.us) (numbers 0 u.us) held (part 0 t li) (part 0 n w1) 0
            → Standing 0 n (flatten u.us) (numbers 0 u.us) held (part 0 t li) ys (entries u.us))
            → r ≡ true → q ≡ starts_with (part 1 (n + 1) lp) (placed 0 n w1 ys) → ((u : Whole n t up ui) → q ≡ Told lp li u) ×
            Kept 0 n w (placed 0 n w1 ys)
        look_told z g s f =
            let d = g s in
            let d1 = rw (part_long t li o) at d in (
              λ u. f ∙ alike (starts_with (part 1 (n + 1) lp) (placed 0 n w1 ys)) (Told lp li u) (both-same u (d1 u lp (standing_start begun)) z)
                  (no_differ u (d1 u lp (standing_start begun))),
              kept_2,
            )

-- Two rising lists merged: the numbers that are listed in one or the other, rising. Assumes nothing.
use mathlib.Core.Path.{◌≡◌, sym, ap, ◌∙◌}
use mathlib.Core.Bool.{true, false}
use mathlib.Core.List.{List, [], ◌∷◌, ◌++◌}
use mathlib.Core.Logic.{◌⊎◌, ⊎_elim}
use Prim.Native.Nat.{ℕ, ◌+◌, ◌≤◌, ◌<◌}
use native.Mathlib.Nat.{eq-or-lt_of_le}
use native.Mathlib.Omega.{arith}
use lib.ListN.{length, get_or, get_or-eq_default}
use Rattle.std.proofs.Common.{Ordering, Less, Equal, Greater, nat_cmp}
use Rattle.std.proofs.lemmas.Cmp.{ranked}
use Rattle.lists.specs.Choices.{chosen}
use Rattle.lists.specs.Order.{rises, lists}
use Rattle.lists.proofs.Bools.{le-or-lt}
use Rattle.lists.proofs.Choices.{chosen_none}
use Rattle.lists.proofs.Chosen.{chosen-within, chosen_grows}
use Rattle.lists.proofs.HowMany.{chosen-or, chosen-lists}
use Rattle.lists.proofs.Members.{get_d_any}
use Rattle.lists.proofs.Ordering.{rises-apart}
use Rattle.lists.proofs.Skipping.{chosen-next, chosen-rest, lists_at, lists_nowhere}
use Rattle.cs_columns.specs.Columns.{either}

-- ---- what an answer of `cmp` says of two rows
module _ {r s : ℕ} {o : Ordering} (e : o ≡ nat_cmp r s) where
  pub less-is : o ≡ Less → r < s
  less-is f = let h = ranked r s o e in rw f at h

  pub greater_is : o ≡ Greater → s < r
  greater_is f = let h = ranked r s o e in rw f at h

  pub equal-is : o ≡ Equal → r ≡ s
  equal-is f = let h = ranked r s o e in rw f at h

-- ---- one of the two lists: it rises, k of it are below b, and the others are not
pub record Half (l : List ℕ) (k b : ℕ) : Type 0 where
  pub up : rises l ≡ true
  pub inside : k ≤ length l
  pub done : (q : ℕ) → q < k → get_or l q 0 < b
  pub left : (q : ℕ) → k ≤ q → q < length l → b ≤ get_or l q 0

pub half_start : (l : List ℕ) → rises l ≡ true → Half l 0 0
half_start l u = record { up = u; inside = omega arith; done = λ q h. absurd (omega arith); left = λ q g h. omega arith }

module _ {l : List ℕ} {k b : ℕ} (s : Half l k b) where
  -- from k on none is below the one at k
  onward : (q : ℕ) → k ≤ q → q < length l → get_or l k 0 ≤ get_or l q 0
  onward q h g = ⊎_elim (λ (e : k ≡ q). rw e (omega arith)) (λ (m : k < q). omega (arith, rises-apart l s.up k q m g)) (eq-or-lt_of_le h)

  module _ {r : ℕ} where
    half_take : k < length l → r ≡ get_or l k 0 → Half l (k + 1) (r + 1)
    half_take h e =
        record {
          up = s.up;
          inside = omega arith;
          done = λ q g. ⊎_elim (λ (f : q ≡ k). rw (f, ← e) (omega arith)) (λ (f : q < k). omega (arith, s.done q f, s.left k (omega arith) h))
              (eq-or-lt_of_le (omega arith));
          left = λ q g m. omega (arith, rises-apart l s.up k q (omega arith) m);
        }

    half_skip : b ≤ r → (k < length l → r < get_or l k 0) → Half l k (r + 1)
    half_skip g h =
        record {
          up = s.up;
          inside = s.inside;
          done = λ q m. omega (arith, s.done q m);
          left = λ q m n. omega (arith, h (omega arith), onward q m n);
        }

    -- nothing is listed from b up to the next
    half_least : (k < length l → r ≤ get_or l k 0) → (m : ℕ) → b ≤ m → m < r → lists m l ≡ false
    half_least h m g f =
        lists_nowhere m l
        (λ q n e. ⊎_elim (λ (o : k ≤ q). omega (arith, h (omega arith), onward q o n)) (λ (o : q < k). omega (arith, s.done q o)) (le-or-lt k q))

    half_lacks : b ≤ r → (k < length l → r < get_or l k 0) → lists r l ≡ false
    half_lacks g h =
        lists_nowhere r l
        (λ q n e. ⊎_elim (λ (o : k ≤ q). omega (arith, h (omega arith), onward q o n)) (λ (o : q < k). omega (arith, s.done q o)) (le-or-lt k q))

    half_lists : k < length l → r ≡ get_or l k 0 → lists r l ≡ true
    half_lists h e = rw e (lists_at l k h)

-- ---- both
either-none : (l m : List ℕ) (r : ℕ) → lists r l ≡ false → lists r m ≡ false → either l m r ≡ false
unfolding either
either-none l m r e f = rw (e, f)

either_first : (l m : List ℕ) (r : ℕ) → lists r l ≡ true → either l m r ≡ true
unfolding either
either_first l m r e = rw e

either_second : (l m : List ℕ) (r : ℕ) → lists r l ≡ false → lists r m ≡ true → either l m r ≡ true
unfolding either
either_second l m r e f = rw (e, f)

-- ka of the first and kb of the second are found
pub record Merging (n : ℕ) (l m : List ℕ) (ka kb : ℕ) (found : List ℕ) : Type 0 where
  pub small : n ≤ 65535
  pub l_below : (k : ℕ) → k < length l → get_or l k 0 < n
  pub m_below : (k : ℕ) → k < length m → get_or m k 0 < n
  pub bound : ℕ
  pub within : bound ≤ n
  pub first : Half l ka bound
  pub second : Half m kb bound
  pub is : found ≡ chosen bound (either l m)

-- what stands past the end is above every row
abbrev pub end : ℕ
end = 4294967295

pub row_there : (l : List ℕ) (k : ℕ) → k < length l → get_or l k 0 ≡ get_or l k end
row_there l k h = get_d_any l k 0 end h

module _ (l : List ℕ) (k n : ℕ) (small : n ≤ 65535) (below : (q : ℕ) → q < length l → get_or l q 0 < n) where
  there : k < length l → get_or l k end ≡ get_or l k 0
  there h = get_d_any l k end 0 h

  gone : length l ≤ k → get_or l k end ≡ end
  gone h = get_or-eq_default l end h

  at_most : get_or l k end ≤ end
  at_most = ⊎_elim (λ (h : length l ≤ k). omega (arith, gone h)) (λ (h : k < length l). omega (arith, there h, below k h)) (le-or-lt (length l) k)

  lower_in : get_or l k end < end → k < length l
  lower_in g = ⊎_elim (λ (h : length l ≤ k). omega (arith, gone h)) (λ (h : k < length l). h) (le-or-lt (length l) k)

module _ {n : ℕ} {l m : List ℕ} {ka kb : ℕ} {found : List ℕ} (v : Merging n l m ka kb found) where
  pub merging_ends : length l ≤ ka → length m ≤ kb → found ≡ chosen n (either l m)
  merging_ends g h =
      v.is
      ∙ sym
      (chosen-rest (either l m) v.bound n v.within
      (λ r o q. either-none l m r (half_least v.first {r = n} (λ e. absurd (omega arith)) r o q)
      (half_least v.second {r = n} (λ e. absurd (omega arith)) r o q)))

  pub merging_count : length found ≤ n
  merging_count = rw v.is (omega (arith, chosen-within (either l m) v.bound, v.within))

  -- the rows that come next
  module _ {r s : ℕ} (er : r ≡ get_or l ka end) (es : s ≡ get_or m kb end) where
    r_there : ka < length l → r ≡ get_or l ka 0
    r_there h = er ∙ there l ka n v.small v.l_below h

    s_there : kb < length m → s ≡ get_or m kb 0
    s_there h = es ∙ there m kb n v.small v.m_below h

    r_most : r ≤ end
    r_most = rw er (at_most l ka n v.small v.l_below)

    s_most : s ≤ end
    s_most = rw es (at_most m kb n v.small v.m_below)

    -- one row more
    module _ (x : ℕ) (low : v.bound ≤ x) (high : x < n) (f : ka < length l → x ≤ get_or l ka 0) (g : kb < length m → x ≤ get_or m kb 0)
        (t : either l m x ≡ true) where
      more : found ++ (x ∷ []) ≡ chosen (x + 1) (either l m)
      more =
          ap (λ (u : List ℕ). u ++ (x ∷ [])) v.is
          ∙ sym (chosen-next (either l m) v.bound x low (λ q o h. either-none l m q (half_least v.first f q o h) (half_least v.second g q o h)) t)

      next : {ka' kb' : ℕ} → Half l ka' (x + 1) → Half m kb' (x + 1) → Merging n l m ka' kb' (found ++ (x ∷ []))
      next a b = record {
        small = v.small;
        l_below = v.l_below;
        m_below = v.m_below;
        bound = x + 1;
        within = omega arith;
        first = a;
        second = b;
        is = more;
      }

    module _ (h : r < s) where
      pub first-in : ka < length l
      first-in = lower_in l ka n v.small v.l_below (omega (arith, er, s_most))

      first_above : kb < length m → r < get_or m kb 0
      first_above o = omega (arith, s_there o)

      r_low : v.bound ≤ r
      r_low = omega (arith, r_there first-in, v.first.left ka (omega arith) first-in)

      r_high : r < n
      r_high = omega (arith, r_there first-in, v.l_below ka first-in)

      pub first-lists : lists r l ≡ true
      first-lists = half_lists v.first first-in (r_there first-in)

      pub first_only : lists r m ≡ false
      first_only = half_lacks v.second r_low first_above

      pub merging_first : Merging n l m (ka + 1) kb (found ++ (r ∷ []))
      merging_first =
          next r r_low r_high (λ o. omega (arith, r_there o)) (λ o. omega (arith, first_above o)) (either_first l m r first-lists)
          (half_take v.first first-in (r_there first-in))
          (half_skip v.second r_low first_above)

    module _ (h : s < r) where
      pub second_in : kb < length m
      second_in = lower_in m kb n v.small v.m_below (omega (arith, es, r_most))

      second_above : ka < length l → s < get_or l ka 0
      second_above o = omega (arith, r_there o)

      s_low : v.bound ≤ s
      s_low = omega (arith, s_there second_in, v.second.left kb (omega arith) second_in)

      s_high : s < n
      s_high = omega (arith, s_there second_in, v.m_below kb second_in)

      pub second_only : lists s l ≡ false
      second_only = half_lacks v.first s_low second_above

      pub second_lists : lists s m ≡ true
      second_lists = half_lists v.second second_in (s_there second_in)

      pub merging_second : Merging n l m ka (kb + 1) (found ++ (s ∷ []))
      merging_second =
          next s s_low s_high (λ o. omega (arith, second_above o)) (λ o. omega (arith, s_there o)) (either_second l m s second_only second_lists)
          (half_skip v.first s_low second_above)
          (half_take v.second second_in (s_there second_in))

    module _ (h : r ≡ s) (o : (ka < length l) ⊎ (kb < length m)) where
      not_end : r < end
      not_end = ⊎_elim (λ (q : ka < length l). omega (arith, r_there q, v.l_below ka q, v.small))
          (λ (q : kb < length m). omega (arith, s_there q, v.m_below kb q, v.small)) o

      pub both_first : ka < length l
      both_first = lower_in l ka n v.small v.l_below (omega (arith, er, not_end))

      pub both_second : kb < length m
      both_second = lower_in m kb n v.small v.m_below (omega (arith, es, not_end))

      r_is : r ≡ get_or l ka 0
      r_is = r_there both_first

      r_is_too : r ≡ get_or m kb 0
      r_is_too = h ∙ s_there both_second

      pub both_list : lists r l ≡ true
      both_list = half_lists v.first both_first r_is

      pub both_list_too : lists r m ≡ true
      both_list_too = half_lists v.second both_second r_is_too

      pub merging_both : Merging n l m (ka + 1) (kb + 1) (found ++ (r ∷ []))
      merging_both =
          next r (omega (arith, r_is, v.first.left ka (omega arith) both_first)) (omega (arith, r_is, v.l_below ka both_first))
          (λ q. omega (arith, r_is)) (λ q. omega (arith, r_is_too)) (either_first l m r both_list)
          (half_take v.first both_first r_is)
          (half_take v.second both_second r_is_too)

pub merging_start : (n : ℕ) (l m : List ℕ) → n ≤ 65535 → ((k : ℕ) → k < length l → get_or l k 0 < n) → ((k : ℕ) → k < length m → get_or m k 0 < n) →
    rises l ≡ true → rises m ≡ true → Merging n l m 0 0 []
merging_start n l m h f g u w = record {
  small = h;
  l_below = f;
  m_below = g;
  bound = 0;
  within = omega arith;
  first = half_start l u;
  second = half_start m w;
  is = sym (chosen_none (either l m));
}

-- no more are found than there are in the end
pub merging_room : {n : ℕ} {l m : List ℕ} {ka kb : ℕ} {found : List ℕ} → Merging n l m ka kb found → length found ≤ length (chosen n (either l m))
merging_room {n} {l} {m} v = rw v.is (chosen_grows (either l m) v.bound n v.within)

-- the numbers of both are no more than the two are long
pub either-most : (n : ℕ) (l m : List ℕ) → length (chosen n (either l m)) ≤ length l + length m
unfolding either
either-most n l m = omega (arith, chosen-or n (either l m) (λ r. lists r l) (λ r. lists r m) (λ r h e. e), chosen-lists n l, chosen-lists n m)

-- rows below n, whichever number not below it the choice runs to
pub either-fewer : {n b : ℕ} (l m : List ℕ) → n ≤ b → ((k : ℕ) → k < length l → get_or l k 0 < n) → ((k : ℕ) → k < length m → get_or m k 0 < n)
    → chosen b (either l m) ≡ chosen n (either l m)
unfolding either
either-fewer {n} {b} l m h f g =
    chosen-rest (either l m) n b h (λ r o q.
    (rw (lists_nowhere r l (λ k i e. absurd (omega (arith, f k i))), lists_nowhere r m (λ k i e. absurd (omega (arith, g k i)))) (λ i. false)))

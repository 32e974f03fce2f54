-- `next`, from column k to the next: where row k stands, it goes on by one. Assumes nothing.
use mathlib.Core.Path.{◌≡◌, refl, ap, ◌∙◌}
use mathlib.Core.Bool.{Bool, true, false, cond}
use mathlib.Core.List.Memᴰ
use mathlib.Core.List.{List, Memᴰ}
use mathlib.Core.Logic.{⊎_elim}
use Prim.Native.Nat.{ℕ, ◌+◌, ◌≤◌, ◌<◌}
use native.Mathlib.Omega.{arith}
use lib.Dec.{ltb}
use lib.ListN.{length, get_or, set, length-set}
use lib.Seq.{get_or-set_same, get_or-set_other}
use borrow.Author.Tests.{lt-ltb}
use Rattle.lists.specs.Folds.{along}
use Rattle.lists.specs.Order.{Rising, Once, no_more, one_more}
use Rattle.lists.proofs.Bools.{le-or-lt, eq-or-ne}
use Rattle.lists.proofs.Ordering.{rises-apart, rising_rises}
use Rattle.lists.proofs.Spots.{Spot, spot, member_at}
use Rattle.lists.proofs.Positions.{along-keeps}
use Rattle.cs_left.specs.Steps.{advance, Cut, Next}

module _ {k : ℕ} {rows : List ℕ} {m : ℕ} (c : Cut k rows m) where
  -- row k is the first at or past k
  pub cut_here : Rising 0 rows → Memᴰ k rows → (m < length rows) × (get_or rows m 0 ≡ k)
  cut_here r e = go (spot e)
    where
      go : Spot rows k → (m < length rows) × (get_or rows m 0 ≡ k)
      go a =
          ⊎_elim
          (λ (z : m ≤ a.at). ⊎_elim (λ (y : a.at ≤ m). (let u : m ≡ a.at = omega arith in
          (omega (arith, a.inside), ap (λ (q : ℕ). get_or rows q 0) u ∙ a.is)))
          (λ (y : m < a.at). absurd (omega (
            arith,
            rises-apart rows (rising_rises r) m a.at y a.inside,
            c.behind m (omega arith) (omega (arith, a.inside)),
            a.is,
          ))) (le-or-lt a.at m))
          (λ (z : a.at < m). absurd (omega (arith, c.before a.at z, a.is))) (le-or-lt m a.at)

  pub cut_on : Rising 0 rows → Memᴰ k rows → Cut (k + 1) rows (m + 1)
  cut_on r e =
      let h = cut_here r e in
      record {
        within = omega (arith, h.0);
        before = λ q g. ⊎_elim (λ (z : m ≤ q). (let u : q ≡ m = omega arith in omega (arith, ap (λ (s : ℕ). get_or rows s 0) u, h.1)))
            (λ (z : q < m). omega (arith, c.before q z)) (le-or-lt m q);
        behind = λ q g l. omega (arith, rises-apart rows (rising_rises r) m q (omega arith) l, h.1);
      }

  pub cut_stays : (Memᴰ k rows → ⊥) → Cut (k + 1) rows m
  cut_stays n =
      record {
        within = c.within;
        before = λ q g. omega (arith, c.before q g);
        behind = λ q g l. ⊎_elim (λ (e : get_or rows q 0 ≡ k). absurd (n (rw (← e) (member_at rows q l))))
            (λ (e : get_or rows q 0 ≡ k → ⊥). omega (arith, c.behind q g l, e)) (eq-or-ne (get_or rows q 0) k);
      }

-- a column that starts with its diagonal
pub cut_first : {k : ℕ} (rows : List ℕ) → Rising 0 rows → ((q : ℕ) → q < length rows → k ≤ get_or rows q 0) → Memᴰ k rows → Cut (k + 1) rows 1
cut_first {k} rows r b e = cut_on start r e
  where
    start : Cut k rows 0
    start = record { within = omega arith; before = λ q g. absurd (omega arith); behind = λ q g l. b q l }

-- ---- what `advance` does to each place
module _ (k : ℕ) where
  advance_other : (i : ℕ) (w : List ℕ) (j : ℕ) → (j ≡ i → ⊥) → get_or (advance k i w) j 0 ≡ get_or w j 0
  unfolding advance
  advance_other i w j n = go (ltb i k)
    where
      go : (b : Bool) → get_or (cond b (set w i (get_or w i 0 + 1)) w) j 0 ≡ get_or w j 0
      go true = get_or-set_other w i j _ 0 n
      go false = refl

  advance-is : (j : ℕ) (w : List ℕ) → j < k → advance k j w ≡ set w j (get_or w j 0 + 1)
  unfolding advance
  advance-is j w h = rw (lt-ltb j k h)

  length-advance : (i : ℕ) (w : List ℕ) → length (advance k i w) ≡ length w
  unfolding advance
  length-advance i w = go (ltb i k)
    where
      go : (b : Bool) → length (cond b (set w i (get_or w i 0 + 1)) w) ≡ length w
      go true = length-set w i _
      go false = refl

  pub length_advances : (us w : List ℕ) → length (along (advance k) us w) ≡ length w
  length_advances us w = along-keeps length (advance k) us (λ i s m. length-advance i s) w

  pub advance_missing : (us w : List ℕ) (j : ℕ) → (Memᴰ j us → ⊥) → get_or (along (advance k) us w) j 0 ≡ get_or w j 0
  advance_missing us w j n = along-keeps (λ (s : List ℕ). get_or s j 0) (advance k) us (λ i s m. advance_other i s j (λ e. n (rw e m))) w

  pub advance_hit : {us : List ℕ} → Once us → (w : List ℕ) (j : ℕ) → Memᴰ j us → j < k → j < length w → get_or (along (advance k) us w) j 0
      ≡ get_or w j 0 + 1
  unfolding along
  advance_hit no_more w j m h l = absurd (Memᴰ.not-nil m)
  advance_hit (one_more {x = x} {xs = xs} n o) w j m h l =
      ⊎_elim same (λ (t : Memᴰ j xs). later t (advance_hit o (advance k x w) j t h (rw (length-advance x w) l))) (Memᴰ.cases_cons m)
    where
      same : j ≡ x → get_or (along (advance k) xs (advance k x w)) j 0 ≡ get_or w j 0 + 1
      same e = rw (← e) (advance_missing xs (advance k j w) j (λ t. n (rw (← e) t)) ∙ ap (λ (s : List ℕ). get_or s j 0) (advance-is j w h) ∙
          get_or-set_same w j _ 0 l)

      later : Memᴰ j xs → get_or (along (advance k) xs (advance k x w)) j 0 ≡ get_or (advance k x w) j 0 + 1 →
          get_or (along (advance k) xs (advance k x w)) j 0 ≡ get_or w j 0 + 1
      later t e = e ∙ ap (λ (s : ℕ). s + 1) (advance_other x w j (λ y. n (rw (← y) t)))

-- ---- `next`, of a column whose rows are these
module _ {k : ℕ} {rows : List ℕ} {a s : ℕ} (r : Rising 0 rows) (w : Next k rows a s) where
  pub next_on : {t : ℕ} → Memᴰ k rows → t ≡ s + 1 → Next (k + 1) rows a t
  next_on m e = record { m = w.m + 1; is = omega (arith, w.is); cut = cut_on w.cut r m }

  pub next_stays : {t : ℕ} → (Memᴰ k rows → ⊥) → t ≡ s → Next (k + 1) rows a t
  next_stays n e = record { m = w.m; is = e ∙ w.is; cut = cut_stays w.cut n }

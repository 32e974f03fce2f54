-- The loop of `reach`: at column m the marks are what the rows and the reached columns below m touch, and the
-- reached columns below m are counted and searched for one that lacks its diagonal. Assumes nothing.
use mathlib.Core.Path.{◌≡◌, refl, sym, ap, ◌∙◌}
use mathlib.Core.Bool.{Bool, true, false, cond, ◌&&◌, ◌||◌}
use mathlib.Core.List.{List, [], ◌∷◌, ◌++◌, append-nil}
use mathlib.Core.Logic.{⊎_elim}
use Prim.Native.Nat.{ℕ, zero, suc, ◌+◌, ◌≤◌, ◌<◌}
use native.Mathlib.Nat.{eq-or-lt_of_le}
use native.Mathlib.Numerals.{add-one}
use native.Mathlib.Omega.{arith}
use lib.Dec.{leb}
use lib.Ieee.{Float}
use lib.ListN.{length, get_or, replicate, length-append, length-replicate, get_or-replicate}
use borrow.Author.Tests.{le-ltb, le-leb, eq-eqb, ne_eqb}
use Rattle.lists.specs.Choices.{chosen, some_of}
use Rattle.lists.specs.Order.{lists}
use Rattle.cs_matrix.specs.Matrix.{Pattern, Matrix, Valid, column}
use Rattle.cs_matrix.specs.Columns.{IsColumn}
use Rattle.cs_solve.specs.Diagonal.{lacking}
use Rattle.cs_solve_cs.specs.Reach.{stores, touched, reached_below, reached}
use Rattle.cs_solve_cs.specs.Steps.{mark_all, marked, marks}
use Rattle.lists.proofs.Chosen.{some_of-append, chosen_alike, chosen-within}
use Rattle.cs_solve_cs.proofs.Marking.{length-mark_all, marked_all}
use Rattle.cs_solve_cs.proofs.Naming.{NamesIn, names_none, names-not, names_before, names_new}
use Rattle.std.proofs.Common.{Option, Some, None}
use Rattle.std.specs.Option.{is_some}

module _ (a : Pattern) (rows : List ℕ) where
  abbrev below : ℕ → List ℕ
  below m = reached_below a rows m

  -- k is reached
  abbrev pub reaches : ℕ → Bool
  reaches k = touched a rows (below k) k

  pub below-is : (n : ℕ) → below n ≡ chosen n reaches
  unfolding reached_below chosen
  below-is zero = refl
  below-is (suc n) = ap (λ (l : List ℕ). l ++ cond (reaches n) (n ∷ []) []) (below-is n)

  pub below_more : (m : ℕ) → reaches m ≡ true → below (m + 1) ≡ below m ++ (m ∷ [])
  unfolding reached_below
  below_more m h = rw (add-one, h)

  pub below-same : (m : ℕ) → reaches m ≡ false → below (m + 1) ≡ below m
  unfolding reached_below
  below-same m h = rw (add-one, h) (append-nil (below m))

  pub below-within : (m : ℕ) → length (below m) ≤ m
  below-within m = rw (below-is m) (chosen-within reaches m)

  -- a column touches no row at or above its diagonal
  stores-not : (m k : ℕ) → k ≤ m → stores a m k ≡ false
  unfolding stores
  stores-not m k h = rw (le-ltb m k h)

  pub stores-is : (m k : ℕ) → (leb (m + 1) k && lists k (column a.p m a.i)) ≡ stores a m k
  unfolding stores
  stores-is m k = rw add-one

  touched-more : (js : List ℕ) (m k : ℕ) → touched a rows (js ++ (m ∷ [])) k ≡ (stores a m k || touched a rows js k)
  unfolding touched some_of
  touched-more js m k = ap (λ (t : Bool). lists k rows || t) (some_of-append (λ j. stores a j k) js (m ∷ [])) ∙
      go (lists k rows) (some_of (λ j. stores a j k) js) (stores a m k)
    where
      go : (l s t : Bool) → (l || (s || (t || false))) ≡ (t || (l || s))
      go true s true = refl
      go true s false = refl
      go false true true = refl
      go false true false = refl
      go false false true = refl
      go false false false = refl

  -- what is touched at k is settled once the columns below k are done
  pub settled : (m k : ℕ) → k ≤ m → touched a rows (below m) k ≡ reaches k
  unfolding reached_below
  settled zero k h = let e : k ≡ 0 = omega arith in rw e
  settled (suc m) k h =
      ⊎_elim
      (λ (e : k ≡ suc m). rw e)
      (λ (l : k < suc m). go (touched a rows (below m) m) (settled m k (omega arith)) (omega arith))
      (eq-or-lt_of_le h)
    where
      go : (t : Bool) → touched a rows (below m) k ≡ reaches k → k ≤ m → touched a rows (below m ++ cond t (m ∷ []) []) k ≡ reaches k
      go true e l = touched-more (below m) m k ∙ (rw (stores-not m k l) e)
      go false e l = rw (append-nil (below m)) e

-- ---- the loop
pub record Reaching (a : Matrix) (rows w : List ℕ) (count : ℕ) (least : Option ℕ) (m : ℕ) : Type 0 where
  pub valid : Valid a
  pub within : m ≤ a.pattern.ncols
  pub long : length w ≡ a.pattern.ncols
  pub counted : count ≡ length (reached_below a.pattern rows m)
  pub lacks : NamesIn a.pattern.ncols (lacking a) (reached_below a.pattern rows m) least
  pub each : (k : ℕ) → k < a.pattern.ncols → marked w k ≡ touched a.pattern rows (reached_below a.pattern rows m) k

pub reaching_start : {a : Matrix} {rows w w' : List ℕ} → Valid a → w ≡ replicate a.pattern.ncols 0 → w' ≡ mark_all 0 rows w →
    Reaching a rows w' 0 None 0
unfolding reached_below touched some_of
reaching_start {a} {rows} {w} {w'} ok e q = record {
  valid = ok;
  within = omega arith;
  long = ap length q ∙ length-mark_all 0 rows w ∙ ap length e ∙ length-replicate a.pattern.ncols 0;
  counted = refl;
  lacks = names_none a.pattern.ncols (lacking a);
  each = λ k h. ap (λ (t : List ℕ). marked t k) q ∙ marked_all 0 rows w k (omega (arith, ap length e, length-replicate {A = ℕ} a.pattern.ncols 0)) ∙
      go k h;
}
  where
    go : (k : ℕ) → k < a.pattern.ncols → ((leb 0 k && lists k rows) || marked w k) ≡ (lists k rows || false)
    go k h = rw (e, get_or-replicate {A = ℕ} a.pattern.ncols k 0 0 h, le-leb 0 k (omega arith))

module _ {a : Matrix} {rows w : List ℕ} {count : ℕ} {least : Option ℕ} {m : ℕ} (r : Reaching a rows w count least m) (h : m < a.pattern.ncols) where
  abbrev l : List ℕ
  l = reached_below a.pattern rows m

  pub count_small : count ≤ m
  count_small = omega (arith, r.counted, below-within a.pattern rows m)

  hit : (get_or w m 0 ≡ 0 → ⊥) → reaches a.pattern rows m ≡ true
  hit t = sym (r.each m h) ∙ (rw (ne_eqb (get_or w m 0) 0 t))

  miss : get_or w m 0 ≡ 0 → reaches a.pattern rows m ≡ false
  miss t = sym (r.each m h) ∙ (rw (eq-eqb (get_or w m 0) 0 t))

  -- the lowest that lacks, once column m is seen
  abbrev pub Seen : Option ℕ → Type 0
  Seen x = NamesIn a.pattern.ncols (lacking a) (l ++ (m ∷ [])) x

  pub seen_before : is_some least ≡ true → Seen least
  seen_before t = names_before a.pattern.ncols (lacking a) l m least t r.lacks

  pub seen_new : is_some least ≡ false → lacking a m ≡ true → Seen (Some m)
  seen_new t u = names_new a.pattern.ncols (lacking a) l m least t u h r.lacks

  pub seen_not : lacking a m ≡ false → Seen least
  seen_not u = names-not a.pattern.ncols (lacking a) l m least u r.lacks

  pub reaching_on : {given : List ℕ} {vals : List Float} {x : Option ℕ} {w' : List ℕ} → (get_or w m 0 ≡ 0 → ⊥) → IsColumn a m given vals → Seen x →
      w' ≡ mark_all (m + 1) given w → Reaching a rows w' (count + 1) x (m + 1)
  reaching_on {given} {vals} {x} {w'} t b f q = record {
    valid = r.valid;
    within = omega arith;
    long = ap length q ∙ length-mark_all (m + 1) given w ∙ r.long;
    counted = rw (below_more a.pattern rows m (hit t), length-append l (m ∷ []), ← r.counted);
    lacks = rw (below_more a.pattern rows m (hit t)) f;
    each = λ k l. ap (λ (u : List ℕ). marked u k) q ∙ marked_all (m + 1) given w k (omega (arith, r.long)) ∙
        ap (λ (u : Bool). (leb (m + 1) k && lists k given) || u) (r.each k l) ∙ store k;
  }
    where
      store : (k : ℕ) → ((leb (m + 1) k && lists k given) || touched a.pattern rows l k) ≡ touched a.pattern rows
          (reached_below a.pattern rows (m + 1)) k
      store k = rw (below_more a.pattern rows m (hit t), touched-more a.pattern rows l m k, b.rows_are) (go k)
        where
          go : (k : ℕ) → ((leb (m + 1) k && lists k (column a.pattern.p m a.pattern.i)) || touched a.pattern rows l k)
              ≡ (stores a.pattern m k || touched a.pattern rows l k)
          go k = rw (stores-is a.pattern rows m k)

  pub reaching_off : get_or w m 0 ≡ 0 → Reaching a rows w count least (m + 1)
  reaching_off t = let e = below-same a.pattern rows m (miss t) in record {
    valid = r.valid;
    within = omega arith;
    long = r.long;
    counted = rw e r.counted;
    lacks = rw e r.lacks;
    each = λ k l. rw e (r.each k l);
  }

pub reaching_end : {a : Matrix} {rows w : List ℕ} {count : ℕ} {least : Option ℕ} {m : ℕ} → Reaching a rows w count least m → a.pattern.ncols ≤ m →
    (marks a.pattern.ncols w ≡ reached a.pattern rows) × (count ≡ length (reached a.pattern rows)) ×
    NamesIn a.pattern.ncols (lacking a) (reached a.pattern rows) least
unfolding reached marks
reaching_end {a} {rows} {w} {count} {least} {m} r h =
    let n = a.pattern.ncols in
    let e : m ≡ a.pattern.ncols = omega (arith, r.within) in
    let c = r.counted in
    let d = r.lacks in
    let f = r.each in (
      chosen_alike n (marked w) (reaches a.pattern rows) (λ k l. f k l ∙ settled a.pattern rows m k (omega arith)) ∙ sym (below-is a.pattern rows n),
      rw e at c,
      rw e at d,
    )

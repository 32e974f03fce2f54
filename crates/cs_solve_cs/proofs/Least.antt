-- The listed set is the least one that holds the rows and, with j, each stored row above j in number in column j. Assumes nothing.
use mathlib.Core.Path.{◌≡◌, refl}
use mathlib.Core.Bool.{Bool, true, false, ◌||◌}
use mathlib.Core.List.Memᴰ
use mathlib.Core.List.{List, [], ◌∷◌, Memᴰ}
use mathlib.Core.Logic.{⊎_elim}
use Prim.Native.Nat.{ℕ, zero, suc, ◌+◌, ◌<◌}
use native.Mathlib.Omega.{arith}
use lib.Dec.{ltb}
use lib.ListN.{length, get_or}
use borrow.Author.Tests.{lt-ltb, ltb-true}
use Rattle.lists.specs.Choices.{some_of}
use Rattle.lists.specs.Order.{lists}
use Rattle.lists.proofs.Bools.{and-true}
use Rattle.lists.proofs.Ordering.{lists_mean, member_lists}
use Rattle.cs_matrix.specs.Matrix.{Pattern, ValidPattern, column}
use Rattle.cs_matrix.proofs.Pointers.{at_most, length-column, get_or-column}
use Rattle.cs_solve_cs.specs.Reach.{stores, touched, reached_below, reached, Reached, given, stored, Closed, Reaches}
use Rattle.lists.proofs.Chosen.{some_of_member, some_of-find, Member, chosen_member, member_chosen, chosen_rising}
use Rattle.cs_solve_cs.proofs.Reaching.{reaches, below-is}

-- a member of a list whose places are all below n
pub member_below : (n : ℕ) (l : List ℕ) → ((k : ℕ) → k < length l → get_or l k 0 < n) → (x : ℕ) → Memᴰ x l → x < n
member_below n [] h x m = absurd (Memᴰ.not-nil m)
member_below n (y ∷ l) h x m = ⊎_elim (λ (e : x ≡ y). omega (arith, h 0 (omega arith))) (λ r. member_below n l (λ k g. h (suc k) (omega arith)) x r)
    (Memᴰ.cases_cons m)

-- a row of a column is below the row count
pub row_below : {a : Pattern} → ValidPattern a → (j k : ℕ) → j < a.ncols → Memᴰ k (column a.p j a.i) → k < a.nrows
row_below {a} v j k h m =
    let e = at_most v.ptrs (j + 1) (omega (arith, v.p_long)) in
    let l = length-column a.p j a.i e in
    member_below a.nrows (column a.p j a.i) (λ q g. rw (get_or-column a.p j a.i q 0 (omega arith)) (v.below (get_or a.p j 0 + q) (omega arith))) k m

module _ (a : Pattern) (rows : List ℕ) where
  stores_mean : (j k : ℕ) → stores a j k ≡ true → (j < k) × Memᴰ k (column a.p j a.i)
  unfolding stores
  stores_mean j k h = let t = and-true (ltb j k) (lists k (column a.p j a.i)) h in (ltb-true j k t.0, lists_mean k _ t.1)

  stores-is : (j k : ℕ) → j < k → Memᴰ k (column a.p j a.i) → stores a j k ≡ true
  unfolding stores
  stores-is j k h m = rw (lt-ltb j k h, member_lists k (column a.p j a.i) m)

  in-below : (j k : ℕ) → Memᴰ j (reached_below a rows k) → Member (reaches a rows) k j
  in-below j k m = chosen_member (reaches a rows) k j (rw (below-is a rows k) at m)

  -- what is listed is reached
  is-reached : (b k : ℕ) → k < b → reaches a rows k ≡ true → Reached a rows k
  unfolding touched
  is-reached zero k g h = absurd (omega arith)
  is-reached (suc b) k g h = go (lists k rows) refl h (is-reached b)
    where
      go : (t : Bool) → lists k rows ≡ t → (t || some_of (λ j. stores a j k) (reached_below a rows k)) ≡ true →
          ((j : ℕ) → j < b → reaches a rows j ≡ true → Reached a rows j) → Reached a rows k
      go true e h f = given (lists_mean k rows e)
      go false e h f =
          let o = some_of-find (λ j. stores a j k) (reached_below a rows k) h in
          let m = in-below o.at k o.member in
          let s = stores_mean o.at k o.holds in
          stored (f o.at (omega (arith, m.below)) m.holds) s.0 s.1

  -- reached, and so listed
  pub hit_row : (k : ℕ) → Memᴰ k rows → reaches a rows k ≡ true
  unfolding touched
  hit_row k m = rw (member_lists k rows m)

  pub hit_stored : (j k : ℕ) → reaches a rows j ≡ true → j < k → Memᴰ k (column a.p j a.i) → reaches a rows k ≡ true
  unfolding touched
  hit_stored j k r h m = go (lists k rows) (some_of_member (λ j. stores a j k) (reached_below a rows k)
      (rw (below-is a rows k) (member_chosen (reaches a rows) k j h r)) (stores-is j k h m))
    where
      go : (t : Bool) → some_of (λ j. stores a j k) (reached_below a rows k) ≡ true → (t || some_of (λ j. stores a j k) (reached_below a rows k))
          ≡ true
      go true e = refl
      go false e = e

  module _ (v : ValidPattern a) (square : a.nrows ≡ a.ncols) (inside : (k : ℕ) → Memᴰ k rows → k < a.ncols) where
    record Hit (k : ℕ) : Type 0 where
      below : k < a.ncols
      holds : reaches a rows k ≡ true

    hit : {k : ℕ} → Reached a rows k → Hit k
    hit {k} (given m) = record { below = inside k m; holds = hit_row k m }
    hit {k} (stored {j = j} r h m) = let t = hit r in record { below = omega (arith, row_below v j k t.below m); holds = hit_stored j k t.holds h m }

    in_closed : (f : ℕ → Bool) → Closed a rows f → {k : ℕ} → Reached a rows k → f k ≡ true
    in_closed f c {k} (given m) = c.holds k m
    in_closed f c {k} (stored {j = j} r h m) = c.follows j k (in_closed f c r) h m

    listed : (k : ℕ) → Memᴰ k (reached a rows) → Reached a rows k
    unfolding reached
    listed k m = is-reached (suc k) k (omega arith) (in-below k a.ncols m).holds

    pub reaches_least : Reaches a rows (reached a rows)
    unfolding reached
    reaches_least = record {
      rising = rw (below-is a rows a.ncols) (chosen_rising (reaches a rows) a.ncols);
      only = listed;
      all = λ k r. let t = hit r in rw (below-is a rows a.ncols) (member_chosen (reaches a rows) a.ncols k t.below t.holds);
      least = λ f c k m. in_closed f c (listed k m);
    }

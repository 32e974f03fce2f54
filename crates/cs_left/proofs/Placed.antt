-- Which rows column k touches: each has its place in L's column k. Assumes nothing.
use mathlib.Core.Path.{◌≡◌, refl, ap, ◌∙◌}
use mathlib.Core.Bool.{Bool, true, false, not, cond, ◌&&◌, true≢false}
use mathlib.Core.List.Memᴰ
use mathlib.Core.List.{List, [], ◌∷◌, Memᴰ}
use mathlib.Core.Logic.{⊎_elim}
use Prim.Native.Nat.{ℕ, ◌≤◌, ◌<◌}
use native.Mathlib.Omega.{arith}
use lib.Dec.{leb, ltb}
use lib.Ieee.{Float, nan, lt, binary64, of_bits, add, mul, neg}
use lib.ListN.{get_or, set, replicate, get_or-replicate}
use lib.Seq.{get_or-set_other}
use borrow.Author.Tests.{lt-ltb, leb-true, ltb-true}
use Rattle.lists.specs.Calls.{none}
use Rattle.lists.specs.Choices.{some, chosen}
use Rattle.lists.specs.Folds.{over}
use Rattle.lists.specs.Order.{lists}
use Rattle.lists.proofs.Bools.{not-both, le-or-lt}
use Rattle.lists.proofs.Chosen.{some_of_member, member_chosen}
use Rattle.lists.proofs.Members.{listed-or-not}
use Rattle.lists.proofs.Positions.{along-keeps, over-keeps}
use Rattle.cs_matrix.specs.Matrix.{pattern, matrix, column, value_at}
use Rattle.cs_tree.specs.Least.{In}
use Rattle.cs_tree.specs.Pattern.{upper, lower}
use Rattle.cs_tree.proofs.Laws.{fill_upper}
use Rattle.cs_tree.proofs.Promises.{filled}
use Rattle.cs_pattern.specs.Columns.{columns}
use Rattle.cs_pattern.proofs.Columns.{columns_fit, columns_long, column-at}
use Rattle.cs_cholesky.specs.Served.{Served}
use Rattle.cs_left.specs.Left.{put_at, add_at, add_column, add_columns, left_x, stray, strays}

none_above : lt none none ≡ false
unfolding lt of_bits
none_above = refl

none_of : {x : ℕ} (l : List ℕ) → some l ≡ false → Memᴰ x l → ⊥
none_of [] e m = Memᴰ.not-nil m
none_of (y ∷ l) e m = true≢false e

-- ---- a place that no row of a column is
module _ (k z : ℕ) where
  put_off : (rows : List ℕ) (vals : List Float) → ((r : ℕ) → Memᴰ r rows → k ≤ r → z ≡ r → ⊥) → (x : List Float) →
      get_or (over (put_at k) rows vals x) z nan ≡ get_or x z nan
  unfolding put_at
  put_off rows vals h x = over-keeps (λ (s : List Float). get_or s z nan) (put_at k) rows vals (λ r v s m. go (leb k r) r refl v s m) x
    where
      go : (b : Bool) (r : ℕ) → leb k r ≡ b → (v : Float) (s : List Float) → Memᴰ r rows → get_or (cond b (set s r v) s) z nan ≡ get_or s z nan
      go true r e v s m = get_or-set_other s r z v nan (h r m (leb-true k r e))
      go false r e v s m = refl

  add_off : (f : Float) (rows : List ℕ) (vals : List Float) → ((r : ℕ) → Memᴰ r rows → k ≤ r → z ≡ r → ⊥) → (x : List Float) →
      get_or (over (add_at k f) rows vals x) z nan ≡ get_or x z nan
  unfolding add_at
  add_off f rows vals h x = over-keeps (λ (s : List Float). get_or s z nan) (add_at k f) rows vals (λ r v s m. go (leb k r) r refl v s m) x
    where
      go : (b : Bool) (r : ℕ) → leb k r ≡ b → (v : Float) (s : List Float) → Memᴰ r rows →
          get_or (cond b (set s r (add binary64 (get_or s r nan) (mul binary64 v f))) s) z nan ≡ get_or s z nan
      go true r e v s m = get_or-set_other s r z _ nan (h r m (leb-true k r e))
      go false r e v s m = refl

  adds_off : (ls : List (List ℕ)) (done : List (List Float)) (us : List ℕ) → ((j r : ℕ) → Memᴰ j us → j < k → Memᴰ r (get_or ls j []) → k ≤ r →
      z ≡ r → ⊥) → (x : List Float)
      → get_or (add_columns k ls done us x) z nan ≡ get_or x z nan
  unfolding add_columns add_column
  adds_off ls done us h x = along-keeps (λ (s : List Float). get_or s z nan)
      (λ j x. cond (ltb j k) (add_column k (get_or ls j []) (get_or done j []) x) x) us (λ j s m. go (ltb j k) j refl s m) x
    where
      go : (b : Bool) (j : ℕ) → ltb j k ≡ b → (s : List Float) → Memᴰ j us → get_or (cond b (add_column k (get_or ls j []) (get_or done j []) s) s)
          z nan ≡ get_or s z nan
      go true j e s m = add_off (neg (value_at k (get_or ls j []) (get_or done j []))) (get_or ls j []) (get_or done j [])
          (λ r t g. h j r m (ltb-true j k e) t g) s
      go false j e s m = refl

module _ {n : ℕ} {p i : List ℕ} {v : List Float} {up ui lp li : List ℕ} {room : ℕ} (S : Served n p i v up ui lp li room) where
  abbrev C : List (List ℕ)
  C = columns (pattern n n p i)

  abbrev us : List (List ℕ)
  us = upper (columns (pattern n n p i))

  abbrev ls : List (List ℕ)
  ls = lower (columns (pattern n n p i))

  -- (j, k) is in U: j is at or above the diagonal
  pub in-upper : {j k : ℕ} → In us j k → (j ≤ k) × (k < n)
  in-upper m =
      let t = fill_upper C (filled C (columns_fit S.valid.pattern) m) in
      (t.0, omega (arith, t.1, columns_long S.valid.pattern))

  -- and so with L
  pub in-lower : {k j : ℕ} → In ls k j → (j ≤ k) × (k < n)
  in-lower {k} {j} m = in-upper ((S.promised.across j k).0 m)

  -- what another column of L adds
  pub cross-in : {j k r : ℕ} → j < k → In us j k → In ls r j → k ≤ r → In ls r k
  cross-in {j} {k} {r} h a b g =
      ⊎_elim
      (λ (z : r ≤ k). (let e : r ≡ k = omega arith in rw e ((S.promised.across k k).1 (S.promised.closed.diagonal j k h a))))
      (λ (z : k < r). (S.promised.across k r).1 (S.promised.closed.crosses j k r h z a ((S.promised.across j r).0 b))) (le-or-lt r k)

  module _ (Q : strays (matrix n n p i v) ≡ false) {k : ℕ} (h : k < n) where
    none_here : stray C ls k ≡ false
    unfolding strays
    none_here = go (stray C ls k) refl
      where
        go : (b : Bool) → stray C ls k ≡ b → b ≡ false
        go true e = absurd (none_of (chosen n (stray C ls)) Q (member_chosen (stray C ls) n k h e))
        go false e = refl

    -- what is stored at and below the diagonal
    pub stored-in : {r : ℕ} → In C r k → k ≤ r → In ls r k
    unfolding stray
    stored-in {r} m g =
        ⊎_elim
        (λ (z : r ≤ k). (let e : r ≡ k = omega arith in rw e ((S.promised.across k k).1 (S.promised.closed.stores k k (omega arith) (rw e at m)))))
        (λ (z : k < r). ⊎_elim (λ y. y.1) (λ y. absurd
        (not-both _ (some_of_member (λ i. ltb k i && not (lists i (get_or ls k []))) (get_or C k []) m (rw (lt-ltb k r z, y.0) refl))
        none_here)) (listed-or-not r (get_or ls k []))) (le-or-lt r k)

    module _ (done : List (List Float)) {z : ℕ} (o : In ls z k → ⊥) where
      -- x stays zero where L's column k has no row
      pub x_off : z < n → get_or (left_x (matrix n n p i v) us ls k done) z nan ≡ none
      unfolding left_x
      x_off b =
          adds_off k z ls done (get_or us k []) (λ j r m g t l e. o (rw e (cross-in g m t l)))
          (over (put_at k) (column p k i) (column p k v) (replicate n none))
          ∙ put_off k z (column p k i) (column p k v) (λ r m l e. o (rw e (stored-in (rw (column-at (pattern n n p i) k h) m) l))) (replicate n none)
          ∙ get_or-replicate n z none nan b

    -- a pivot above zero has its row in L's column k
    pub diagonal-in : (done : List (List Float)) {pivot : Float} → pivot ≡ get_or (left_x (matrix n n p i v) us ls k done) k nan → lt none pivot
        ≡ true → In ls k k
    diagonal-in done {pivot} e t = ⊎_elim (λ y. y.1) (λ y. absurd (not-both (lt none pivot) t (ap (lt none) (e ∙ x_off done y.1 h) ∙ none_above)))
        (listed-or-not k (get_or ls k []))

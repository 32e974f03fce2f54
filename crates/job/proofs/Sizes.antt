-- A factoring that is done has a value for each entry of L. Assumes nothing.
use mathlib.Core.Bool.{Bool, true, false, cond, true≢false}
use mathlib.Core.Logic.{⊎_elim}
use mathlib.Core.Path.{◌≡◌, refl, sym, ap, ◌∙◌}
use mathlib.Core.List.{List, [], ◌∷◌, ◌++◌, flatten, Memᴰ}
use Prim.Native.Nat.{ℕ, zero, suc, ◌+◌, ◌≤◌, ◌<◌}
use native.Mathlib.Nat.{eq-or-lt_of_le}
use native.Mathlib.Omega.{arith}
use lib.Dec.{ltb}
use lib.Ieee.{Float, nan, lt, of_bits}
use lib.ListN.{length, get_or, set, take, replicate, length-append, length-set, get_or-replicate}
use lib.Seq.{take_all}
use borrow.Author.Tests.{lt-ltb, le-ltb}
use Rattle.lists.specs.Calls.{none}
use Rattle.lists.specs.Folds.{along}
use Rattle.lists.specs.Order.{Once, one_more}
use Rattle.lists.proofs.Bools.{le-or-lt}
use Rattle.lists.proofs.Spots.{member_at}
use Rattle.root.specs.Root.{root_of}
use Rattle.cs_matrix.specs.Matrix.{Matrix, column}
use Rattle.cs_tree.specs.Least.{Promised}
use Rattle.cs_tree.specs.Pattern.{upper, lower, entries}
use Rattle.cs_tree.specs.Tree.{root, tree}
use Rattle.cs_tree.proofs.Laid.{length-laid, entries-more}
use Rattle.cs_tree.proofs.Laws.{fill_upper}
use Rattle.cs_tree.proofs.Promises.{promised, filled}
use Rattle.cs_pattern.specs.Columns.{columns}
use Rattle.cs_pattern.proofs.Columns.{length-columns, column-at}
use Rattle.cs_cholesky.specs.Factor.{Step, Outcome, factored, factor}
use Rattle.cs_left.specs.Left.{left_x, left_step, left}
use Rattle.cs_left.proofs.Columns.{length-quotients}
use Rattle.cs_up.proofs.Loading.{puts_none}
use Rattle.cs_up.specs.Up.{Way, row_at, rows_at, start_at, up_step, up}

-- ---- lists of columns
module _ {A : Type 0} where
  length-flat : (c : List A) (us : List (List A)) → length (flatten (c ∷ us)) ≡ length c + length (flatten us)
  unfolding flatten
  length-flat c us = length-append c (flatten us)

  length_last : (us : List (List A)) (c : List A) → length (flatten (us ++ (c ∷ []))) ≡ length (flatten us) + length c
  unfolding flatten
  length_last [] c = length-append c [] ∙ omega arith
  length_last (u ∷ us) c = length-flat u (us ++ (c ∷ [])) ∙ omega (arith, length_last us c, length-flat u us)

  -- one value more in column j
  length-grown : (us : List (List A)) (j : ℕ) (x : A) → j < length us → length (flatten (set us j (get_or us j [] ++ (x ∷ []))))
      ≡ length (flatten us) + 1
  length-grown [] j x h = absurd (omega arith)
  length-grown (u ∷ us) zero x h = length-flat (u ++ (x ∷ [])) us ∙ omega (arith, length-append u (x ∷ []), length-flat u us)
  length-grown (u ∷ us) (suc j) x h = length-flat u (set us j (get_or us j [] ++ (x ∷ []))) ∙
      omega (arith, length-grown us j x (omega arith), length-flat u us)

-- ---- a factoring that ends well
module _ (step : ℕ → List (List Float) → Step) (d k : ℕ) (done : List (List Float)) where
  abbrev next : Bool → Outcome
  next b = cond b (factor step d (k + 1) (step k done).columns) (record { answer = factored 11 k (step k done).pivot; columns = [] })

  above : (b : Bool) → (next b).answer.number ≡ 0 → (b ≡ true) × (next b ≡ factor step d (k + 1) (step k done).columns)
  above true z = (refl, refl)
  above false z = absurd (omega arith)

  passes : (factor step (suc d) k done).answer.number ≡ 0
      → (lt none (step k done).pivot ≡ true) × (factor step (suc d) k done ≡ factor step d (k + 1) (step k done).columns)
  unfolding factor
  passes z = above (lt none (step k done).pivot) z

ends : (step : ℕ → List (List Float) → Step) (k : ℕ) (done : List (List Float)) → (factor step zero k done).columns ≡ done
unfolding factor
ends step k done = refl

-- ---- left: each column has as many values as L's has rows
left-column : (a : Matrix) (us ls : List (List ℕ)) (k : ℕ) (done : List (List Float))
    → length (flatten (left_step a us ls k done).columns) ≡ length (flatten done) + length (get_or ls k [])
unfolding left_step
left-column a us ls k done = length_last done _ ∙
    ap (λ (m : ℕ). length (flatten done) + m) (length-quotients _ (get_or ls k []) (left_x a us ls k done))

left_sizes : (a : Matrix) (us ls : List (List ℕ)) (d k : ℕ) (done : List (List Float)) → length ls ≡ k + d → length (flatten done)
    ≡ entries (take k ls)
    → (factor (left_step a us ls) d k done).answer.number ≡ 0 → length (flatten (factor (left_step a us ls) d k done).columns) ≡ entries ls
left_sizes a us ls zero k done n e z =
    ap (λ (c : List (List Float)). length (flatten c)) (ends (left_step a us ls) k done) ∙ e ∙ ap entries (take_all k ls (omega arith))
left_sizes a us ls (suc d) k done n e z =
    let p = passes (left_step a us ls) d k done z in
    let i = left_sizes a us ls d (k + 1) (left_step a us ls k done).columns (omega arith)
    (left-column a us ls k done ∙ omega (arith, e, entries-more ls k (omega arith)))
    (sym (ap (λ (o : Outcome). o.answer.number) p.1) ∙ z) in
    ap (λ (o : Outcome). length (flatten o.columns)) p.1 ∙ i

-- ---- up: column k gives a value to each column before it that U's column k names, and its diagonal
unfoldable below : ℕ → List ℕ → ℕ
below k [] = 0
below k (q ∷ us) = cond (ltb q k) (suc (below k us)) (below k us)

row_more : (k : ℕ) (rows : List ℕ) (j : ℕ) (s : Way) → j < length s.columns
    → (length (row_at k rows j s).columns ≡ length s.columns) × (length (flatten (row_at k rows j s).columns) ≡ length (flatten s.columns) + 1)
unfolding row_at
row_more k rows j s h = (length-set s.columns j _, length-grown s.columns j _ h)

abbrev go_at : ℕ → List (List ℕ) → ℕ → Way → Way
go_at k ls j s = cond (ltb j k) (row_at k (get_or ls j []) j s) s

abbrev Grown : ℕ → List (List ℕ) → List ℕ → Way → Type 0
Grown k ls us s =
    (length (along (go_at k ls) us s).columns ≡ k) × (length (flatten (along (go_at k ls) us s).columns) ≡ length (flatten s.columns) + below k us)

one-row : (k : ℕ) (ls : List (List ℕ)) (q : ℕ) (us : List ℕ) (s : Way) → length s.columns ≡ k → ((t : Way) → length t.columns ≡ k → Grown k ls us t)
    → Grown k ls (q ∷ us) s
unfolding along below
one-row k ls q us s n i =
    ⊎_elim
    (λ (h : k ≤ q).
    let e : ltb q k ≡ false = le-ltb q k h in
    let g : go_at k ls q s ≡ s = ap (λ (b : Bool). cond b (row_at k (get_or ls q []) q s) s) e in
    let b : cond (ltb q k) (suc (below k us)) (below k us) ≡ below k us = ap (λ (t : Bool). cond t (suc (below k us)) (below k us)) e in
    let w = i (go_at k ls q s) (ap (λ (t : Way). length t.columns) g ∙ n) in
    (w.0, omega (arith, w.1, b, ap (λ (t : Way). length (flatten t.columns)) g)))
    (λ (h : q < k).
    let e : ltb q k ≡ true = lt-ltb q k h in
    let g : go_at k ls q s ≡ row_at k (get_or ls q []) q s = ap (λ (b : Bool). cond b (row_at k (get_or ls q []) q s) s) e in
    let b : cond (ltb q k) (suc (below k us)) (below k us) ≡ suc (below k us) = ap (λ (t : Bool). cond t (suc (below k us)) (below k us)) e in
    let r = row_more k (get_or ls q []) q s (omega arith) in
    let w = i (go_at k ls q s) (ap (λ (t : Way). length t.columns) g ∙ r.0 ∙ n) in
    (w.0, omega (arith, w.1, b, ap (λ (t : Way). length (flatten t.columns)) g, r.1)))
    (le-or-lt k q)

rows_more : (k : ℕ) (ls : List (List ℕ)) (us : List ℕ) (s : Way) → length s.columns ≡ k → Grown k ls us s
unfolding along below
rows_more k ls [] s n = (n, omega arith)
rows_more k ls (q ∷ us) s n = one-row k ls q us s n (λ t m. rows_more k ls us t m)

last_one : (c : List (List Float)) (x : Float) → length (flatten (c ++ ((x ∷ []) ∷ []))) ≡ length (flatten c) + 1
last_one c x = length_last c (x ∷ [])

up-column : (a : Matrix) (us ls : List (List ℕ)) (k : ℕ) (done : List (List Float)) → length done ≡ k
    → (length (up_step a us ls k done).columns ≡ k + 1) ×
    (length (flatten (up_step a us ls k done).columns) ≡ length (flatten done) + below k (get_or us k []) + 1)
unfolding up_step rows_at start_at
up-column a us ls k done n =
    let w = rows_more k ls (get_or us k []) (start_at a k done) n in
    let s : Way = along (go_at k ls) (get_or us k []) (start_at a k done) in
    let d : Float = root_of s.pivot in
    (length-append s.columns ((d ∷ []) ∷ []) ∙ ap (λ (m : ℕ). m + 1) w.0, last_one s.columns d ∙ ap (λ (m : ℕ). m + 1) w.1)

-- U's column k has each number once, none above k, and k itself if any
below_all : (k : ℕ) (us : List ℕ) → ((x : ℕ) → Memᴰ x us → x ≤ k) → ¬ Memᴰ k us → below k us ≡ length us
unfolding below
below_all k [] h m = refl
below_all k (q ∷ us) h m =
    let l : q ≤ k = h q (mathlib.Core.List.Memᴰ.head refl) in
    let ne : q < k = ⊎_elim (λ (e : q ≡ k). absurd (m (mathlib.Core.List.Memᴰ.head (sym e)))) (λ (g : q < k). g) (eq-or-lt_of_le l) in
    let i = below_all k us (λ x n. h x (mathlib.Core.List.Memᴰ.tail n)) (λ n. m (mathlib.Core.List.Memᴰ.tail n)) in
    ap (λ (t : Bool). cond t (suc (below k us)) (below k us)) (lt-ltb q k ne) ∙ ap suc i

below_but_one : (k : ℕ) (us : List ℕ) → Once us → ((x : ℕ) → Memᴰ x us → x ≤ k) → Memᴰ k us → below k us + 1 ≡ length us
unfolding below
below_but_one k [] o h m = absurd (mathlib.Core.List.Memᴰ.not-nil m)
below_but_one k (q ∷ us) (one_more f o) h m =
    ⊎_elim
    (λ (e : k ≡ q).
    let i = below_all k us (λ x n. h x (mathlib.Core.List.Memᴰ.tail n)) (λ n. f (rw e at n)) in
    let b : cond (ltb q k) (suc (below k us)) (below k us) ≡ below k us = ap (λ (t : Bool). cond t (suc (below k us)) (below k us))
    (le-ltb q k (omega arith)) in
    omega (arith, i, b))
    (λ n.
    let i = below_but_one k us o (λ x r. h x (mathlib.Core.List.Memᴰ.tail r)) n in
    let l : q ≤ k = h q (mathlib.Core.List.Memᴰ.head refl) in
    let ne : q < k = ⊎_elim (λ (e : q ≡ k). absurd (f (rw (← e) at n))) (λ (g : q < k). g) (eq-or-lt_of_le l) in
    let b : cond (ltb q k) (suc (below k us)) (below k us) ≡ suc (below k us) = ap (λ (t : Bool). cond t (suc (below k us)) (below k us))
    (lt-ltb q k ne) in
    omega (arith, i, b))
    (mathlib.Core.List.Memᴰ.cases_cons m)

-- where U's column k is empty nothing is put into x, and the pivot is +0.0
not-above : lt none none ≡ false
unfolding lt of_bits
not-above = refl

pivot_none : (a : Matrix) (us ls : List (List ℕ)) (k : ℕ) (done : List (List Float)) → k < a.pattern.ncols → get_or us k [] ≡ []
    → ((i : ℕ) → Memᴰ i (column a.pattern.p k a.pattern.i) → k < i) → (up_step a us ls k done).pivot ≡ none
unfolding up_step rows_at start_at along
pivot_none a us ls k done l e h =
    let n = a.pattern.ncols in
    let x = puts_none k (column a.pattern.p k a.pattern.i) (column a.pattern.p k a.v) (replicate n none)
    (λ z m. h (get_or (column a.pattern.p k a.pattern.i) z 0) (member_at (column a.pattern.p k a.pattern.i) z m)) in
    ap (λ (u : List ℕ). (along (go_at k ls) u (start_at a k done)).pivot) e ∙ ap (λ (y : List Float). get_or y k nan) x ∙
    get_or-replicate n k none nan l

module _ (a : Matrix) (small : a.pattern.ncols ≤ 65535) where
  abbrev cols : List (List ℕ)
  cols = columns a.pattern

  abbrev us : List (List ℕ)
  us = upper cols

  abbrev ls : List (List ℕ)
  ls = lower cols

  fits : length cols ≤ root
  unfolding root
  fits = omega (arith, length-columns a.pattern, small)

  P : Promised cols (tree cols) us ls
  P = promised cols fits

  upward : (k x : ℕ) → Memᴰ x (get_or us k []) → x ≤ k
  upward k x m = (fill_upper cols (filled cols fits m)).0

  none_passes : (k : ℕ) (done : List (List Float)) → k < a.pattern.ncols → lt none (up_step a us ls k done).pivot ≡ true → get_or us k [] ≡ [] → ⊥
  none_passes k done h t e =
      let q : (i : ℕ) → Memᴰ i (column a.pattern.p k a.pattern.i) → k < i =
      λ i m. ⊎_elim
      (λ (l : i ≤ k). absurd (mathlib.Core.List.Memᴰ.not-nil (rw e at (P.closed.stores i k l (rw (column-at a.pattern k h) m)))))
      (λ (l : k < i). l)
      (le-or-lt i k) in
      true≢false (sym t ∙ ap (lt none) (pivot_none a us ls k done h e q) ∙ not-above)

  -- a column that passes has its diagonal
  holds : (k : ℕ) (done : List (List Float)) → k < a.pattern.ncols → lt none (up_step a us ls k done).pivot ≡ true → Memᴰ k (get_or us k [])
  holds k done h t = go (get_or us k []) refl
    where
      go : (c : List ℕ) → get_or us k [] ≡ c → Memᴰ k c
      go [] e = absurd (none_passes k done h t e)
      go (x ∷ c) e =
          let m : Memᴰ x (get_or us k []) = rw e (mathlib.Core.List.Memᴰ.head refl) in
          ⊎_elim
          (λ (f : x ≡ k). mathlib.Core.List.Memᴰ.head (sym f))
          (λ (l : x < k). rw e at (P.closed.diagonal x k l m))
          (eq-or-lt_of_le (upward k x m))

  up_sizes : (d k : ℕ) (done : List (List Float)) → a.pattern.ncols ≡ k + d → length done ≡ k → length (flatten done) ≡ entries (take k us)
      → (factor (up_step a us ls) d k done).answer.number ≡ 0 → length (flatten (factor (up_step a us ls) d k done).columns) ≡ entries us
  up_sizes zero k done n l e z =
      ap (λ (c : List (List Float)). length (flatten c)) (ends (up_step a us ls) k done) ∙ e
      ∙ ap entries (take_all k us (omega (arith, P.u_columns, length-columns a.pattern)))
  up_sizes (suc d) k done n l e z =
      let p = passes (up_step a us ls) d k done z in
      let c = up-column a us ls k done l in
      let b = below_but_one k (get_or us k []) (P.once k) (upward k) (holds k done (omega arith) p.0) in
      let m = entries-more us k (omega (arith, P.u_columns, length-columns a.pattern)) in
      let i = up_sizes d (k + 1) (up_step a us ls k done).columns (omega arith) c.0 (omega (arith, c.1, b, m, e))
      (sym (ap (λ (o : Outcome). o.answer.number) p.1) ∙ z) in
      ap (λ (o : Outcome). length (flatten o.columns)) p.1 ∙ i

  pub left_long : (left a).answer.number ≡ 0 → length (flatten (left a).columns) ≡ length (flatten ls)
  unfolding left flatten entries
  left_long z = left_sizes a us ls a.pattern.ncols 0 [] (omega (arith, P.l_columns, length-columns a.pattern)) refl z ∙ sym (length-laid ls)

  pub up_long : (up a).answer.number ≡ 0 → length (flatten (up a).columns) ≡ length (flatten ls)
  unfolding up flatten entries
  up_long z = up_sizes a.pattern.ncols 0 [] (omega arith) refl refl z ∙ sym P.counts ∙ sym (length-laid ls)

-- The columns of U as they are computed: members, and no repeats. Assumes nothing.
use mathlib.Core.Path.{◌≡◌, refl, sym}
use mathlib.Core.Logic.{◌⊎◌, inl, inr}
use mathlib.Core.Bool.{true, false}
use mathlib.Core.List.Memᴰ
use mathlib.Core.List.{List, [], ◌∷◌, ◌++◌, Memᴰ}
use Prim.Native.Nat.{ℕ, zero, suc, ◌+◌, ◌≤◌, ◌<◌}
use native.Mathlib.Omega.{arith}
use native.Mathlib.Decide.{dec_lt, dec_le}
use lib.ListN.{get_or, length, get_or-eq_default}
use Rattle.lists.specs.Order.{lists, Once, no_more, one_more}
use Rattle.lists.specs.Folds.{along}
use Rattle.cs_tree.specs.Tree.{root, tree}
use Rattle.cs_tree.specs.Pattern.{path, paths, upper_column}
use Rattle.cs_tree.specs.Least.{Fill}
use Rattle.cs_tree.proofs.Reach.{Reach, here, up, reach_le, reach_snoc}
use Rattle.lists.proofs.Members.{listed-or-not}
use Rattle.cs_tree.proofs.Steps.{path-over, path_seen, path_new}
use Rattle.cs_tree.proofs.Rows.{Good, tree_good, in_cols, fill_entry, entry_fill}

-- up to k, the parents of what is listed are listed
unfoldable pub Upwards : List ℕ → ℕ → List ℕ → Type 0
Upwards par k l = (x : ℕ) → Memᴰ x l → get_or par x root ≤ k → Memᴰ (get_or par x root) l

module _ (cols : List (List ℕ)) (par : List ℕ) (g : Good cols par) (k : ℕ) (kr : k < root) where
  pub rise : (i : ℕ) → get_or par i root ≤ k → i < get_or par i root
  rise i l = (g.rises i (omega arith)).0

  pub path_sound : (f i j : ℕ) (seen : List ℕ) → Memᴰ j (path f par k i seen) → Reach par i j × (j ≤ k)
  unfolding path
  path_sound zero i j seen m = absurd (Memᴰ.not-nil m)
  path_sound (suc f) i j seen m = go (dec_le i k) (listed-or-not i seen) (path_sound f (get_or par i root) j seen)
    where
      go : Dec (i ≤ k) → ((lists i seen ≡ true) × Memᴰ i seen) ⊎ ((lists i seen ≡ false) × ¬ Memᴰ i seen)
          → (Memᴰ j (path f par k (get_or par i root) seen) → Reach par (get_or par i root) j × (j ≤ k)) → Reach par i j × (j ≤ k)
      go (no n) d ih = absurd (Memᴰ.not-nil (rw (path-over (suc f) par k i seen (omega arith)) at m))
      go (yes l) (inl d) ih = absurd (Memᴰ.not-nil (rw (path_seen (suc f) par k i seen l d.0) at m))
      go (yes l) (inr d) ih = elim (Memᴰ.cases_cons (rw (path_new f par k i seen l d.0) at m)) [
        | inl e ↦ (here (sym e), omega arith)
        | inr t ↦ let q = ih t in let ql = reach_le q.0 in (up (get_or par i root) refl (rise i (omega arith)) (omega arith) q.0, q.1)
      ]

  closed_reach : (l : List ℕ) → Upwards par k l → {i j : ℕ} → Memᴰ i l → Reach par i j → j ≤ k → Memᴰ j l
  unfolding Upwards
  closed_reach l c m (here e) h = rw e at m
  closed_reach l c m (up {i = i} p e lt lr r) h = let pl = reach_le r in closed_reach l c (rw e at (c i m (omega arith))) r h

  pub path_full : (f i j : ℕ) (seen : List ℕ) → k < i + f → Upwards par k seen → Reach par i j → j ≤ k → Memᴰ j (path f par k i seen ++ seen)
  path_full zero i j seen fuel c r h = let q = reach_le r in absurd (omega arith)
  path_full (suc f) i j seen fuel c r h = go (listed-or-not i seen) r (λ r' fl. path_full f (get_or par i root) j seen fl c r' h)
    where
      le : i ≤ k
      le = let q = reach_le r in omega arith

      go : ((lists i seen ≡ true) × Memᴰ i seen) ⊎ ((lists i seen ≡ false) × ¬ Memᴰ i seen) → Reach par i j
          → (Reach par (get_or par i root) j → k < get_or par i root + f → Memᴰ j (path f par k (get_or par i root) seen ++ seen))
          → Memᴰ j (path (suc f) par k i seen ++ seen)
      go (inl d) r' ih = rw (path_seen (suc f) par k i seen le d.0) (closed_reach seen c d.1 r h)
      go (inr d) (here e) ih = rw (path_new f par k i seen le d.0) (Memᴰ.head (sym e))
      go (inr d) (up p e lt lr r') ih = rw (path_new f par k i seen le d.0) (Memᴰ.tail (ih (rw e r') (omega arith)))

  pub path_closed : (i : ℕ) (seen : List ℕ) → Upwards par k seen → Upwards par k (path (suc k) par k i seen ++ seen)
  unfolding Upwards
  path_closed i seen c x m h = elim (Memᴰ.append_cases (path (suc k) par k i seen) m) [
    | inl t ↦ let q = path_sound (suc k) i x seen t in
        path_full (suc k) i (get_or par x root) seen (omega arith) c (reach_snoc (get_or par x root) q.0 refl (rise x h) (omega arith)) h
    | inr t ↦ Memᴰ.append_right (path (suc k) par k i seen) (c x t h)
  ]

  path_distinct : (f i : ℕ) (seen : List ℕ) → Once seen → Once (path f par k i seen ++ seen)
  unfolding path
  path_distinct zero i seen d = d
  path_distinct (suc f) i seen d = go (dec_le i k) (listed-or-not i seen) (path_distinct f (get_or par i root) seen d)
    where
      go : Dec (i ≤ k) → ((lists i seen ≡ true) × Memᴰ i seen) ⊎ ((lists i seen ≡ false) × ¬ Memᴰ i seen)
          → Once (path f par k (get_or par i root) seen ++ seen) → Once (path (suc f) par k i seen ++ seen)
      go (no n) m ih = rw (path-over (suc f) par k i seen (omega arith)) d
      go (yes l) (inl m) ih = rw (path_seen (suc f) par k i seen l m.0) d
      go (yes l) (inr m) ih = rw (path_new f par k i seen l m.0)
          (one_more {x = i} (λ h. elim (Memᴰ.append_cases (path f par k (get_or par i root) seen) {t = seen} h) [
            | inl t ↦ let q = path_sound f (get_or par i root) i seen t in let ql = reach_le q.0 in let r = rise i (omega arith) in omega arith
            | inr t ↦ m.1 t
          ]) ih)

  -- ---- all stored rows of the column

  pub paths_distinct : (rows acc : List ℕ) → Once acc → Once (paths par k rows acc)
  unfolding paths along
  paths_distinct [] acc d = d
  paths_distinct (i ∷ is) acc d = paths_distinct is (path (suc k) par k i acc ++ acc) (path_distinct (suc k) i acc d)

  paths-keeps : (rows acc : List ℕ) {j : ℕ} → Memᴰ j acc → Memᴰ j (paths par k rows acc)
  unfolding paths along
  paths-keeps [] acc m = m
  paths-keeps (i ∷ is) acc m = paths-keeps is (path (suc k) par k i acc ++ acc) (Memᴰ.append_right (path (suc k) par k i acc) m)

  pub paths_full : (rows acc : List ℕ) → Upwards par k acc → {i j : ℕ} → Memᴰ i rows → Reach par i j → j ≤ k → Memᴰ j (paths par k rows acc)
  unfolding paths along
  paths_full [] acc c m r h = absurd (Memᴰ.not-nil m)
  paths_full (x ∷ xs) acc c {i} {j} m r h = go (Memᴰ.cases_cons m) (λ t. paths_full xs (path (suc k) par k x acc ++ acc) (path_closed x acc c) t r h)
    where
      go : (i ≡ x) ⊎ Memᴰ i xs → (Memᴰ i xs → Memᴰ j (paths par k xs (path (suc k) par k x acc ++ acc))) →
          Memᴰ j (paths par k xs (path (suc k) par k x acc ++ acc))
      go (inl e) ih = paths-keeps xs (path (suc k) par k x acc ++ acc) (path_full (suc k) x j acc (omega arith) c (rw e at r) h)
      go (inr t) ih = ih t

  pub record From (rows : List ℕ) (j : ℕ) : Type 0 where
    pub row : ℕ
    pub mem : Memᴰ row rows
    pub way : Reach par row j
    pub within : j ≤ k

  pub paths_sound : (rows acc : List ℕ) (j : ℕ) → Memᴰ j (paths par k rows acc) → Memᴰ j acc ⊎ From rows j
  unfolding paths along
  paths_sound [] acc j m = inl m
  paths_sound (i ∷ is) acc j m = elim (paths_sound is (path (suc k) par k i acc ++ acc) j m) [
    | inl t ↦ elim (Memᴰ.append_cases (path (suc k) par k i acc) t) [
      | inl w ↦ let q = path_sound (suc k) i j acc w in inr (record { row = i; mem = Memᴰ.head refl; way = q.0; within = q.1 })
      | inr w ↦ inl w
    ]
    | inr q ↦ inr (record { row = q.row; mem = Memᴰ.tail q.mem; way = q.way; within = q.within })
  ]

-- ---- what a column lists

pub upper_column_out : (cols : List (List ℕ)) (k : ℕ) → length cols ≤ k → upper_column cols k ≡ []
unfolding upper_column
upper_column_out cols k h = rw (get_or-eq_default cols [] {n = k} h)

module _ (cols : List (List ℕ)) (fits : length cols ≤ root) where
  -- the column lists the filled rows
  pub listed_filled : (j k : ℕ) → Memᴰ j (upper_column cols k) → Fill cols j k
  unfolding upper_column
  listed_filled j k m =
      let g = tree_good cols fits in
      elim (dec_lt k (length cols)) [
        | yes l ↦ elim (paths_sound cols (tree cols) g k (omega arith) (get_or cols k []) [] j m) [
          | inl t ↦ absurd (Memᴰ.not-nil t)
          | inr q ↦ entry_fill cols (tree cols) g (record { from = q.row; mem = q.mem; way = q.way; within = q.within })
        ]
        | no n ↦ absurd (Memᴰ.not-nil (rw (upper_column_out cols k (omega arith)) at m))
      ]

  pub filled_listed : (j k : ℕ) → Fill cols j k → Memᴰ j (upper_column cols k)
  unfolding upper_column Upwards
  filled_listed j k f =
      let g = tree_good cols fits in
      let e = fill_entry cols (tree cols) g f in
      let l = in_cols cols k e.from e.mem in
      paths_full cols (tree cols) g k (omega arith) (get_or cols k []) [] (λ x m. absurd (Memᴰ.not-nil m)) e.mem e.way e.within

  pub no_repeats : (k : ℕ) → Once (upper_column cols k)
  unfolding upper_column
  no_repeats k = elim (dec_lt k (length cols)) [
    | yes l ↦ paths_distinct cols (tree cols) (tree_good cols fits) k (omega arith) (get_or cols k []) [] no_more
    | no n ↦ rw (upper_column_out cols k (omega arith)) no_more
  ]

-- The row structure: (j, k) is filled exactly if j ≤ k is reached from a stored row of column k. Assumes nothing.
use mathlib.Core.Path.{◌≡◌, refl}
use mathlib.Core.Logic.{◌≢◌}
use mathlib.Core.List.Memᴰ
use mathlib.Core.List.{List, [], Memᴰ}
use Prim.Native.Nat.{ℕ, zero, suc, ◌≤◌, ◌<◌}
use native.Mathlib.Omega.{arith}
use native.Mathlib.Decide.{dec_lt, ℕ_discrete}
use lib.ListN.{get_or, length, get_or-eq_default}
use Rattle.cs_tree.specs.Tree.{root, tree}
use Rattle.cs_tree.specs.Least.{Fill, stored, cross, diag}
use Rattle.cs_tree.proofs.Reach.{Reach, here, up, reach_le, reach_trans, reach_split, reach_first}
use Rattle.cs_tree.proofs.Tree.{Made, tree-done}

-- what the rest uses of a tree
pub record Good (cols : List (List ℕ)) (par : List ℕ) : Type 0 where
  pub size : length par ≡ length cols
  pub rises : (i : ℕ) → get_or par i root ≢ root → (i < get_or par i root) × (get_or par i root < length cols)
  pub made : (i : ℕ) → get_or par i root ≢ root → Made cols par i (get_or par i root)
  pub closed : (c i : ℕ) → i < c → Memᴰ i (get_or cols c []) → Reach par i c

-- a stored row is in a column of the matrix
pub in_cols : (cols : List (List ℕ)) (c i : ℕ) → Memᴰ i (get_or cols c []) → c < length cols
in_cols cols c i m = elim (dec_lt c (length cols)) [
  | yes l ↦ l
  | no n ↦
      absurd (Memᴰ.not-nil (rw (get_or-eq_default cols [] {n = c} (omega arith)) at m))
]

pub tree_good : (cols : List (List ℕ)) → length cols ≤ root → Good cols (tree cols)
unfolding tree
tree_good cols h =
    let d = tree-done cols (length cols) (omega arith) h in
    record {
      size = d.sound.len_p;
      rises = d.sound.rises;
      made = d.sound.made;
      closed = λ c i l m. d.closed c i (in_cols cols c i m) l m;
    }

pub record Entry (cols : List (List ℕ)) (par : List ℕ) (j k : ℕ) : Type 0 where
  pub from : ℕ
  pub mem : Memᴰ from (get_or cols k [])
  pub way : Reach par from j
  pub within : j ≤ k

made_entry : {cols : List (List ℕ)} {par : List ℕ} {i c : ℕ} → i ≤ c → Made cols par i c → Entry cols par i c
made_entry l m = record { from = m.from; mem = m.mem; way = m.way; within = l }

module _ (cols : List (List ℕ)) (par : List ℕ) (g : Good cols par) where
  pub fill_entry : {j k : ℕ} → Fill cols j k → Entry cols par j k
  fill_entry (stored {i = i} l m) = record { from = i; mem = m; way = here refl; within = l }
  fill_entry (cross {j = j} {k = k} i l l' a b) =
      let p = fill_entry a in
      let q = fill_entry b in
      let pl = reach_le p.way in
      record {
        from = q.from;
        mem = q.mem;
        way = reach_trans q.way (reach_split p.way (g.closed j p.from (omega arith) p.mem) (omega arith));
        within = omega arith;
      }
  fill_entry (diag {j = j} {k = k} i e l a) =
      let q = fill_entry a in
      let ql = reach_le q.way in
      record {
        from = q.from;
        mem = q.mem;
        way = rw e (g.closed k q.from (omega arith) q.mem);
        within = omega arith;
      }

  walk : (k : ℕ) → ((c i : ℕ) → c < k → Entry cols par i c → Fill cols i c) → {x j : ℕ} → Reach par x j → j ≤ k → Fill cols x k → Fill cols j k
  walk k ih (here e) l f = rw e at f
  walk k ih (up {i = x} p e lt h r) l f = walk k ih r l (go (ℕ_discrete p k))
    where
      go : Dec (p ≡ k) → Fill cols p k
      go (yes pk) = diag x pk (omega arith) f
      go (no n) =
          let pl = reach_le r in
          let pk : p < k = omega arith in
          cross x lt pk (ih p x pk (made_entry (omega arith) (rw e at (g.made x (rw e (omega arith)))))) f

  entry_below : (b k j : ℕ) → k < b → Entry cols par j k → Fill cols j k
  entry_below zero k j l e = absurd (omega arith)
  entry_below (suc b) k j l e =
      let wl = reach_le e.way in
      walk k (λ c i lc. entry_below b c i (omega arith)) e.way e.within (stored (omega arith) e.mem)

  pub entry_fill : {j k : ℕ} → Entry cols par j k → Fill cols j k
  entry_fill {j} {k} e = entry_below (suc k) k j (omega arith) e

  -- the parent is the smallest k above i with (i, k) filled
  pub parent_filled : (i : ℕ) → get_or par i root ≢ root → Fill cols i (get_or par i root)
  parent_filled i n =
      let r = g.rises i n in
      entry_fill (made_entry (omega arith) (g.made i n))

  parent-step : (i k : ℕ) → i < k → Fill cols i k → Reach par i k
  parent-step i k l f =
      let e = fill_entry f in
      let el = reach_le e.way in
      reach_split e.way (g.closed k e.from (omega arith) e.mem) (omega arith)

  pub parent_least : (i k : ℕ) → i < k → Fill cols i k → get_or par i root ≤ k
  parent_least i k l f = let q = reach_first (parent-step i k l f) l in reach_le q.2

  pub parent-none : (i k : ℕ) → get_or par i root ≡ root → i < k → Fill cols i k → ⊥
  parent-none i k e l f = let q = reach_first (parent-step i k l f) l in omega arith

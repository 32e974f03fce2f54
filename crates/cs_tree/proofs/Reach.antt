-- Paths of a tree: from i, m is reached by parents. Assumes nothing.
use mathlib.Core.Path.{◌≡◌, refl, sym, ◌∙◌}
use mathlib.Core.List.{List}
use Prim.Native.Nat.{ℕ, ◌≤◌, ◌<◌}
use native.Mathlib.Omega.{arith}
use lib.ListN.{get_or}
use Rattle.cs_tree.specs.Tree.{root}

pub data Reach (par : List ℕ) : ℕ → ℕ → Type 0 where
  here : {i m : ℕ} → i ≡ m → Reach par i m
  up : {i m : ℕ} (j : ℕ) → get_or par i root ≡ j → i < j → j < root → Reach par j m → Reach par i m

pub reach_le : {par : List ℕ} {i m : ℕ} → Reach par i m → i ≤ m
reach_le (here e) = omega arith
reach_le (up j e l h r) = let q = reach_le r in omega arith

pub reach_trans : {par : List ℕ} {i j m : ℕ} → Reach par i j → Reach par j m → Reach par i m
reach_trans (here e) q = rw e q
reach_trans (up j e l h r) q = up j e l h (reach_trans r q)

pub reach_mono : (par par' : List ℕ) → ((i : ℕ) → get_or par i root < root → get_or par' i root ≡ get_or par i root) → {i m : ℕ} → Reach par i m →
    Reach par' i m
reach_mono par par' f (here e) = here e
reach_mono par par' f (up {i = i} j e l h r) = up j (f i (rw e h) ∙ e) l h (reach_mono par par' f r)

-- the path from one node is one chain
pub reach_split : {par : List ℕ} {s i j : ℕ} → Reach par s i → Reach par s j → i ≤ j → Reach par i j
reach_split (here e) q l = rw e at q
reach_split (up j e l h r) (here e') le = let q = reach_le r in absurd (omega arith)
reach_split (up j e l h r) (up j' e' l' h' r') le = reach_split r (rw (sym e' ∙ e) at r') le

-- the first step of a path that has one
pub reach_first : {par : List ℕ} {i m : ℕ} → Reach par i m → i < m → (i < get_or par i root) × (get_or par i root < root) ×
    Reach par (get_or par i root) m
reach_first (here e) l = absurd (omega arith)
reach_first (up j e l h r) lt = (rw e l, rw e h, rw e r)

pub reach_snoc : {par : List ℕ} {i j : ℕ} (m : ℕ) → Reach par i j → get_or par j root ≡ m → j < m → m < root → Reach par i m
reach_snoc m r e l h = reach_trans r (up m e l h (here refl))

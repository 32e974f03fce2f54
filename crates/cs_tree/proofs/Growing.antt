-- The tree, column by column: its loop's invariant, and what is known of the tree at each place. Assumes nothing.
use mathlib.Core.Path.{◌≡◌, ap, ◌∙◌}
use mathlib.Core.List.{List, []}
use mathlib.Core.Logic.{⊎_elim}
use Prim.Native.Nat.{ℕ, ◌+◌, ◌≤◌, ◌<◌}
use native.Mathlib.Numerals.{add-one}
use native.Mathlib.Omega.{arith}
use lib.ListN.{length, get_or, replicate}
use Rattle.lists.specs.Calls.{cleared}
use Rattle.lists.proofs.Clearing.{cleared-all}
use Rattle.lists.proofs.Bools.{eq-or-ne}
use Rattle.lists.proofs.Members.{get_d_any}
use Rattle.cs_tree.specs.Tree.{root, Forest, forest, climbs, tree_to, tree}
use Rattle.cs_tree.specs.Steps.{Above, Climbs}
use Rattle.cs_tree.proofs.Rows.{tree_good}
use Rattle.cs_tree.proofs.Tree.{tree-done}

-- a link that rises, where there is one, is above
above_of : (l : List ℕ) → length l ≤ root → ((i : ℕ) → (get_or l i root ≡ root → ⊥) → i < get_or l i root) → Above l
above_of l s h = record { up = at }
  where
    at : (i : ℕ) → i < length l → i < get_or l i 0
    at i m =
        ⊎_elim
        (λ (e : get_or l i root ≡ root). omega (arith, get_d_any l i root 0 m))
        (λ (e : get_or l i root ≡ root → ⊥). omega (arith, h i e, get_d_any l i root 0 m))
        (eq-or-ne (get_or l i root) root)

-- the columns below k are done
pub record Growing (cols : List (List ℕ)) (par anc : List ℕ) (k : ℕ) : Type 0 where
  pub fits : length cols ≤ root
  pub within : k ≤ length cols
  pub is : forest par anc ≡ tree_to cols k

pub growing_start : (cols : List (List ℕ)) {n : ℕ} (p a : List ℕ) {par anc : List ℕ} → length cols ≤ root → n ≡ length cols → length p ≡ n →
    length a ≡ n → par ≡ cleared 4294967295 n p → anc ≡ cleared 4294967295 n a → Growing cols par anc 0
unfolding root tree_to
growing_start cols {n} p a h l b c e f =
    let x : replicate n root ≡ replicate (length cols) root = ap (λ (k : ℕ). replicate k root) l in
    let y = e ∙ cleared-all root n p b ∙ x in
    let z = f ∙ cleared-all root n a c ∙ x in
    record { fits = h; within = omega arith; is = rw (y, z) }

module _ {cols : List (List ℕ)} {par anc : List ℕ} {k : ℕ} (v : Growing cols par anc k) where
  pub par_long : length par ≡ length cols
  par_long = ap (λ (s : Forest). length s.parent) v.is ∙ (tree-done cols k v.within (omega (arith, v.within, v.fits))).sound.len_p

  pub anc_long : length anc ≡ length cols
  anc_long = ap (λ (s : Forest). length s.anc) v.is ∙ (tree-done cols k v.within (omega (arith, v.within, v.fits))).sound.len_a

  anc_above : Above anc
  anc_above =
      above_of anc (omega (arith, anc_long, v.fits))
      (λ i e. let q = ap (λ (s : Forest). get_or s.anc i root) v.is in
      rw q ((tree-done cols k v.within (omega (arith, v.within, v.fits))).sound.jump i (rw q at e)).0)

  pub growing_asks : k < length cols → Climbs k par anc
  growing_asks h = record { p_long = omega (arith, par_long); a_long = omega (arith, anc_long); above = anc_above }

  pub growing_turn : {rows par1 anc1 : List ℕ} → k < length cols → rows ≡ get_or cols k [] → forest par1 anc1 ≡ climbs k rows (forest par anc) →
      Growing cols par1 anc1 (k + 1)
  unfolding tree_to
  growing_turn h e f = record { fits = v.fits; within = omega arith; is = rw add-one (f ∙ (rw (e, v.is))) }

  pub growing_done : length cols ≤ k → par ≡ tree cols
  unfolding tree
  growing_done h = let e : k ≡ length cols = omega (arith, v.within) in ap (λ (s : Forest). s.parent) (v.is ∙ ap (tree_to cols) e)

module _ (cols : List (List ℕ)) (fits : length cols ≤ root) where
  -- the whole tree
  pub tree_long : length (tree cols) ≡ length cols
  tree_long = (tree_good cols fits).size

  pub tree-above : Above (tree cols)
  tree-above = above_of (tree cols) (omega (arith, tree_long)) (λ i e. ((tree_good cols fits).rises i e).0)

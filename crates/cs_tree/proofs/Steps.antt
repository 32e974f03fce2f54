-- The definitions' tests, turned into equations: one lemma a case. Assumes nothing.
use mathlib.Core.Path.{◌≡◌, refl}
use mathlib.Core.Logic.{◌⊎◌, inl, inr, ◌≢◌}
use mathlib.Core.Bool.{Bool, true, false, not}
use mathlib.Core.List.{List, [], ◌∷◌}
use Prim.Native.Nat.{ℕ, zero, suc, ◌≤◌, ◌<◌}
use native.Mathlib.Decide.{ℕ_discrete}
use lib.ListN.{get_or, set, length}
use lib.Seq.{get_or-set_same, get_or-set_other}
use lib.Dec.{T, ltb, leb, eqb}
use mir.Facts.{yes_ltb, no_ltb, yes_leb, no_leb, yes_eqb, no_eqb}
use Rattle.lists.specs.Order.{lists}
use Rattle.cs_tree.specs.Tree.{root, Forest, climb}
use Rattle.cs_tree.specs.Pattern.{path}

is_true : (b : Bool) → T b → b ≡ true
is_true true t = refl
is_true false t = absurd t

is_false : (b : Bool) → T (not b) → b ≡ false
is_false true t = absurd t
is_false false t = refl

pub climb_stop : (f k i : ℕ) (s : Forest) → k ≤ i → climb f k i s ≡ s
unfolding climb
climb_stop zero k i s h = refl
climb_stop (suc f) k i s h = rw (is_false (ltb i k) (no_ltb h), climb)

pub climb-root : (f k i : ℕ) (s : Forest) → i < k → get_or s.anc i root ≡ root → climb (suc f) k i s
    ≡ record { parent = set s.parent i k; anc = set s.anc i k }
unfolding climb
climb-root f k i s h e = rw (is_true (ltb i k) (yes_ltb h), is_true (eqb (get_or s.anc i root) root) (yes_eqb e), climb)

pub climb_on : (f k i : ℕ) (s : Forest) → i < k → get_or s.anc i root ≢ root
    → climb (suc f) k i s ≡ climb f k (get_or s.anc i root) (record { parent = s.parent; anc = set s.anc i k })
unfolding climb
climb_on f k i s h e = rw (is_true (ltb i k) (yes_ltb h), is_false (eqb (get_or s.anc i root) root) (no_eqb e), climb)

-- get_or after set, by one test of the index
pub get_d_set : (l : List ℕ) (i j a d : ℕ) → i < length l →
    ((j ≡ i) × (get_or (set l i a) j d ≡ a)) ⊎ ((j ≢ i) × (get_or (set l i a) j d ≡ get_or l j d))
get_d_set l i j a d h = elim (ℕ_discrete j i) [ yes e ↦ inl (e, rw e (get_or-set_same l i a d h)) | no n ↦ inr (n, get_or-set_other l i j a d n) ]

-- ---- paths

pub path-over : (f : ℕ) (par : List ℕ) (k i : ℕ) (seen : List ℕ) → k < i → path f par k i seen ≡ []
unfolding path
path-over zero par k i seen h = refl
path-over (suc f) par k i seen h = rw (is_false (leb i k) (no_leb h), path)

pub path_seen : (f : ℕ) (par : List ℕ) (k i : ℕ) (seen : List ℕ) → i ≤ k → lists i seen ≡ true → path f par k i seen ≡ []
unfolding path
path_seen zero par k i seen h e = refl
path_seen (suc f) par k i seen h e = rw (is_true (leb i k) (yes_leb h), e, path)

pub path_new : (f : ℕ) (par : List ℕ) (k i : ℕ) (seen : List ℕ) → i ≤ k → lists i seen ≡ false
    → path (suc f) par k i seen ≡ i ∷ path f par k (get_or par i root) seen
unfolding path
path_new f par k i seen h e = rw (is_true (leb i k) (yes_leb h), e, path)

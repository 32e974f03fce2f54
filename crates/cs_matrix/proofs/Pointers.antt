-- Pointers: the steps of their test, what it says, and where a column lies. Assumes nothing.
use mathlib.Core.Path.{◌≡◌}
use mathlib.Core.Bool.{Bool, true, false, ◌&&◌}
use mathlib.Core.List.{List}
use Prim.Native.Nat.{ℕ, ◌+◌, ◌-◌, ◌≤◌, ◌<◌}
use native.Mathlib.Omega.{arith}
use lib.Dec.{leb, eqb}
use lib.ListN.{length, get_or}
use borrow.Author.Tests.{eq-eqb, ne_eqb, leb-true, eqb-true}
use Rattle.lists.specs.Folds.{every}
use Rattle.lists.specs.Parts.{part}
use Rattle.lists.proofs.Bools.{and-true}
use Rattle.lists.proofs.Folds.{every-at}
use Rattle.lists.proofs.Ordering.{steps-climb}
use Rattle.lists.proofs.Parts.{length_part, get_d_part}
use Rattle.cs_matrix.specs.Matrix.{pointers, Pointers, column}

-- none falls at k
abbrev pub climbs_at : List ℕ → ℕ → Bool
climbs_at p k = leb (get_or p k 0) (get_or p (k + 1) 0)

-- ---- the three tests, in the order in which they are made
pub pointers-first : (p : List ℕ) (n : ℕ) → (get_or p 0 0 ≡ 0 → ⊥) → false ≡ pointers p n
unfolding pointers
pointers-first p n h = simp (ne_eqb (get_or p 0 0) 0 h)

pub pointers-last : (p : List ℕ) (n : ℕ) → get_or p 0 0 ≡ 0 → (get_or p (length p - 1) 0 ≡ n → ⊥) → false ≡ pointers p n
unfolding pointers
pointers-last p n e h = simp (eq-eqb (get_or p 0 0) 0 e, ne_eqb (get_or p (length p - 1) 0) n h)

pub pointers-rest : (p : List ℕ) (n : ℕ) → get_or p 0 0 ≡ 0 → get_or p (length p - 1) 0 ≡ n → every (length p - 1) (climbs_at p) ≡ pointers p n
unfolding pointers
pointers-rest p n e f = simp (eq-eqb (get_or p 0 0) 0 e, eq-eqb (get_or p (length p - 1) 0) n f)

-- the test says what the record says
pub pointers_mean : (p : List ℕ) (n : ℕ) → pointers p n ≡ true → Pointers p n
unfolding pointers
pointers_mean p n h =
    let q = and-true (eqb (get_or p 0 0) 0 && eqb (get_or p (length p - 1) 0) n) _ h in
    let r = and-true (eqb (get_or p 0 0) 0) _ q.0 in
    record {
      first = eqb-true (get_or p 0 0) 0 r.0;
      last = eqb-true (get_or p (length p - 1) 0) n r.1;
      climbs = λ k l. leb-true (get_or p k 0) (get_or p (k + 1) 0) (every-at _ _ q.1 k l);
    }

-- ---- valid pointers
module _ {p : List ℕ} {n : ℕ} (v : Pointers p n) where
  -- a later pointer is not below an earlier one
  pub climb : (a b : ℕ) → a ≤ b → b < length p → get_or p a 0 ≤ get_or p b 0
  climb a b h l = steps-climb (length p - 1) p v.climbs a b h (omega arith)

  -- none is above the entry count
  pub at_most : (k : ℕ) → k < length p → get_or p k 0 ≤ n
  at_most k l = omega (arith, climb k (length p - 1) (omega arith) (omega arith), v.last)

  -- with cols + 1 pointers, the last is at cols
  pub last-at : (ncols : ℕ) → length p ≡ ncols + 1 → get_or p ncols 0 ≡ n
  last-at ncols e = let f : length p - 1 ≡ ncols = omega arith in rw f at v.last

-- ---- a column, handed on as the part between its two pointers a and e
pub record Between (p : List ℕ) (n j a e : ℕ) : Type 0 where
  pub order : a ≤ e
  pub inside : e ≤ n
  pub starts : a ≡ get_or p j 0
  pub ends : e ≡ get_or p (j + 1) 0

pub between : {p : List ℕ} {n ncols j a e : ℕ} → Pointers p n → length p ≡ ncols + 1 → j < ncols → a ≡ get_or p j 0 → e ≡ get_or p (j + 1) 0 →
    Between p n j a e
between {p = p} {j = j} v l h f g = record {
  order = omega (arith, v.climbs j (omega arith));
  inside = omega (arith, at_most v (j + 1) (omega arith));
  starts = f;
  ends = g;
}

module _ {A : Type 0} {p : List ℕ} {n j a e : ℕ} (b : Between p n j a e) (l : List A) where
  pub column-is : part a e l ≡ column p j l
  unfolding column
  column-is = rw (b.starts, b.ends)

module _ {A : Type 0} (p : List ℕ) (j : ℕ) (l : List A) where
  pub length-column : get_or p (j + 1) 0 ≤ length l → length (column p j l) ≡ get_or p (j + 1) 0 - get_or p j 0
  unfolding column
  length-column h = length_part (get_or p j 0) (get_or p (j + 1) 0) l h

  pub get_or-column : (k : ℕ) (d : A) → k < get_or p (j + 1) 0 - get_or p j 0 → get_or (column p j l) k d ≡ get_or l (get_or p j 0 + k) d
  unfolding column
  get_or-column k d h = get_d_part (get_or p j 0) (get_or p (j + 1) 0) l k d h

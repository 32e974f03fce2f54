-- The loops of `mark_ends` and of `raise`, and the pointers that they leave where the columns never fall. Assumes nothing.
use mathlib.Core.Path.{◌≡◌, sym, ap, ◌∙◌}
use mathlib.Core.List.{List, [], ◌++◌}
use mathlib.Core.Logic.{⊎_elim}
use Prim.Native.Nat.{ℕ, zero, suc, ◌+◌, ◌-◌, ◌≤◌, ◌<◌, max}
use native.Mathlib.Nat.{eq-or-lt_of_le}
use native.Mathlib.Numerals.{add-one}
use native.Mathlib.Omega.{arith}
use lib.ListN.{length, get_or, take, drop, get_or-append}
use Rattle.lists.specs.Calls.{onto, cleared}
use Rattle.lists.specs.Keys.{of_key, by_key}
use Rattle.lists.specs.Tables.{table}
use Rattle.lists.proofs.Bools.{eq-or-ne}
use Rattle.lists.proofs.Keys.{start-more}
use Rattle.lists.proofs.Ordered.{first_below}
use Rattle.lists.proofs.Parts.{front}
use Rattle.lists.proofs.Sorting.{key-none}
use Rattle.lists.proofs.Tables.{length-table, is-table}
use Rattle.cs_conversion.specs.InOrder.{Climbing, Placed, Ends, highest, Raised}
use Rattle.cs_conversion.proofs.Columns.{cleared_long, kept-once}

-- ---- mark_ends, after k triplets
pub record Ending (cols p₀ p : List ℕ) (k : ℕ) : Type 0 where
  pub ask : Placed (length p₀) cols
  pub long : length p ≡ length p₀
  pub within : k ≤ length cols
  pub ends : Ends k cols p

-- ---- raise
pub record Raising (p₀ p : List ℕ) (high k : ℕ) : Type 0 where
  pub long : length p ≡ length p₀
  pub within : k ≤ length p₀
  pub done : (q : ℕ) → q < k → get_or p q 0 ≡ highest p₀ (suc q)
  pub rest : (q : ℕ) → k ≤ q → get_or p q 0 ≡ get_or p₀ q 0
  pub top : high ≡ highest p₀ k

-- ---- where each column starts
module _ {cols p : List ℕ} (o : Climbing cols) (e : Ends (length cols) cols p) where
  abbrev G : ℕ → ℕ
  G c = length (by_key c cols cols)

  -- a column without triplets
  none : (c : ℕ) → get_or p (c + 1) 0 ≡ 0 → G (suc c) ≡ G c
  none c z =
      let n : of_key c cols cols ≡ [] = key-none c cols cols (λ k l f. let m = rw f at (e.last k l) in omega (arith, m, z)) in
      omega (arith, start-more cols cols c, ap length n)

  -- and one that has some: they end where the last of them stands
  some : (c : ℕ) → 0 < get_or p (c + 1) 0 → G (suc c) ≡ get_or p (c + 1) 0
  some c l =
      let q = get_or p (c + 1) 0 in
      let s = e.some c l in
      first_below (suc c) cols q s.0
      (λ k m.
      ⊎_elim
      (λ (f : k ≡ q - 1). rw f (omega (arith, s.1)))
      (λ (f : k < q - 1). omega (arith, s.1, o.climbs k (q - 1) f (omega (arith, s.0))))
      (eq-or-lt_of_le (omega arith)))
      (λ k m n.
      ⊎_elim
      (λ (f : get_or cols k 0 ≡ c). let r = rw f at (e.last k n) in absurd (omega arith))
      (λ (f : get_or cols k 0 ≡ c → ⊥). omega (arith, f, s.1, o.climbs (q - 1) k (omega arith) n))
      (eq-or-ne (get_or cols k 0) c))

  end : (c : ℕ) → G (suc c) ≡ max (G c) (get_or p (c + 1) 0)
  end c =
      ⊎_elim
      (λ (z : 0 ≡ get_or p (c + 1) 0). omega (arith, none c (sym z)))
      (λ (l : 0 < get_or p (c + 1) 0). omega (arith, some c l, start-more cols cols c))
      (eq-or-lt_of_le (omega arith))

  starts-at : (c : ℕ) → highest p (suc c) ≡ G c
  unfolding highest by_key
  starts-at zero = omega (arith, e.first)
  starts-at (suc c) = let z : get_or p (c + 1) 0 ≡ get_or p (suc c) 0 = rw (add-one c) in omega (arith, starts-at c, end c, z)

  pub starts_are : {n : ℕ} {r : List ℕ} → length p ≡ n → Raised p r → r ≡ table n G
  starts_are {n = n} {r = r} l u = is-table 0 n G r (u.long ∙ l) (λ k h. u.high k (omega (arith, l)) ∙ starts-at k)

-- ---- in the front of the slice that is lent
module _ {m : ℕ} (d cols : List ℕ) {p : List ℕ} (z : p ≡ cleared 0 m d) (l : m ≤ length d) where
  pub lent_placed : Placed m cols → Placed (length (take m p)) cols
  lent_placed a = let e : length (take m p) ≡ m = sym (cleared_long d z l) in rw e a

  pub pointers_are : (ys : List ℕ) → length ys ≡ length (take m p) → ys ≡ table (length (take m p)) (λ c. length (by_key c cols cols)) →
      ys ++ drop m p ≡ onto d (table m (λ c. length (by_key c cols cols)))
  pointers_are ys e f =
      let t : length (take m p) ≡ m = sym (cleared_long d z l) in
      let k = kept-once d z l ys e in
      let n = length-table m (λ c. length (by_key c cols cols)) in
      let g : ys ≡ table m (λ c. length (by_key c cols cols)) = rw t at f in
      front 0 (table m (λ c. length (by_key c cols cols))) (ys ++ drop m p) d (omega (arith, n)) k.long
      (λ q h. get_or-append ys (drop m p) 0 q (omega (arith, e, t, n)) ∙ ap (λ (x : List ℕ). get_or x q 0) g)
      (λ q h. k.rest q (omega (arith, n)))

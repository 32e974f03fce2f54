-- The loops of src/mirror.rt. Assumes nothing.
use mathlib.Core.Path.{◌≡◌, refl, sym, ap, ◌∙◌}
use mathlib.Core.Bool.{Bool, true, false, cond, ◌&&◌}
use mathlib.Core.List.{List, Memᴰ}
use mathlib.Core.Logic.{inr, ⊎_elim}
use Prim.Native.Nat.{ℕ, ◌+◌, ◌-◌, ◌≤◌, ◌<◌}
use native.Mathlib.Omega.{arith}
use lib.Dec.{ltb, eqb}
use lib.ListN.{length, get_or, set}
use lib.Seq.{get_or-set_same, get_or-set_other}
use borrow.Author.Tests.{lt-ltb, le-ltb, eq-eqb, ne_eqb, eqb-true}
use Rattle.lists.proofs.Bools.{le-or-lt, eq-or-ne, and-false}
use Rattle.lists.proofs.Spots.{member_at}
use Rattle.cs_matrix.specs.Matrix.{column}
use Rattle.cs_matrix.proofs.Pointers.{length-column, get_or-column}
use Rattle.cs_left.specs.Steps.{Within, Rises, Met, Mirrors, Meets, meet_at}

-- ---- `meet`
module _ (c r : ℕ) (p i next : List ℕ) {s e : ℕ} (f : s ≡ get_or next r 0) (g : e ≡ get_or p (r + 1) 0) where
  pub meet_end : e ≤ s → next ≡ meet_at c p i r next
  unfolding meet_at
  meet_end h = rw (← f, ← g, le-ltb s e h)

  module _ (h : s < e) {z : ℕ} (d : z ≡ get_or i s 0) where
    pub meet_other : (z ≡ c → ⊥) → next ≡ meet_at c p i r next
    unfolding meet_at
    meet_other n = rw (← f, ← g, ← d, ne_eqb z c n, and-false (ltb s e))

    pub meet_is : z ≡ c → set next r (get_or next r 0 + 1) ≡ meet_at c p i r next
    unfolding meet_at
    meet_is n = rw (← f, ← g, ← d, lt-ltb s e h, eq-eqb z c n)

-- what is met by row r of column c is met
mirrors_met : {c r : ℕ} {p i : List ℕ} (next : List ℕ) → Memᴰ r (column p c i) → r < length next → Mirrors c p i next →
    Mirrors c p i (meet_at c p i r next)
unfolding meet_at
mirrors_met {c} {r} {p} {i} next m l w = record {
  met = λ k y a b d. go (ltb (get_or next r 0) (get_or p (r + 1) 0))
      (eqb (get_or i (get_or next r 0) 0) c) refl k y a b d;
}
  where
    at_r : (k y : ℕ) → k ≡ r → get_or i (get_or next r 0) 0 ≡ c → k < c → get_or p k 0 ≤ y → y < get_or next r 0 + 1 → Met p i k (get_or i y 0)
    at_r k y e n f g h =
        ⊎_elim
        (λ (z : get_or next r 0 ≤ y). (let u : y ≡ get_or next r 0 = omega arith in inr (rw (e, u, n) m)))
        (λ (z : y < get_or next r 0). w.met k y f g (rw e z))
        (le-or-lt (get_or next r 0) y)

    go : (a b : Bool) → eqb (get_or i (get_or next r 0) 0) c ≡ b → (k y : ℕ) → k < c → get_or p k 0 ≤ y →
        y < get_or (cond (a && b) (set next r (get_or next r 0 + 1)) next) k 0 → Met p i k (get_or i y 0)
    go true true e k y f g h =
        ⊎_elim
        (λ (d : k ≡ r). at_r k y d (eqb-true (get_or i (get_or next r 0) 0) c e) f g (rw (d, get_or-set_same next r (get_or next r 0 + 1) 0 l) at h))
        (λ (d : k ≡ r → ⊥). w.met k y f g (rw (get_or-set_other next r k (get_or next r 0 + 1) 0 d) at h))
        (eq-or-ne k r)
    go true false e k y f g h = w.met k y f g h
    go false b e k y f g h = w.met k y f g h

-- column c walked
-- ---- `meet_rows`
pub record Walking (c : ℕ) (p i next₀ next : List ℕ) (q : ℕ) : Type 0 where
  pub asks : Meets c p i next₀
  pub long : length next ≡ length next₀
  pub mirrors : Mirrors c p i next
  pub low : get_or p c 0 ≤ q
  pub high : q ≤ get_or p (c + 1) 0
  pub above : (y : ℕ) → get_or p c 0 ≤ y → y < q → get_or i y 0 ≤ c

module _ {c : ℕ} {p i next₀ next : List ℕ} {q : ℕ} (w : Walking c p i next₀ next q) where
  module _ (h : q < get_or p (c + 1) 0) where
    module _ {r : ℕ} (e : r ≡ get_or i q 0) (g : r ≤ c) where
      pub walking_meets : Within r p i × (r < length next)
      walking_meets = (w.asks.rises.each r (omega (arith, w.asks.here)), omega (arith, w.asks.here, w.asks.room, w.long))

      stored : Memᴰ r (column p c i)
      stored =
          let d : q - get_or p c 0 < get_or p (c + 1) 0 - get_or p c 0 = omega (arith, w.low) in
          let u : get_or p c 0 + (q - get_or p c 0) ≡ q = omega (arith, w.low) in
          let v : get_or (column p c i) (q - get_or p c 0) 0 ≡ r = get_or-column p c i (q - get_or p c 0) 0 d ∙ ap (λ (y : ℕ). get_or i y 0) u ∙
          sym e in
          rw v at (member_at (column p c i) (q - get_or p c 0) (omega (arith, length-column p c i (w.asks.rises.each c w.asks.here).inside)))

      pub walking_turn : {next1 : List ℕ} → length next1 ≡ length next → next1 ≡ meet_at c p i r next → Walking c p i next₀ next1 (q + 1)
      walking_turn l f = record {
        asks = w.asks;
        long = l ∙ w.long;
        mirrors = rw f (mirrors_met next stored walking_meets.1 w.mirrors);
        low = omega (arith, w.low);
        high = omega arith;
        above = λ y a b. ⊎_elim (λ (z : q ≤ y). (let u : y ≡ q = omega arith in rw u (omega arith))) (λ (z : y < q). w.above y a z) (le-or-lt q y);
      }

-- ---- `meet_columns`
pub record Crossed (n : ℕ) (p i next₀ next : List ℕ) (c : ℕ) : Type 0 where
  pub rises : Rises n p i
  pub room : length next₀ ≡ n
  pub long : length next ≡ length next₀
  pub within : c ≤ n
  pub mirrors : Mirrors c p i next

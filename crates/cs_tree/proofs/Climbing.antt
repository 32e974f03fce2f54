-- The loops of a tree's column: the climb from one row, then row by row. Assumes nothing.
use mathlib.Core.Path.{◌≡◌, refl, sym, ap, ◌∙◌}
use mathlib.Core.List.{List}
use mathlib.Core.Logic.{⊎_elim}
use Prim.Native.Nat.{ℕ, zero, suc, ◌+◌, ◌-◌, ◌≤◌, ◌<◌}
use native.Mathlib.Omega.{arith}
use lib.ListN.{length, get_or, set, length-set}
use lib.Seq.{get_or-set_same, get_or-set_other}
use Rattle.lists.proofs.Bools.{eq-or-ne}
use Rattle.lists.proofs.Members.{get_d_any}
use Rattle.lists.proofs.Folds.{Along, along-turn, along-end}
use Rattle.cs_tree.specs.Tree.{root, forest, climb, climbs}
use Rattle.cs_tree.specs.Steps.{Above, Climbs}
use Rattle.cs_tree.proofs.Steps.{climb_stop, climb-root, climb_on}

-- a store of k at i < k
above-set : {a : List ℕ} (k i : ℕ) → Above a → i < k → Above (set a i k)
above-set {a = a} k i v h = record { up = at }
  where
    at : (j : ℕ) → j < length (set a i k) → j < get_or (set a i k) j 0
    at j l =
        let l1 : j < length a = omega (arith, length-set a i k) in
        ⊎_elim
        (λ (e : j ≡ i). rw (e, get_or-set_same a i k 0 (omega arith)) h)
        (λ (e : j ≡ i → ⊥). rw (get_or-set_other a i j k 0 e) (v.up j l1))
        (eq-or-ne j i)

-- ---- the climb from i₀, at i now
pub record Climbing (k : ℕ) (t₀ a₀ t a : List ℕ) (i₀ i : ℕ) : Type 0 where
  pub asks : Climbs k t a
  pub t_same : length t ≡ length t₀
  pub a_same : length a ≡ length a₀
  pub fuel : ℕ
  pub enough : k - i ≤ fuel
  pub goes : climb fuel k i (forest t a) ≡ climb k k i₀ (forest t₀ a₀)

more_fuel : (f n : ℕ) → n ≤ f → 0 < n → (g : ℕ) × (f ≡ suc g)
more_fuel zero n h p = absurd (omega arith)
more_fuel (suc g) n h p = (g, refl)

-- it has ended, at an index without ancestor or at k
pub record Climbed (k : ℕ) (t₀ a₀ t a : List ℕ) (i₀ : ℕ) : Type 0 where
  pub asks : Climbs k t a
  pub t_same : length t ≡ length t₀
  pub a_same : length a ≡ length a₀
  pub is : forest t a ≡ climb k k i₀ (forest t₀ a₀)

module _ {k : ℕ} {t₀ a₀ t a : List ℕ} {i₀ i : ℕ} (v : Climbing k t₀ a₀ t a i₀ i) where
  module _ (h : i < k) where
    in_a : i < length a
    in_a = omega (arith, v.asks.a_long)

    -- the noted ancestor is higher
    pub climbing_up : i < get_or a i 0
    climbing_up = v.asks.above.up i in_a

    same : get_or a i root ≡ get_or a i 0
    same = get_d_any a i root 0 in_a

    stored : Climbs k t (set a i k)
    stored = record { p_long = v.asks.p_long; a_long = rw length-set v.asks.a_long; above = above-set k i v.asks.above h }

    pub climbing_next : {n : ℕ} → (get_or a i 0 ≡ 4294967295 → ⊥) → n ≡ get_or a i 0 → Climbing k t₀ a₀ t (set a i k) i₀ n
    unfolding root
    climbing_next r e =
        let m = more_fuel v.fuel (k - i) v.enough (omega arith) in
        let g = v.goes in
        let s = climb_on m.0 k i (forest t a) h (λ z. r (sym same ∙ z)) in
        record {
          asks = stored;
          t_same = v.t_same;
          a_same = length-set a i k ∙ v.a_same;
          fuel = m.0;
          enough = omega (arith, climbing_up, m.1, v.enough);
          goes = rw e ((rw same at (sym s)) ∙ (rw m.1 at g));
        }

    pub climbing_root : get_or a i 0 ≡ 4294967295 → Climbed k t₀ a₀ (set t i k) (set a i k) i₀
    unfolding root
    climbing_root r =
        let m = more_fuel v.fuel (k - i) v.enough (omega arith) in
        let g = v.goes in
        record {
          asks = record { p_long = rw length-set v.asks.p_long; a_long = stored.a_long; above = stored.above };
          t_same = length-set t i k ∙ v.t_same;
          a_same = length-set a i k ∙ v.a_same;
          is = sym (climb-root m.0 k i (forest t a) h (same ∙ r)) ∙ (rw m.1 at g);
        }

  pub climbing_end : k ≤ i → Climbed k t₀ a₀ t a i₀
  climbing_end h = record { asks = v.asks; t_same = v.t_same; a_same = v.a_same; is = sym (climb_stop v.fuel k i (forest t a) h) ∙ v.goes }

-- ---- row by row
pub record Rows (k : ℕ) (rows t₀ a₀ t a : List ℕ) (q : ℕ) : Type 0 where
  pub asks : Climbs k t a
  pub t_same : length t ≡ length t₀
  pub a_same : length a ≡ length a₀
  pub is : Along (climb k k) rows (forest t₀ a₀) (forest t a) q

pub rows-turn : {k : ℕ} {rows t₀ a₀ t a t1 a1 : List ℕ} {q i : ℕ} → Rows k rows t₀ a₀ t a q → q < length rows → i ≡ get_or rows q 0 →
    Climbed k t a t1 a1 i → Rows k rows t₀ a₀ t1 a1 (q + 1)
rows-turn {k = k} {rows = rows} {t = t} {a = a} v h e w =
    record {
      asks = w.asks;
      t_same = w.t_same ∙ v.t_same;
      a_same = w.a_same ∙ v.a_same;
      is = along-turn (climb k k) rows 0 v.is h (w.is ∙ ap (λ (n : ℕ). climb k k n (forest t a)) e);
    }

pub rows-done : {k : ℕ} {rows t₀ a₀ t a : List ℕ} {q : ℕ} → Rows k rows t₀ a₀ t a q → length rows ≤ q → forest t a ≡ climbs k rows (forest t₀ a₀)
unfolding climbs
rows-done {k = k} {rows = rows} v h = along-end (climb k k) rows v.is h

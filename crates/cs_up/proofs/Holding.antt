-- L's values column by column, as they lie: one more in a column, and one column more. Assumes nothing.
use mathlib.Core.List.{List, [], ◌∷◌, ◌++◌}
use mathlib.Core.Logic.{◌⊎◌, ⊎_elim, inl, ◌≢◌}
use mathlib.Core.Path.{◌≡◌, refl, sym, ◌∙◌}
use Prim.Native.Nat.{ℕ, ◌+◌, ◌-◌, ◌≤◌, ◌<◌}
use native.Mathlib.Omega.{arith}
use lib.Ieee.{Float}
use lib.ListN.{length, get_or, set, length-set, length-append, get_or-append}
use lib.Seq.{ext_get_or, get_or-set_same, get_or-set_other, get_or_at}
use Rattle.lists.specs.Parts.{part}
use Rattle.lists.proofs.Bools.{eq-or-ne, le-or-lt}
use Rattle.lists.proofs.Pushing.{part-push, part_apart}
use Rattle.lists.proofs.Tables.{length-table, get_or-table}
use Rattle.cs_up.specs.Steps.{held}

module _ (k : ℕ) (lp next : List ℕ) (lx : List Float) where
  pub length-held : length (held k lp next lx) ≡ k
  unfolding held
  length-held = length-table k (λ j. part (get_or lp j 0) (get_or next j 0) lx)

  pub held_at : (j : ℕ) → j < k → get_or (held k lp next lx) j [] ≡ part (get_or lp j 0) (get_or next j 0) lx
  unfolding held
  held_at j h = get_or-table k (λ j. part (get_or lp j 0) (get_or next j 0) lx) j [] h

-- one more value of column j, at e
module _ (k j e : ℕ) (lp next : List ℕ) (lx : List Float) (t : Float) (h : j < k) (n : j < length next) (s : get_or next j 0 ≡ e)
    (l : get_or lp j 0 ≤ e) (g : e < length lx)
    (apart : (i : ℕ) → i < k → i ≢ j → (get_or next i 0 ≤ e) ⊎ (e < get_or lp i 0)) where
  pub held-push : held k lp (set next j (e + 1)) (set lx e t) ≡ set (held k lp next lx) j (part (get_or lp j 0) e lx ++ (t ∷ []))
  held-push =
      ext_get_or [] (held k lp (set next j (e + 1)) (set lx e t)) (set (held k lp next lx) j pushed)
      (length-held k lp (set next j (e + 1)) (set lx e t) ∙ sym (length-set (held k lp next lx) j pushed ∙ length-held k lp next lx))
      (λ i m. at i (omega (arith, length-held k lp (set next j (e + 1)) (set lx e t))))
    where
      pushed : List Float
      pushed = part (get_or lp j 0) e lx ++ (t ∷ [])

      same : part (get_or lp j 0) (get_or (set next j (e + 1)) j 0) (set lx e t) ≡ pushed
      same = rw (get_or-set_same next j (e + 1) 0 n) (part-push (get_or lp j 0) e lx t l g)

      at : (i : ℕ) → i < k → get_or (held k lp (set next j (e + 1)) (set lx e t)) i [] ≡ get_or (set (held k lp next lx) j pushed) i []
      at i m =
          held_at k lp (set next j (e + 1)) (set lx e t) i m
          ∙ ⊎_elim
          (λ (q : i ≡ j). rw q (same ∙ sym (get_or-set_same (held k lp next lx) j pushed [] (omega (arith, length-held k lp next lx)))))
          (λ (q : i ≡ j → ⊥).
          rw (get_or-set_other next j i (e + 1) 0 q)
          (part_apart (get_or lp i 0) (get_or next i 0) e lx t (apart i m q) ∙
          sym (get_or-set_other (held k lp next lx) j i pushed [] q ∙ held_at k lp next lx i m)))
          (eq-or-ne i j)

-- one more column, of one value
module _ (k s : ℕ) (lp next : List ℕ) (lx : List Float) (d : Float) (n : k < length next) (e : get_or lp k 0 ≡ s) (g : s < length lx)
    (apart : (i : ℕ) → i < k → get_or next i 0 ≤ s) where
  pub held_more : held (k + 1) lp (set next k (s + 1)) (set lx s d) ≡ held k lp next lx ++ ((d ∷ []) ∷ [])
  held_more =
      ext_get_or [] (held (k + 1) lp (set next k (s + 1)) (set lx s d)) (held k lp next lx ++ ((d ∷ []) ∷ []))
      (length-held (k + 1) lp (set next k (s + 1)) (set lx s d) ∙
      sym (length-append (held k lp next lx) ((d ∷ []) ∷ []) ∙ (rw (length-held k lp next lx) refl)))
      (λ i m. let b : i < k + 1 = omega (arith, length-held (k + 1) lp (set next k (s + 1)) (set lx s d)) in
      held_at (k + 1) lp (set next k (s + 1)) (set lx s d) i b ∙ at i b)
    where
      last : part (get_or lp k 0) (get_or (set next k (s + 1)) k 0) (set lx s d) ≡ (d ∷ [])
      last =
          let z : s - s ≡ 0 = omega arith in
          rw (get_or-set_same next k (s + 1) 0 n, e) (part-push s s lx d (omega arith) g ∙ (rw z))

      at : (i : ℕ) → i < k + 1 → part (get_or lp i 0) (get_or (set next k (s + 1)) i 0) (set lx s d) ≡ get_or (held k lp next lx ++ ((d ∷ []) ∷ []))
          i []
      at i m =
          ⊎_elim
          (λ (q : k ≤ i). let z : i ≡ k = omega arith in
          rw z (last ∙ sym (get_or_at (held k lp next lx) (d ∷ []) [] [] k (length-held k lp next lx))))
          (λ (q : i < k).
          rw (get_or-set_other next k i (s + 1) 0 (λ z. omega arith))
          (part_apart (get_or lp i 0) (get_or next i 0) s lx d (inl (apart i q)) ∙
          sym (get_or-append (held k lp next lx) ((d ∷ []) ∷ []) [] i (omega (arith, length-held k lp next lx)) ∙ held_at k lp next lx i q)))
          (le-or-lt k i)

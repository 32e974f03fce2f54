-- L's columns: the transpose's members, that they rise, and how many there are. Assumes nothing.
use mathlib.Core.Path.{◌≡◌, ◌∙◌}
use mathlib.Core.Logic.{◌⊎◌, inl, inr, ◌↔◌}
use mathlib.Core.Bool.{true, false}
use mathlib.Core.List.{List, [], ◌∷◌, Memᴰ}
use Prim.Native.Nat.{ℕ, zero, suc, ◌+◌, ◌≤◌, ◌<◌}
use native.Mathlib.Omega.{arith}
use lib.ListN.{get_or, length}
use Rattle.lists.specs.Order.{lists, Rising, flat, step}
use Rattle.lists.proofs.Tables.{length-table, get_or-table}
use Rattle.cs_tree.specs.Tree.{root}
use Rattle.cs_tree.specs.Pattern.{upper_column, upper, across, lower}
use Rattle.cs_tree.specs.Least.{Fill}
use Rattle.lists.proofs.Members.{listed-or-not}
use Rattle.cs_tree.proofs.Upper.{listed_filled, filled_listed}
use Rattle.cs_tree.proofs.Laws.{upper-at}

pub rising_from : {b c : ℕ} {l : List ℕ} → c ≤ b → Rising b l → Rising c l
rising_from h flat = flat
rising_from {c = c} h (step {x = x} l r) = step {b = c} {x = x} (omega arith) r

pub across-rises : (j b : ℕ) (us : List (List ℕ)) → Rising b (across j b us)
unfolding across
across-rises j b [] = flat
across-rises j b (c ∷ cs) = elim (listed-or-not j c) [
  | inl d ↦ rw (d.0, across) (step {b = b} {x = b} (omega arith) (across-rises j (suc b) cs))
  | inr d ↦ rw (d.0, across) (rising_from (omega arith) (across-rises j (suc b) cs))
]

pub across_full : (j b d : ℕ) (us : List (List ℕ)) → Memᴰ j (get_or us d []) → Memᴰ (b + d) (across j b us)
unfolding across
across_full j b d [] m = absurd (mathlib.Core.List.Memᴰ.not-nil m)
across_full j b zero (c ∷ cs) m = elim (listed-or-not j c) [
  | inl q ↦ rw (q.0, across) (mathlib.Core.List.Memᴰ.head {x = b} (omega arith))
  | inr q ↦ absurd (q.1 m)
]
across_full j b (suc d) (c ∷ cs) m =
    let r : Memᴰ (b + suc d) (across j (suc b) cs) = mathlib.Core.List.Memᴰ.cast (omega arith) (across_full j (suc b) d cs m) in
    elim (listed-or-not j c) [ inl q ↦ rw (q.0, across) (mathlib.Core.List.Memᴰ.tail r) | inr q ↦ rw (q.0, across) r ]

pub record At (j b k : ℕ) (us : List (List ℕ)) : Type 0 where
  pub col : ℕ
  pub is : k ≡ b + col
  pub mem : Memᴰ j (get_or us col [])

pub across_sound : (j b k : ℕ) (us : List (List ℕ)) → Memᴰ k (across j b us) → At j b k us
unfolding across
across_sound j b k [] m = absurd (mathlib.Core.List.Memᴰ.not-nil m)
across_sound j b k (c ∷ cs) m = go (listed-or-not j c) (across_sound j (suc b) k cs)
  where
    later : At j (suc b) k cs → At j b k (c ∷ cs)
    later a = record { col = suc a.col; is = omega (arith, a.is); mem = a.mem }

    go : ((lists j c ≡ true) × Memᴰ j c) ⊎ ((lists j c ≡ false) × ¬ Memᴰ j c) → (Memᴰ k (across j (suc b) cs) → At j (suc b) k cs) → At j b k (c ∷ cs)
    go (inl q) ih = elim (mathlib.Core.List.Memᴰ.cases_cons (rw (q.0, across) at m)) [
      | inl e ↦ record { col = 0; is = omega arith; mem = q.1 }
      | inr t ↦ later (ih t)
    ]
    go (inr q) ih = later (ih (rw (q.0, across) at m))

module _ (cols : List (List ℕ)) (fits : length cols ≤ root) where
  pub length-upper : length (upper cols) ≡ length cols
  unfolding upper
  length-upper = length-table (length cols) (upper_column cols)

  pub lower-at : (j : ℕ) → j < length cols → get_or (lower cols) j [] ≡ across j 0 (upper cols)
  unfolding lower
  lower-at j l = get_or-table (length (upper cols)) (λ j. across j 0 (upper cols)) j [] (rw length-upper l)

  pub lower_fill : (k j : ℕ) → j < length cols → Memᴰ k (get_or (lower cols) j []) ↔ Fill cols j k
  lower_fill k j l = rw (lower-at j l) (
    (λ m. let a = across_sound j 0 k (upper cols) m in
        rw (a.is ∙ (let z : 0 + a.col ≡ a.col = omega arith in z)) (listed_filled cols fits j a.col (rw (upper-at cols fits a.col) at a.mem))),
    (λ f. mathlib.Core.List.Memᴰ.cast (omega arith) (across_full j 0 k (upper cols) (rw (upper-at cols fits k) (filled_listed cols fits j k f)))),
  )

  pub lower-rises : (j : ℕ) → j < length cols → Rising 0 (get_or (lower cols) j [])
  lower-rises j l = rw (lower-at j l) (across-rises j 0 (upper cols))

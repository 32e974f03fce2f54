-- A column between its two pointers: where it starts and ends, and what stands in it. Assumes nothing.
use mathlib.Core.Path.{◌≡◌, sym, ap, ◌∙◌}
use mathlib.Core.List.{List, [], flatten}
use Prim.Native.Nat.{ℕ, ◌+◌, ◌-◌, ◌≤◌, ◌<◌}
use native.Mathlib.Omega.{arith}
use lib.ListN.{length, get_or, take}
use Rattle.lists.specs.Parts.{part}
use Rattle.lists.proofs.Parts.{length_part, get_d_part}
use Rattle.cs_tree.specs.Pattern.{entries}
use Rattle.cs_tree.specs.Steps.{numbers, Pointed}
use Rattle.cs_tree.proofs.Laid.{entries-more, entries-part, numbered_at}

module _ {us : List (List ℕ)} {up : List ℕ} (p : Pointed us up) {k b f : ℕ} (h : k < length us) (x : b ≡ get_or up k 0)
    (y : f ≡ get_or up (k + 1) 0) where
  pub between_start : b ≡ entries (take k us)
  between_start = x ∙ p.at k (omega arith)

  pub between-end : f ≡ entries (take (k + 1) us)
  between-end = y ∙ p.at (k + 1) (omega arith)

  pub between-size : f ≡ b + length (get_or us k [])
  between-size = omega (arith, between_start, between-end, entries-more us k h)

  pub between_order : b ≤ f
  between_order = omega (arith, between-size)

  pub between-last : f ≤ entries us
  between-last = omega (arith, between-end, entries-part us (k + 1))

  module _ (ui : List ℕ) (r : entries us ≤ length ui) (l : (q : ℕ) → q < entries us → get_or ui q 0 ≡ get_or (flatten us) q 0) where
    pub between_long : length (part b f ui) ≡ f - b
    between_long = length_part b f ui (omega (arith, between-last))

    pub between_keyed : (q : ℕ) → q < length (part b f ui) → get_or (flatten us) (entries (take k us) + q) 0 ≡ get_or (part b f ui) q 0
    between_keyed q m =
        let d : q < f - b = omega (arith, between_long) in
        sym (get_d_part b f ui q 0 d ∙ l (b + q) (omega (arith, between-last)) ∙ ap (λ (z : ℕ). get_or (flatten us) (z + q) 0) between_start)

    pub between_numbered : (q : ℕ) → q < length (part b f ui) → get_or (numbers 0 us) (entries (take k us) + q) 0 ≡ k
    between_numbered q m = numbered_at 0 us k q (omega (arith, between_long, between-size)) ∙ (let z : 0 + k ≡ k = omega arith in z)

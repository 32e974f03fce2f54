-- A loop that puts f of each element in its place, over the element type. Assumes nothing.
use Rattle.std.proofs.Common.{◌≡◌, ℕ, ◌+◌, ◌<◌, ◌≤◌, List, [], ◌∷◌, ◌++◌, map, length, get_or, take, drop, set, refl, ap, ◌∙◌, append_assoc}
use Rattle.std.proofs.Common.{append-nil, add-one, arith, length-append, length-drop, length-take-le, take_all, take-suc}
use mathlib.Core.List.{map-append}
use lib.ListN.{length-map}
use lib.Seq.{set_at, get_or_at}
use Rattle.lists.proofs.Parts.{left_at, left-none}

module _ {A : Type 0} (f : A → A) where
  -- the first k elements are done
  pub record Mapping (l₀ l : List A) (k : ℕ) : Type 0 where
    pub within : k ≤ length l₀
    pub is : l ≡ map f (take k l₀) ++ drop k l₀

  pub mapping_start : (l : List A) → Mapping l l 0
  mapping_start l = record { within = omega arith; is = refl }

  module _ {l₀ l : List A} {k : ℕ} (v : Mapping l₀ l k) where
    front : length (map f (take k l₀)) ≡ k
    front = length-map (take k l₀) f ∙ length-take-le k l₀ v.within

    pub mapping_long : length l ≡ length l₀
    mapping_long = rw v.is (omega (arith, length-append (map f (take k l₀)) (drop k l₀), front, length-drop k l₀, v.within))

    module _ (z : A) (h : k < length l) where
      in_l₀ : k < length l₀
      in_l₀ = omega (arith, mapping_long)

      is_at : l ≡ map f (take k l₀) ++ (get_or l₀ k z ∷ drop (k + 1) l₀)
      is_at = v.is ∙ ap (λ (t : List A). map f (take k l₀) ++ t) (left_at l₀ k z in_l₀)

      -- the element there is still what it was
      unchanged : get_or l k z ≡ get_or l₀ k z
      unchanged = rw is_at (get_or_at (map f (take k l₀)) (get_or l₀ k z) (drop (k + 1) l₀) z k front)

      pub mapping_turn : {x : A} → x ≡ f (get_or l k z) → Mapping l₀ (set l k x) (k + 1)
      mapping_turn {x = x} e =
          let t : map f (take (k + 1) l₀) ≡ map f (take k l₀) ++ (f (get_or l₀ k z) ∷ []) =
          rw (add-one, take-suc l₀ k z in_l₀) (map-append f (take k l₀) (get_or l₀ k z ∷ [])) in
          record {
            within = omega (arith, mapping_long);
            is = rw (t, append_assoc, ← unchanged, ← e) (ap (λ (q : List A). set q k x) is_at ∙
                set_at (map f (take k l₀)) (get_or l₀ k z) (drop (k + 1) l₀) x k front);
          }

    pub mapping_done : length l ≤ k → l ≡ map f l₀
    mapping_done h =
        let g : length l₀ ≤ k = omega (arith, mapping_long) in
        v.is ∙ (rw (take_all k l₀ g, left-none l₀ k g) (append-nil (map f l₀)))

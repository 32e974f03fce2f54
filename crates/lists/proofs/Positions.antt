-- Lists by their places: members, parts of parts, lists laid one behind the other, and folds that leave something as it is.
-- Assumes nothing.
use Rattle.std.proofs.Common.{◌≡◌, ℕ, zero, suc, ◌+◌, ◌-◌, ◌<◌, ◌≤◌, List, [], ◌∷◌, ◌++◌, length, get_or, take, drop, sym, refl, ap, ◌∙◌}
use Rattle.std.proofs.Common.{append_assoc, append-nil, add-one, arith, length-append, length-drop, get_or-drop, take-suc, drop-drop, ext_get_or}
use mathlib.Core.List.{flatten, Memᴰ}
use Rattle.lists.specs.Folds.{along, over}
use Rattle.lists.specs.Order.{Once, no_more, one_more}
use Rattle.lists.specs.Parts.{part}
use Rattle.lists.proofs.Laying.{part_at}
use Rattle.lists.proofs.Parts.{drop-take}
use Rattle.lists.proofs.Spots.{member_at}

-- ---- members
pub once-apart : {l : List ℕ} → Once l → (q r : ℕ) → q < r → r < length l → get_or l q 0 ≡ get_or l r 0 → ⊥
once-apart no_more q r h g e = omega arith
once-apart (one_more {x = x} {xs = xs} n o) q zero h g e = omega arith
once-apart (one_more {x = x} {xs = xs} n o) zero (suc r) h g e = n (rw e (member_at xs r (omega arith)))
once-apart (one_more {x = x} {xs = xs} n o) (suc q) (suc r) h g e = once-apart o q r (omega arith) (omega arith) e

module _ {A : Type 0} where
  -- ---- parts
  pub part-drop : (a m e : ℕ) (l : List A) → part (a + m) e l ≡ drop m (part a e l)
  part-drop a m e l =
      let d : e - (a + m) ≡ (e - a) - m = omega arith in
      rw d (sym (drop-take m (e - a) (drop a l) ∙ ap (take ((e - a) - m)) (drop-drop m a l)))

  -- equal from place t on
  pub drop-same : (z : A) (t : ℕ) (l d : List A) → length l ≡ length d → ((q : ℕ) → t ≤ q → get_or l q z ≡ get_or d q z) → drop t l ≡ drop t d
  drop-same z t l d e h = ext_get_or z (drop t l) (drop t d) (omega (arith, length-drop t l, length-drop t d)) (λ q g. get_or-drop t l q z ∙
      h (t + q) (omega arith) ∙ sym (get_or-drop t d q z))

  -- ---- lists laid one behind the other
  pub flatten_last : (us : List (List A)) (c : List A) → flatten (us ++ (c ∷ [])) ≡ flatten us ++ c
  unfolding flatten
  flatten_last [] c = append-nil c
  flatten_last (u ∷ us) c = ap (λ (l : List A). u ++ l) (flatten_last us c) ∙ sym (append_assoc u (flatten us) c)

  pub flatten_at : (us : List (List A)) (k : ℕ) → k < length us → flatten us ≡ flatten (take k us) ++ (get_or us k [] ++ flatten (drop (suc k) us))
  unfolding flatten
  flatten_at [] k h = absurd (omega arith)
  flatten_at (c ∷ cs) zero h = refl
  flatten_at (c ∷ cs) (suc k) h = ap (λ (l : List A). c ++ l) (flatten_at cs k (omega arith)) ∙
      sym (append_assoc c (flatten (take k cs)) (get_or cs k [] ++ flatten (drop (suc k) cs)))

  -- list k again, between its two places; more may stand behind
  pub part-flat : (us : List (List A)) (r : List A) (k a e : ℕ) → k < length us → length (flatten (take k us)) ≡ a →
      length (flatten (take (k + 1) us)) ≡ e → part a e (flatten us ++ r) ≡ get_or us k []
  part-flat us r k a e h f g =
      let x = flatten (take k us) in
      let c = get_or us k [] in
      let y = flatten (drop (suc k) us) in
      let z : take (k + 1) us ≡ take k us ++ (c ∷ []) = rw add-one (take-suc us k [] h) in
      let l : length x + length c ≡ e = sym (length-append x c) ∙ ap length (sym (flatten_last (take k us) c)) ∙
      ap (λ (t : List (List A)). length (flatten t)) (sym z) ∙ g in
      let d : flatten us ++ r ≡ x ++ (c ++ (y ++ r)) = ap (λ (t : List A). t ++ r) (flatten_at us k h) ∙ append_assoc x (c ++ y) r ∙
      ap (λ (t : List A). x ++ t) (append_assoc c y r) in
      ap (part a e) d ∙ part_at x c (y ++ r) a e f (omega arith)

-- ---- folds
-- what no step changes
module _ {A S B : Type 0} (r : S → B) where
  pub along-keeps : (f : A → S → S) (l : List A) → ((a : A) (s : S) → Memᴰ a l → r (f a s) ≡ r s) → (s : S) → r (along f l s) ≡ r s
  unfolding along
  along-keeps f [] h s = refl
  along-keeps f (a ∷ l) h s = along-keeps f l (λ i t m. h i t (Memᴰ.tail m)) (f a s) ∙ h a s (Memᴰ.head refl)

module _ {A C S B : Type 0} (r : S → B) where
  pub over-keeps : (f : A → C → S → S) (l : List A) (m : List C) → ((a : A) (v : C) (s : S) → Memᴰ a l → r (f a v s) ≡ r s) → (s : S) →
      r (over f l m s) ≡ r s
  unfolding over
  over-keeps f [] m h s = refl
  over-keeps f (a ∷ l) [] h s = refl
  over-keeps f (a ∷ l) (v ∷ m) h s = over-keeps f l m (λ i w t n. h i w t (Memᴰ.tail n)) (f a v s) ∙ h a v s (Memᴰ.head refl)

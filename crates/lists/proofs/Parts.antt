-- A list by its parts: what is left of it at an index, the part between two places, a front that was written. Assumes nothing.
use Rattle.std.proofs.Common.{◌≡◌, ℕ, zero, suc, ◌+◌, ◌-◌, ◌<◌, ◌≤◌, List, [], ◌∷◌, ◌++◌, length, get_or, take, drop, set, sym, refl, ◌∙◌, ⊎_elim}
use Rattle.std.proofs.Common.{append_assoc, add-one, arith, length-append, length-drop, drop_of_length-le, length-take-le, get_or-drop, drop-cons}
use Rattle.std.proofs.Common.{get_or-take, take-take, take-suc-set, get_or-append-add, ext_get_or}
use lib.ListN.{get_or-append}
use lib.Seq.{set_at, take-nil}
use Rattle.lists.specs.Parts.{part, placed}
use Rattle.lists.specs.Calls.{onto}
use Rattle.lists.proofs.Bools.{le-or-lt}

module _ {A : Type 0} where
  -- what is left at k is the element there, and what is left at k + 1; at the end nothing is left
  pub left_at : (l : List A) (k : ℕ) (d : A) → k < length l → drop k l ≡ get_or l k d ∷ drop (k + 1) l
  left_at l k d h = rw (add-one, drop-cons l k d)

  pub left-none : (l : List A) (k : ℕ) → length l ≤ k → drop k l ≡ []
  left-none l k h = drop_of_length-le l h

  -- a store at k goes behind what has been written, and before what is still to come
  pub written-more : (l : List A) (k : ℕ) (v : A) (r : List A) → k < length l → take (k + 1) (set l k v) ++ r ≡ take k l ++ (v ∷ r)
  written-more l k v r h = rw (add-one, take-suc-set l k v, append_assoc)

  -- ---- a part
  pub length_part : (a b : ℕ) (l : List A) → b ≤ length l → length (part a b l) ≡ b - a
  length_part a b l h = length-take-le (b - a) (drop a l) (omega (arith, length-drop a l))

  pub get_d_part : (a b : ℕ) (l : List A) (k : ℕ) (d : A) → k < b - a → get_or (part a b l) k d ≡ get_or l (a + k) d
  get_d_part a b l k d h = get_or-take (b - a) (drop a l) k d h ∙ get_or-drop a l k d

  pub drop-take : (m n : ℕ) (l : List A) → drop m (take n l) ≡ take (n - m) (drop m l)
  drop-take zero n l = let e : n - 0 ≡ n = omega arith in rw e refl
  drop-take (suc m) zero l = let e : 0 - suc m ≡ 0 = omega arith in rw e refl
  drop-take (suc m) (suc n) [] = sym (take-nil (suc n - suc m))
  drop-take (suc m) (suc n) (x ∷ l) = let e : suc n - suc m ≡ n - m = omega arith in rw e (drop-take m n l)

  -- a part lies in every front that reaches over it
  pub part-take : (a b q : ℕ) (l : List A) → a ≤ b → b ≤ q → part a b (take q l) ≡ part a b l
  part-take a b q l h g =
      rw (drop-take a q l, take-take (b - a) (q - a) (drop a l) (omega arith))

  -- ---- a part that comes back
  pub length-placed : (a b : ℕ) (l ys : List A) → a ≤ b → b ≤ length l → length ys ≡ b - a → length (placed a b l ys) ≡ length l
  length-placed a b l ys h g e =
      omega (
        arith,
        length-append (take a l) (ys ++ drop (b - a) (drop a l)),
        length-append ys (drop (b - a) (drop a l)),
        length-drop (b - a) (drop a l),
        length-drop a l,
        length-take-le a l (omega arith),
      )

  -- ---- the front of a list
  at_front : (g d : List A) (z : A) (k : ℕ) → length g ≤ k → get_or (g ++ drop (length g) d) k z ≡ get_or d k z
  at_front g d z k m =
      let e : length g + (k - length g) ≡ k = omega arith in
      (rw e at (get_or-append-add g (drop (length g) d) (k - length g) z)) ∙ (rw e at (get_or-drop (length g) d (k - length g) z))

  -- a list as long as d that holds g in front, and behind it what d holds
  pub front : (z : A) (g l d : List A) → length g ≤ length d → length l ≡ length d
      → ((k : ℕ) → k < length g → get_or l k z ≡ get_or g k z) → ((k : ℕ) → length g ≤ k → get_or l k z ≡ get_or d k z) → l ≡ onto d g
  unfolding onto
  front z g l d h e p q =
      ext_get_or z l (g ++ drop (length g) d) (omega (arith, length-append g (drop (length g) d), length-drop (length g) d))
      (λ k m.
      ⊎_elim
      (λ (n : length g ≤ k). q k n ∙ sym (at_front g d z k n))
      (λ (n : k < length g). p k n ∙ sym (get_or-append g (drop (length g) d) z k n))
      (le-or-lt (length g) k))

  pub length-onto : (d g : List A) → length g ≤ length d → length (onto d g) ≡ length d
  unfolding onto
  length-onto d g h = omega (arith, length-append g (drop (length g) d), length-drop (length g) d)

  pub get_or-onto-front : (d g : List A) (z : A) (k : ℕ) → k < length g → get_or (onto d g) k z ≡ get_or g k z
  unfolding onto
  get_or-onto-front d g z k h = get_or-append g (drop (length g) d) z k h

  pub get_or-onto-rest : (d g : List A) (z : A) (k : ℕ) → length g ≤ k → get_or (onto d g) k z ≡ get_or d k z
  unfolding onto
  get_or-onto-rest d g z k h = at_front g d z k h

  -- one more element in front
  pub onto-more : (d g : List A) (x : A) → length g < length d → set (onto d g) (length g) x ≡ onto d (g ++ (x ∷ []))
  unfolding onto
  onto-more d g x h =
      let n : length (g ++ (x ∷ [])) ≡ length g + 1 = omega (arith, length-append g (x ∷ [])) in
      rw (left_at d (length g) x h, n, append_assoc) (set_at g (get_or d (length g) x) (drop (length g + 1) d) x (length g) refl)

  pub onto-none : (d : List A) → d ≡ onto d []
  unfolding onto
  onto-none d = refl

-- numbers that are all below m are so in a part
pub part-below : (a e m : ℕ) (l : List ℕ) → e ≤ length l → ((k : ℕ) → k < length l → get_or l k 0 < m) → (k : ℕ) → k < length (part a e l) →
    get_or (part a e l) k 0 < m
part-below a e m l h f k g = let n = length_part a e l h in rw (get_d_part a e l k 0 (omega arith)) (f (a + k) (omega (arith, n)))

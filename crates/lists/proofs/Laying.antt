-- Lists laid one behind another: in a slice, written front by front; and columns, found again by where they start. Assumes nothing.
use Rattle.std.proofs.Common.{◌≡◌, ℕ, ◌+◌, ◌-◌, ◌<◌, ◌≤◌, List, [], ◌∷◌, ◌++◌, length, get_or, take, drop, set, replicate, sym, refl, ap, ◌∙◌}
use Rattle.std.proofs.Common.{append_assoc, append-nil, add-one, arith, length-append, length-take-le, take_all, take-suc, drop-drop, take_at}
use Rattle.std.proofs.Common.{drop_at}
use lib.Seq.{drop-length}
use Rattle.lists.specs.Calls.{onto, cleared}
use Rattle.lists.specs.Parts.{part, placed}
use Rattle.lists.proofs.Parts.{onto-none, onto-more, length-onto}

module _ {A : Type 0} where
  -- what is written from a to b, behind a front of a
  pub onto-placed : (d g ys : List A) (a b : ℕ) → length g ≡ a → a ≤ b → length ys ≡ b - a → placed a b (onto d g) ys ≡ onto d (g ++ ys)
  unfolding onto
  onto-placed d g ys a b e h f =
      let n : length (g ++ ys) ≡ a + (b - a) = omega (arith, length-append g ys) in
      rw (take_at g (drop (length g) d) a e, drop_at g (drop (length g) d) a e, e, drop-drop (b - a) a d, n)
      (sym (append_assoc g ys (drop (a + (b - a)) d)))

  -- a whole front
  pub placed-front : (d ys : List A) (n : ℕ) → length ys ≡ n → placed 0 n d ys ≡ onto d ys
  unfolding onto
  placed-front d ys n e = let z : n - 0 ≡ n = omega arith in rw (z, e)

  -- the part from a to b of what is laid behind a front of a
  pub part_at : (g ys r : List A) (a b : ℕ) → length g ≡ a → length ys ≡ b - a → part a b (g ++ (ys ++ r)) ≡ ys
  part_at g ys r a b e f = rw (drop_at g (ys ++ r) a e, take_at ys r (b - a) f)

  -- the front of a slice that holds a front
  pub take-onto : (d g : List A) (n : ℕ) → length g ≡ n → take n (onto d g) ≡ g
  unfolding onto
  take-onto d g n e = take_at g (drop (length g) d) n e

  -- a whole slice written
  pub onto-whole : (d g : List A) → length g ≡ length d → onto d g ≡ g
  unfolding onto
  onto-whole d g e = rw (e, drop-length d) (append-nil g)

  -- the first n elements, lent as a part
  pub part-front : (n : ℕ) (l : List A) → part 0 n l ≡ take n l
  part-front n l = let z : n - 0 ≡ n = omega arith in rw z

  pub part_long : (n : ℕ) (l : List A) → n ≤ length l → length (part 0 n l) ≡ n
  part_long n l h = rw (part-front n l) (length-take-le n l h)

  pub part-onto : (n : ℕ) (d g : List A) → length g ≡ n → part 0 n (onto d g) ≡ g
  part-onto n d g e = part-front n (onto d g) ∙ take-onto d g n e

  -- a slice cleared whole
  pub cleared-all : (z : A) (l : List A) → cleared z (length l) l ≡ replicate (length l) z
  unfolding cleared
  cleared-all z [] = refl
  cleared-all z (x ∷ l) = ap (λ (t : List A). z ∷ t) (cleared-all z l)

  -- the loop that copies: k elements are written
  pub record Copying (from out₀ out : List A) (k : ℕ) : Type 0 where
    pub within : k ≤ length from
    pub room : length from ≤ length out₀
    pub is : out ≡ onto out₀ (take k from)

  pub copying_start : {from out : List A} → length from ≤ length out → Copying from out out 0
  copying_start {out = out} h = record { within = omega arith; room = h; is = onto-none out }

  module _ {from out₀ out : List A} {k : ℕ} (v : Copying from out₀ out k) where
    taken : length (take k from) ≡ k
    taken = length-take-le k from v.within

    pub copying_long : length out ≡ length out₀
    copying_long = rw v.is (length-onto out₀ (take k from) (omega (arith, taken, v.room, v.within)))

    pub copying_turn : (d : A) → k < length from → Copying from out₀ (set out k (get_or from k d)) (k + 1)
    copying_turn d h =
        let g = onto-more out₀ (take k from) (get_or from k d) (omega (arith, taken, v.room)) in
        record { within = omega arith; room = v.room; is = rw (v.is, add-one, take-suc from k d h) (rw taken at g) }

    pub copying_done : length from ≤ k → out ≡ onto out₀ from
    copying_done h = v.is ∙ ap (onto out₀) (take_all k from h)

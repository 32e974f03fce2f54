-- Slices whose front was lent and came back: their length, and what is left once it is cleared. Assumes nothing.
use Rattle.std.proofs.Common.{◌≡◌, ℕ, ◌-◌, ◌<◌, ◌≤◌, List, length, take, replicate, sym, ◌∙◌, arith, length-take-le, get_or-take, ext_get_or}
use lib.ListN.{length-replicate, get_or-replicate}
use Rattle.lists.specs.Calls.{cleared, onto}
use Rattle.lists.specs.Parts.{part, placed}
use Rattle.lists.proofs.Clearing.{length-cleared, cleared-front, cleared-rest, cleared-same}
use Rattle.lists.proofs.Laying.{part_long, part-front}
use Rattle.lists.proofs.Parts.{length-placed, front}
use Rattle.lists.proofs.Places.{placed-after}

-- a front that came back
pub back_long : {A : Type 0} (n : ℕ) (l ys : List A) → n ≤ length l → length ys ≡ length (part 0 n l) → length (placed 0 n l ys) ≡ length l
back_long n l ys h e = length-placed 0 n l ys (omega arith) h (e ∙ part_long n l h ∙ omega arith)

module _ {A : Type 0} (z : A) where
  -- a cleared front, handed on
  pub front-zeros : (n m : ℕ) (l : List A) → n ≤ m → m ≤ length l → part 0 n (cleared z m l) ≡ replicate n z
  front-zeros n m l h g =
      let k : n ≤ length (cleared z m l) = omega (arith, length-cleared z m l) in
      part-front n (cleared z m l)
      ∙ ext_get_or z (take n (cleared z m l)) (replicate n z) (length-take-le n (cleared z m l) k ∙ sym (length-replicate n z))
      (λ i b. let c : i < n = omega (arith, length-take-le n (cleared z m l) k) in get_or-take n (cleared z m l) i z c ∙
      cleared-front z m l i (omega arith) ∙ sym (get_or-replicate n i z z c))

  -- cleared, whatever came back in front
  pub cleared-after : (n m : ℕ) (l ys : List A) → n ≤ m → n ≤ length l → length ys ≡ n → cleared z m (placed 0 n l ys) ≡ cleared z m l
  cleared-after n m l ys h g e =
      let d : length ys ≡ n - 0 = omega arith in
      cleared-same z m (placed 0 n l ys) l (length-placed 0 n l ys (omega arith) g d)
      (λ q b. placed-after z 0 n l ys (omega arith) g d q (omega arith))

  -- a front that was written, then cleared
  pub cleared-written : (t : ℕ) (l ys : List A) → t ≤ length l → length ys ≡ t → cleared z t (placed 0 t l ys) ≡ onto l (replicate t z)
  cleared-written t l ys h e =
      let d : length ys ≡ t - 0 = omega arith in
      let r = length-replicate t z in
      let c = length-placed 0 t l ys (omega arith) h d in
      front z (replicate t z) (cleared z t (placed 0 t l ys)) l (omega arith) (length-cleared z t (placed 0 t l ys) ∙ c)
      (λ k b. cleared-front z t (placed 0 t l ys) k (omega arith) ∙ sym (get_or-replicate t k z z (omega arith)))
      (λ k b. cleared-rest z t (placed 0 t l ys) k (omega arith) ∙ placed-after z 0 t l ys (omega arith) h d k (omega arith))
